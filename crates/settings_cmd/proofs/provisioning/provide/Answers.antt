use Rattle.std.proofs.Common.{rules, ◌≡◌, ℕ, IsTrue, All, List, Err, sym, subst}
use Rattle.key_names.specs.Key.{is_prefix}
use Rattle.json_trees.specs.declared.scalar.Scalar.{Scalar}
use Rattle.settings_tree.specs.Content.{settings_key}
use Rattle.command_outcome.specs.declared.refusal.Refusal.TheVariants as refused
use Rattle.core_commands.specs.Handing.{IsOfRequest}
use Rattle.settings_cmd.specs.UserData.{IsOfData}
use Rattle.settings_cmd.proofs.Making.{provides_none, provides_pairs, is_none_of, refused_of}
use Rattle.settings_cmd.proofs.provisioning.provide.Goals as goal

pub commit_pairs-requires-clause-settings : goal.commit_pairs-requires-clause-settings
commit_pairs-requires-clause-settings g c =
    subst (λ (l : List (List (List ℕ) × Scalar)). All (λ pair. IsTrue (is_prefix settings_key pair.0)) l) (sym c.deref.ensures.value)
    c.in_ok-pairs.ensures.settings

pub returns-in_err-pairs-clause-provides : goal.returns-in_err-pairs-clause-provides
returns-in_err-pairs-clause-provides g c =
    let told : c.from_residual.result ≡ Err c.in_err-pairs.field-0.0 = search rules in
    provides_none c.args.path.now c.args.store c.in_err-pairs.field-0.0 c.from_residual.result _ _ c.in_err-pairs.ensures.tells told c.data_at.ensures.same

pub returns-in_err-pairs-clause-unspawned : goal.returns-in_err-pairs-clause-unspawned
returns-in_err-pairs-clause-unspawned g c =
    let told : c.from_residual.result ≡ Err c.in_err-pairs.field-0.0 = search rules in
    λ name. is_none_of IsOfData c.from_residual.result (refused.Spawn name) (λ none. none)
    (refused_of IsOfData c.from_residual.result c.in_err-pairs.field-0.0 told c.in_err-pairs.ensures.of_data)

pub returns-in_err-pairs-clause-no_door : goal.returns-in_err-pairs-clause-no_door
returns-in_err-pairs-clause-no_door g c =
    let told : c.from_residual.result ≡ Err c.in_err-pairs.field-0.0 = search rules in
    is_none_of IsOfData c.from_residual.result refused.Door (λ none. none)
    (refused_of IsOfData c.from_residual.result c.in_err-pairs.field-0.0 told c.in_err-pairs.ensures.of_data)

pub returns-clause-provides : goal.returns-clause-provides
returns-clause-provides g c =
    provides_pairs c.args.path.now c.args.store c.args.tx c.in_ok-pairs.pairs.items c.deref.result.now c.commit_pairs.result _ _ _ c.in_ok-pairs.ensures.tells
    c.requires.tx
    c.data_at.ensures.same c.deref.ensures.value c.commit_pairs.ensures.commits

pub returns-clause-unspawned : goal.returns-clause-unspawned
returns-clause-unspawned g c = λ name. is_none_of IsOfRequest c.commit_pairs.result (refused.Spawn name) (λ none. none) c.commit_pairs.ensures.of_request

pub returns-clause-no_door : goal.returns-clause-no_door
returns-clause-no_door g c = is_none_of IsOfRequest c.commit_pairs.result refused.Door (λ none. none) c.commit_pairs.ensures.of_request
