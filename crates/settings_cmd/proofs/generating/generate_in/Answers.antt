use Rattle.std.proofs.Common.{rules, ◌≡◌, ℕ, IsTrue, All, List, Err, sym, subst}
use Rattle.key_names.specs.Key.{is_prefix}
use Rattle.json_trees.specs.declared.scalar.Scalar.{Scalar}
use Rattle.settings_tree.specs.Content.{settings_key}
use Rattle.command_outcome.specs.Ends.{Outcome}
use Rattle.core_commands.specs.Handing.{HasSpawnCause}
use Rattle.core_commands.proofs.Causes.{spawn_same}
use Rattle.settings_cmd.proofs.Making.{generates_none, generates_pairs, spawn_committed}
use Rattle.settings_cmd.proofs.generating.generate_in.Goals as goal

pub commit_pairs-requires-clause-settings : goal.commit_pairs-requires-clause-settings
commit_pairs-requires-clause-settings g c =
    subst (λ (l : List (List (List ℕ) × Scalar)). All (λ pair. IsTrue (is_prefix settings_key pair.0)) l) (sym c.deref.ensures.value)
    c.in_ok-pairs.ensures.settings

pub returns-in_err-pairs-clause-generates : goal.returns-in_err-pairs-clause-generates
returns-in_err-pairs-clause-generates g c =
    let told : c.from_residual.result ≡ Err c.in_err-pairs.field-0.0 = search rules in
    generates_none _ _ c.args.store c.in_err-pairs.field-0.0 c.from_residual.result _ _ c.in_err-pairs.ensures.gives told c.generated.ensures.same

pub returns-in_err-pairs-clause-spawn : goal.returns-in_err-pairs-clause-spawn
returns-in_err-pairs-clause-spawn g c =
    let told : c.from_residual.result ≡ Err c.in_err-pairs.field-0.0 = search rules in
    let before = g.S.Spawner.faults c.args.spawner.now in
    let now = g.S.Spawner.faults c.generated.new.spawner in
    subst (λ (o : Outcome). HasSpawnCause before now o) (sym told) (spawn_same c.in_err-pairs.field-0.0 before now c.in_err-pairs.ensures.spawn)

pub returns-clause-generates : goal.returns-clause-generates
returns-clause-generates g c =
    generates_pairs _ _ c.args.store c.args.tx c.in_ok-pairs.pairs.items c.deref.result.now c.commit_pairs.result _ _ _ c.in_ok-pairs.ensures.gives
    c.requires.tx
    c.generated.ensures.same c.deref.ensures.value c.commit_pairs.ensures.commits

pub returns-clause-spawn : goal.returns-clause-spawn
returns-clause-spawn g c = spawn_committed c.in_ok-pairs.pairs c.commit_pairs.result _ _ c.in_ok-pairs.ensures.spawn c.commit_pairs.ensures.of_request
