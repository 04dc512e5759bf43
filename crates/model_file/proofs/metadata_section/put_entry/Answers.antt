use Rattle.std.proofs.Common.{◌≡◌, ◌≢◌, ◌∷◌, IsTrue, false, sym, ap, ◌∙◌, subst, rules}
use Rattle.std.specs.Prelude.{codes}
use Rattle.std.proofs.lemmas.Result.{err_from_is_err_and, on_ok_weaker}
use Rattle.settings_maps.specs.TxName.{is_meta_name}
use Rattle.model_file.specs.Checks.{meta_checks, last_name}
use Rattle.model_file.specs.Entries.{Path}
use Rattle.model_file.specs.Refused.{Refuses, IsAt}
use Rattle.model_file.specs.declared.found.Found.TheVariants as found
use Rattle.model_file.specs.declared.model_error.ModelKind.TheVariants.{BadMetadata, BadValue}
use Rattle.toml_values.specs.declared.located_fault.LocatedFault.{LocatedFault}
use Rattle.toml_values.specs.declared.located_fault.LocatedFault.TheVariants.{Memory}
use Rattle.model_file.specs.declared.model_error.ModelKind.{ModelKind}
use Rattle.model_file.proofs.Checking.{both_err}
use Rattle.model_file.proofs.MetaChecks.{by_key, table_passes, value_passes, name_refuses, other_value_refuses}
use Rattle.model_file.proofs.metadata_section.put_entry.Goals as goal

pub returns-in_err-key-clause-refused : goal.returns-in_err-key-clause-refused
returns-in_err-key-clause-refused c =
    let p = err_from_is_err_and c.from_residual.result c.from_residual.ensures.1 in
    λ rows. rw (p.1, p.2) (by_key rows c.args.entry.now _ (c.in_err-key.ensures.refused rows))

pub returns-in-Table-clause-passes : goal.returns-in-Table-clause-passes
returns-in-Table-clause-passes c =
    let is : c.args.entry.now.1 ≡ found.Table = search rules in
    λ rows. table_passes rows c.args.entry.now is (c.in_ok-key.ensures.passes rows)

pub returns-in-Value-clause-passes : goal.returns-in-Value-clause-passes
returns-in-Value-clause-passes c =
    let is : c.args.entry.now.1 ≡ found.Value c.in-Value.value = search rules in
    let path : c.deref.result.now ≡ c.args.entry.now.0 = search rules in
    λ rows. on_ok_weaker c.put_value.result
    (λ (named : IsTrue (is_meta_name (last_name c.deref.result.now))). value_passes rows c.args.entry.now c.in-Value.value is (c.in_ok-key.ensures.passes rows)
    (subst (λ (p : Path). IsTrue (is_meta_name (last_name p))) path named))
    c.put_value.ensures.named

pub returns-in-Value-clause-refused : goal.returns-in-Value-clause-refused
returns-in-Value-clause-refused c =
    let is : c.args.entry.now.1 ≡ found.Value c.in-Value.value = search rules in
    let path : c.deref.result.now ≡ c.args.entry.now.0 = search rules in
    λ rows. both_err c.put_value.result (λ (e : LocatedFault ModelKind). e ≢ Memory → is_meta_name (last_name c.deref.result.now) ≡ false)
    (IsAt BadMetadata (codes "metadata" ∷ c.deref.result.now)) (Refuses rows (meta_checks c.args.entry.now))
    (λ e other at. name_refuses rows c.args.entry.now c.in-Value.value e is (c.in_ok-key.ensures.passes rows)
    (λ some. ap (λ (p : Path). is_meta_name (last_name p)) (sym path) ∙ other some)
    (subst (λ (p : Path). IsAt BadMetadata (codes "metadata" ∷ p) e) path at))
    c.put_value.ensures.cause c.put_value.ensures.refused

pub returns-in-Other-clause-refused : goal.returns-in-Other-clause-refused
returns-in-Other-clause-refused c =
    let is : c.args.entry.now.1 ≡ found.Other = search rules in
    let path : c.deref-in-Other.result.now ≡ c.args.entry.now.0 = search rules in
    λ rows. other_value_refuses rows c.args.entry.now c.refused.result is (c.in_ok-key.ensures.passes rows)
    (subst (λ (p : Path). IsAt BadValue (codes "metadata" ∷ p) c.refused.result) path c.refused.ensures)
