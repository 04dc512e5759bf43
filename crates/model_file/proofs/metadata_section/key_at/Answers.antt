use Rattle.std.proofs.Common.{◌≡◌, ◌∷◌, false, sym, ap, ◌∙◌, subst, rules}
use Rattle.std.specs.Prelude.{codes}
use Rattle.key_names.specs.Key.{is_key, is_prefix}
use Rattle.settings_tree.specs.Content.{settings_key}
use Rattle.model_file.specs.Entries.{Path}
use Rattle.model_file.specs.Refused.{IsAt}
use Rattle.model_file.specs.declared.model_error.ModelKind.TheVariants.{BadMetadata, BadKey}
use Rattle.model_file.proofs.MetaChecks.{none_if, some_if, other_refuses, key_refuses}
use Rattle.model_file.proofs.metadata_section.key_at.Goals as goal

pub returns-in_default-clause-refused : goal.returns-in_default-clause-refused
returns-in_default-clause-refused c =
    let other : is_prefix settings_key c.key_names.result.now ≡ false = search rules in
    let path : c.deref.result.now ≡ c.args.entry.now.0 = search rules in
    λ rows. other_refuses rows c.args.entry.now c.refused.result (ap (is_prefix settings_key) (sym c.key_names.ensures) ∙ other)
    (subst (λ (p : Path). IsAt BadMetadata (codes "metadata" ∷ p) c.refused.result) path c.refused.ensures)

pub returns-in-None-clause-refused : goal.returns-in-None-clause-refused
returns-in-None-clause-refused c =
    let names : c.key_names.result.now ≡ codes "settings" ∷ c.in-Some.names.now = search rules in
    let path : c.deref-in-None.result.now ≡ c.args.entry.now.0 = search rules in
    λ rows. key_refuses rows c.args.entry.now c.refused-in-None.result c.in-Some.names.now (sym c.key_names.ensures ∙ names)
    (none_if _ _ (sym c.in-None.is ∙ c.in_ok-key.ensures))
    (subst (λ (p : Path). IsAt BadKey (codes "metadata" ∷ p) c.refused-in-None.result) path c.refused-in-None.ensures)

pub returns-in-Some-2-clause-key : goal.returns-in-Some-2-clause-key
returns-in-Some-2-clause-key c =
    let names : c.key_names.result.now ≡ codes "settings" ∷ c.in-Some.names.now = search rules in
    let kept = some_if (is_key (codes "settings" ∷ c.in-Some.names.now)) c.in-Some-2.key (codes "settings" ∷ c.in-Some.names.now)
    (sym c.in-Some-2.is ∙ c.in_ok-key.ensures) in
    kept.1 ∙ sym names ∙ c.key_names.ensures

pub returns-in-Some-2-clause-passes : goal.returns-in-Some-2-clause-passes
returns-in-Some-2-clause-passes c =
    let names : c.key_names.result.now ≡ codes "settings" ∷ c.in-Some.names.now = search rules in
    let kept = some_if (is_key (codes "settings" ∷ c.in-Some.names.now)) c.in-Some-2.key (codes "settings" ∷ c.in-Some.names.now)
    (sym c.in-Some-2.is ∙ c.in_ok-key.ensures) in
    let is = sym c.key_names.ensures ∙ names in
    λ rows. (ap (is_prefix settings_key) is, (ap is_key is ∙ kept.0, tt))
