use Rattle.std.proofs.Common.{◌≡◌, ◌∷◌, true, sym, ap, ◌∙◌, subst, rules}
use Rattle.std.proofs.lemmas.Result.{err_from_is_err_and}
use Rattle.key_names.specs.Key.{is_key}
use Rattle.key_names.specs.Packed.{segments_of}
use Rattle.settings_tree.specs.Content.{Contents}
use Rattle.settings_tree.specs.Rule.{Fits}
use Rattle.typed_settings.specs.Row.{IsKnown, IsTyped}
use Rattle.model_file.specs.Entries.{Path}
use Rattle.model_file.specs.Model.{AreTyped}
use Rattle.model_file.specs.Refused.{IsAt}
use Rattle.model_file.specs.declared.found.Found.TheVariants as found
use Rattle.model_file.specs.declared.model_error.ModelKind.TheVariants.{BadValue, IllTyped}
use Rattle.model_file.proofs.KnownKeys.{all_known, known_fits, typed_known, typed_put}
use Rattle.model_file.proofs.MetaChecks.{some_if}
use Rattle.model_file.proofs.ValueChecks.{other_refuses, value_passes, value_refuses}
use Rattle.model_file.proofs.value_sections.put_entry.Goals as goal

pub returns-in_err-check-in-Value-clause-refused : goal.returns-in_err-check-in-Value-clause-refused
returns-in_err-check-in-Value-clause-refused c =
    let name = c.args.name.now in
    let path : c.deref.result.now ≡ c.args.entry.now.0 = search rules in
    let below : c.deref-in-Value.result.now ≡ c.args.entry.now.0 = search rules in
    let keyed = some_if (is_key (name ∷ c.deref.result.now)) c.in-Some.key (name ∷ c.deref.result.now) (sym c.in-Some.is ∙ c.in_ok-key.ensures) in
    let key : is_key (name ∷ c.args.entry.now.0) ≡ true = ap (λ (p : Path). is_key (name ∷ p)) (sym path) ∙ keyed.0 in
    let same : c.in-Some.key ≡ name ∷ c.args.entry.now.0 = keyed.1 ∙ ap (λ (p : Path). name ∷ p) path in
    let is : c.args.entry.now.1 ≡ found.Value c.in-Value.value = search rules in
    let e = c.in_err-check-in-Value.field-0.0 in
    let at : IsAt IllTyped (name ∷ c.args.entry.now.0) e = subst (λ (p : Path). IsAt IllTyped (name ∷ p) e) below c.in_err-check-in-Value.ensures.refused in
    let p = err_from_is_err_and c.from_residual-in_err-check-in-Value.result c.from_residual-in_err-check-in-Value.ensures.1 in
    λ rows of_rows. rw (p.1, p.2) (value_refuses rows name c.args.entry.now c.args.types.now of_rows c.in-Value.value key is e c.in-Some.key same
    c.in_err-check-in-Value.ensures.cause at)

pub put-requires : goal.put-requires
put-requires c =
    let known : IsKnown c.args.types.now c.in-Some.key = typed_known c.args.types.now c.in-Some.key c.in-Value.value c.in_ok-check-in-Value.ensures.taken in
    subst (λ (k : Path). Fits c.args.content.now.values k) (sym c.key.view_is)
    (known_fits c.args.types.now c.args.content.now.values c.in-Some.key c.requires.free
    (all_known c.args.types.now c.args.content.now.values c.requires.typed) known)

pub returns-in_ok-put-in-Value-clause-typed : goal.returns-in_ok-put-in-Value-clause-typed
returns-in_ok-put-in-Value-clause-typed c =
    let types = c.args.types.now in
    let copied : c.in_ok-copy-in-Value.field-0 ≡ c.in-Value.value = search rules in
    let taken : IsTyped types (segments_of c.key.inside.segments.value) c.in_ok-copy-in-Value.field-0 =
    subst (λ (k : Path). IsTyped types k c.in_ok-copy-in-Value.field-0) (sym c.key.view_is)
    (subst (IsTyped types c.in-Some.key) (sym copied) c.in_ok-check-in-Value.ensures.taken) in
    subst (AreTyped types) (sym (ap (λ (k : Contents). k.values) c.in_ok-put-in-Value.ensures.ok))
    (typed_put types c.args.content.now.values (segments_of c.key.inside.segments.value) c.in_ok-copy-in-Value.field-0 c.requires.typed taken)

pub returns-in-Other-clause-refused : goal.returns-in-Other-clause-refused
returns-in-Other-clause-refused c =
    let name = c.args.name.now in
    let path : c.deref.result.now ≡ c.args.entry.now.0 = search rules in
    let below : c.deref-in-Other.result.now ≡ c.args.entry.now.0 = search rules in
    let keyed = some_if (is_key (name ∷ c.deref.result.now)) c.in-Some.key (name ∷ c.deref.result.now) (sym c.in-Some.is ∙ c.in_ok-key.ensures) in
    let key : is_key (name ∷ c.args.entry.now.0) ≡ true = ap (λ (p : Path). is_key (name ∷ p)) (sym path) ∙ keyed.0 in
    let is : c.args.entry.now.1 ≡ found.Other = search rules in
    let at : IsAt BadValue (name ∷ c.args.entry.now.0) c.refused-in-Other.result =
    subst (λ (p : Path). IsAt BadValue (name ∷ p) c.refused-in-Other.result) below c.refused-in-Other.ensures in
    λ rows of_rows. other_refuses rows name c.args.entry.now c.refused-in-Other.result key is at

pub returns-in_ok-put-in-Value-clause-passes : goal.returns-in_ok-put-in-Value-clause-passes
returns-in_ok-put-in-Value-clause-passes c =
    let name = c.args.name.now in
    let path : c.deref.result.now ≡ c.args.entry.now.0 = search rules in
    let keyed = some_if (is_key (name ∷ c.deref.result.now)) c.in-Some.key (name ∷ c.deref.result.now) (sym c.in-Some.is ∙ c.in_ok-key.ensures) in
    let key : is_key (name ∷ c.args.entry.now.0) ≡ true = ap (λ (p : Path). is_key (name ∷ p)) (sym path) ∙ keyed.0 in
    let same : c.in-Some.key ≡ name ∷ c.args.entry.now.0 = keyed.1 ∙ ap (λ (p : Path). name ∷ p) path in
    let is : c.args.entry.now.1 ≡ found.Value c.in-Value.value = search rules in
    λ rows of_rows. value_passes rows name c.args.entry.now c.args.types.now of_rows c.in-Value.value key is c.in-Some.key same
    c.in_ok-check-in-Value.ensures.taken
