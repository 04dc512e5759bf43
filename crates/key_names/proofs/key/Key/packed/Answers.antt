use Rattle.std.proofs.Common.{List, ℕ, ◌≡◌, ◌<◌, length, sym, ◌∙◌, ap, subst}
use Rattle.key_names.specs.Packed.{segments_of}
use Rattle.key_names.proofs.KeyLimits.{IsKey-from}
use Rattle.key_names.proofs.Packed.{segments-parts}
use Rattle.key_names.proofs.key.Key.packed.Goals as goal

pub returns-clause-parts : goal.returns-clause-parts
returns-clause-parts c =
    let text : c.as_str.result.now ≡ c.self.inside.segments.value = c.as_str.ensures ∙ c.deref.ensures in
    let key = IsKey-from (segments_of c.self.inside.segments.value) c.self.invariant in
    let some = subst (λ (t : List ℕ). 0 < length (segments_of t)) (sym text) key.some in
    sym (segments-parts c.as_str.result.now some) ∙ ap segments_of text ∙ c.self.view_is
