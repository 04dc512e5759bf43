use Rattle.std.proofs.Common.{◌≤◌, List, ℕ, length, slice_get, refl, sym, ap, subst, ◌∙◌}
use Rattle.std.proofs.lemmas.Bool.{ltb-true}
use Rattle.std.proofs.lemmas.Option.{slice_get_read}
use Rattle.json_trees.specs.declared.scalar.Scalar.{Scalar}
use Rattle.settings_maps.proofs.SortedEntries.{least_name, no_name}
use Rattle.settings_maps.proofs.named_values.NamedValues.next_after.Goals as goal

pub returns-in-Some-clause-least : goal.returns-in-Some-clause-least
returns-in-Some-clause-least c = least_name c.self.inside.entries.items c.deref-2.result.now c.args.self.now _ c.place_after.result c.in-Some.field-0.now
    c.self.view_is c.self.invariant c.deref-2.ensures.value c.place_after.ensures
    (ap (λ (l : List (List ℕ × Scalar)). slice_get l c.place_after.result) (sym c.deref.ensures.value)
    ∙ slice_get_read _ _ c.place_after.result c.in-Some.field-0.now refl (ltb-true _ _ (sym c.in-Some.ensures.lookup.0)) c.in-Some.ensures.lookup.1)

pub returns-in-None-clause-none : goal.returns-in-None-clause-none
returns-in-None-clause-none c = no_name c.self.inside.entries.items c.deref-2.result.now c.args.self.now _ c.place_after.result c.self.view_is c.self.invariant
    c.deref-2.ensures.value c.place_after.ensures
    (subst (λ (l : List (List ℕ × Scalar)). length l ≤ c.place_after.result) c.deref.ensures.value c.in-None.ensures.lookup.3)
