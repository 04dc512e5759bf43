use Rattle.std.proofs.Common.{◌≡◌, subst, ◌∙◌, None, List, ℕ}
use Rattle.std.specs.FinMap.{get}
use Rattle.std.specs.Prelude.{OnErr}
use Rattle.std.specs.declared.result.Result.{Result}
use Rattle.std.specs.declared.result.Result.TheVariants.{Ok, Err}
use Rattle.settings_maps.proofs.SortedEntries.{get_missing}
use Rattle.settings_maps.proofs.named_values.NamedValues.put.Goals as goal

always : {T E P : Type 0} (r : Result T E) → P → OnErr r P
always (Ok x) p = tt
always (Err e) p = p

pub returns-in_err-insert-in-Err-clause-absent : goal.returns-in_err-insert-in-Err-clause-absent
returns-in_err-insert-in-Err-clause-absent c = always _ (subst (λ (k : List ℕ). get c.args.self.now k ≡ None) (c.as_bytes.ensures.value ∙ c.as_str.ensures)
    (get_missing c.self.inside.entries.items c.deref.result.now c.in-Err.index c.as_bytes.result.now c.self.invariant c.deref.ensures.value c.args.self.now
    c.self.view_is c.in-Err.ensures.missing))
