use Rattle.std.proofs.Common.{subst, sym, ◌∙◌, IsSome, List, ℕ}
use Rattle.std.specs.FinMap.{get}
use Rattle.settings_maps.proofs.SortedEntries.{never_missing}
use Rattle.settings_maps.proofs.named_values.NamedValues.put_over.Goals as goal

pub returns-in_default : goal.returns-in_default
returns-in_default c = never_missing c.self.inside.entries.items c.deref.result.now c.in_default.field-0 c.as_bytes.result.now c.self.invariant
    c.deref.ensures.value c.args.self.now c.self.view_is _ c.in_default.ensures.missing
    (subst (λ (k : List ℕ). IsSome (get c.args.self.now k)) (sym (c.as_bytes.ensures.value ∙ c.as_str.ensures)) c.requires)
