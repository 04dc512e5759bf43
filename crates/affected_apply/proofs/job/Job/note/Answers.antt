use Rattle.std.proofs.Common.{◌≡◌, ℕ, List, [], ◌∙◌, sym, ap, subst}
use Rattle.settings_maps.specs.KeyList.{joined, IsRising}
use Rattle.settings_maps.proofs.Merged.{merged_rises}
use Rattle.settings_machine.specs.World.{Work}
use Rattle.affected_apply.proofs.Merging.{joined_alone}
use Rattle.affected_apply.proofs.Ends.{none_in}
use Rattle.affected_apply.proofs.job.Job.note.Goals as goal

-- where no key is noted, nothing is to be joined
pub returns-then-is_empty : goal.returns-then-is_empty
returns-then-is_empty c =
    let w : Work = c.args.self.now.work in
    let none : c.args.keys ≡ [] = sym c.as_slice.ensures.items ∙ none_in c.as_slice.result.now (sym c.is_empty.ensures ∙ c.if-is_empty.true) in
    sym (ap (λ (l : List (List (List ℕ))). record w { since = l }) (ap (joined w.since) none ∙ joined_alone w.since))

-- what `KeyList::of` asks: both lists rise, so the merged one does
pub of-requires : goal.of-requires
of-requires c = subst IsRising (sym c.merged.ensures) (merged_rises c.into_keys.result.items c.into_keys-2.result.items
    (subst IsRising (sym c.into_keys.ensures.items) c.into_keys.ensures.rising) (subst IsRising (sym c.into_keys-2.ensures.items) c.into_keys-2.ensures.rising))
