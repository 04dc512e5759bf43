use Rattle.std.proofs.Common.{◌≡◌, IsTrue, length, Some}
use Rattle.std.specs.Prelude.{slice_get}
use Rattle.key_names.specs.Key.{is_prefix}
use Rattle.settings_tree.specs.Walks.{entries_below_past}
use Rattle.template_eval.specs.Kept.{IsAhead}
use Rattle.template_eval.proofs.below.next_child.Given as goal

abbrev pub invariant-loop-key : goal.invariant-loop-key
invariant-loop-key l = IsTrue (is_prefix l.parent l.last) × (slice_get l.after (length l.parent) ≡ slice_get l.last (length l.parent))
    × IsAhead l.content l.last l.ahead

abbrev pub decreases-loop-key : goal.decreases-loop-key
decreases-loop-key l = length (entries_below_past l.content.values l.parent (Some l.last))
