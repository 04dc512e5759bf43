use Rattle.settings_tree.proofs.Ranges.{IsLeft}
use Rattle.settings_tree.proofs.content.Content.copied_below.Given as goal

-- The entries of the prefix that are not copied are among those that are left.
abbrev pub invariant-loop-key : goal.invariant-loop-key
invariant-loop-key l = IsLeft l.self.values l.prefix l.pairs.items l.key-iterator
