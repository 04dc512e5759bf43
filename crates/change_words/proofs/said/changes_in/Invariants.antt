use Rattle.std.proofs.Common.{take}
use Rattle.outside.specs.Spawner.{texts}
use Rattle.command_words.specs.Values.{Each}
use Rattle.change_words.specs.Said.{spells}
use Rattle.change_words.proofs.said.changes_in.Given as goal

-- the words so far say the changes so far
abbrev pub invariant-loop-word : goal.invariant-loop-word
invariant-loop-word l = Each (spells l.form) (take l.word-index (texts l.words)) l.changes.items
