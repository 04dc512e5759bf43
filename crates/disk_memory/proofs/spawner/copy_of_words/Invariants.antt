use Rattle.std.proofs.Common.{◌≡◌, take}
use Rattle.outside.specs.Spawner.{texts}
use Rattle.disk_memory.proofs.spawner.copy_of_words.Given as goal

abbrev pub invariant-loop-word : goal.invariant-loop-word
invariant-loop-word l = texts l.copies.items ≡ texts (take l.word-index l.words)
