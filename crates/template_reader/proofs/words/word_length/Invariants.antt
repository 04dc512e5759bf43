use Rattle.std.proofs.Common.{◌≡◌, ◌+◌, drop, false}
use Rattle.template_reader.specs.Bytes.{is_space}
use Rattle.template_reader.specs.Words.{part_length}
use Rattle.template_reader.proofs.words.word_length.Given as goal

abbrev pub invariant-loop-i : goal.invariant-loop-i
invariant-loop-i l = part_length is_space false l.bytes ≡ l.i + part_length is_space l.quoted (drop l.i l.bytes)
