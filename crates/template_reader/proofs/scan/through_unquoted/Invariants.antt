use Rattle.std.proofs.Common.{◌≡◌, drop, false}
use Rattle.template_reader.specs.Bytes.{more}
use Rattle.template_reader.specs.Cut.{through_unquoted}
use Rattle.template_reader.proofs.scan.through_unquoted.Given as goal

abbrev pub invariant-loop-i : goal.invariant-loop-i
invariant-loop-i l = through_unquoted l.mark false l.bytes ≡ more l.i (through_unquoted l.mark l.quoted (drop l.i l.bytes))
