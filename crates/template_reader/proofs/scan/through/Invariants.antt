use Rattle.std.proofs.Common.{◌≡◌, drop}
use Rattle.template_reader.specs.Bytes.{more}
use Rattle.template_reader.specs.Cut.{through}
use Rattle.template_reader.proofs.scan.through.Given as goal

abbrev pub invariant-loop-i : goal.invariant-loop-i
invariant-loop-i l = through l.mark l.bytes ≡ more l.i (through l.mark (drop l.i l.bytes))
