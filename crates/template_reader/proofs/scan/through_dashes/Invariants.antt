use Rattle.std.proofs.Common.{◌≡◌, drop}
use Rattle.template_reader.specs.Bytes.{more}
use Rattle.template_reader.specs.Cut.{through_dashes}
use Rattle.template_reader.proofs.scan.through_dashes.Given as goal

abbrev pub invariant-loop-i : goal.invariant-loop-i
invariant-loop-i l = through_dashes l.bytes ≡ more l.i (through_dashes (drop l.i l.bytes))
