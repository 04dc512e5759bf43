use Rattle.template_reader.proofs.Fences.{Looks}
use Rattle.template_reader.proofs.front.front_length.Given as goal

abbrev pub invariant-loop-i : goal.invariant-loop-i
invariant-loop-i l = Looks l.source l.i l.begins_line
