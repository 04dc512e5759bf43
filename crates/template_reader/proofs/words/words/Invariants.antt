use Rattle.std.proofs.Common.{◌≡◌, ◌++◌, map, length}
use Rattle.template_reader.specs.Words.{words}
use Rattle.template_reader.proofs.words.words.Given as goal

abbrev pub invariant-loop-rest : goal.invariant-loop-rest
invariant-loop-rest l = words l.bytes ≡ map (λ word. word.now) l.found.items ++ words l.rest

abbrev pub decreases-loop-rest : goal.decreases-loop-rest
decreases-loop-rest l = length l.rest
