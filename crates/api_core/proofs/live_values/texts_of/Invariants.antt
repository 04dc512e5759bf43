use Rattle.std.proofs.Common.{◌≡◌, map, take}
use Rattle.api_core.proofs.live_values.texts_of.Given as goal

abbrev pub invariant-loop-name : goal.invariant-loop-name
invariant-loop-name l = l.texts.items ≡ map (λ n. (n.name, n.text)) (take l.name-index l.names)
