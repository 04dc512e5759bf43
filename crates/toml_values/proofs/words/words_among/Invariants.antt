use Rattle.std.proofs.Common.{◌≡◌, map, take, string_bytes}
use Rattle.toml_values.specs.Words.{words_among}
use Rattle.toml_values.proofs.words.words_among.Given as goal

-- those of the parts so far that are not empty
abbrev pub invariant-loop-part : goal.invariant-loop-part
invariant-loop-part l = map string_bytes l.words.items ≡ words_among (map (λ p. p.now) (take l.part-index l.parts))
