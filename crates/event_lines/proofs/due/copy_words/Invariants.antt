use Rattle.std.proofs.Common.{◌≡◌, map, take, string_bytes}
use Rattle.event_lines.proofs.due.copy_words.Given as goal

-- The words before this one are copied.
abbrev pub invariant-loop-word : goal.invariant-loop-word
invariant-loop-word l = map (λ w. string_bytes w) l.copies.items ≡ map (λ w. string_bytes w) (take l.word-index l.words)
