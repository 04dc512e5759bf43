use Rattle.std.proofs.Common.{map, take, string_bytes}
use Rattle.serde_json.specs.Data.{string}
use Rattle.held_text.specs.HeldRules.{WroteEach}
use Rattle.machine_answers.proofs.plan_body.write_words.Given as goal

-- The words before this one are written.
abbrev pub invariant-loop-word : goal.invariant-loop-word
invariant-loop-word l = WroteEach string (map (λ w. string_bytes w) (take l.word-index l.words)) l.initial.writer l.writer
