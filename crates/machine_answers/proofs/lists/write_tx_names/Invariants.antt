use Rattle.std.proofs.Common.{take}
use Rattle.serde_json.specs.Data.{string}
use Rattle.held_text.specs.HeldRules.{WroteEach}
use Rattle.machine_answers.proofs.lists.write_tx_names.Given as goal

-- The names before this one are written.
abbrev pub invariant-loop-name : goal.invariant-loop-name
invariant-loop-name l = WroteEach string (take l.name-index l.names) l.initial.writer l.writer
