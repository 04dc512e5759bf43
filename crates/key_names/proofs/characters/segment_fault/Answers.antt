use Rattle.std.proofs.Common.{◌≡◌, ◌<◌, length, arith}
use Rattle.std.proofs.lemmas.Bool.Decides.{nat_tests}
use Rattle.key_names.specs.Faults.{no_bytes}
use Rattle.key_names.proofs.Segments.{empty_list, bad_at_run, segment_at_run}
use Rattle.key_names.proofs.Runs.{IsRun-from}
use Rattle.key_names.proofs.characters.segment_fault.Goals as goal

pub returns-then-len-bytes : goal.returns-then-len-bytes
returns-then-len-bytes c = bad_at_run c.args.bytes.now c.quotable_len-len.result (IsRun-from c.quotable_len-len.ensures.value) c.if-len-bytes.true

pub returns-then-is_empty : goal.returns-then-is_empty
returns-then-is_empty c = let none : length c.args.bytes.now ≡ 0 = grind (arith, nat_tests) in no_bytes (empty_list c.args.bytes.now none)

pub returns-else-is_empty : goal.returns-else-is_empty
returns-else-is_empty c = let some : 0 < length c.args.bytes.now = grind (arith, nat_tests) in
    segment_at_run c.args.bytes.now c.quotable_len-len.result (IsRun-from c.quotable_len-len.ensures.value) c.if-len-bytes.false some
