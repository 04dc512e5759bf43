use Rattle.std.proofs.Common.{◌≤◌, ◌-◌, length, take}
use Rattle.key_names.specs.Joined.{Leads}
use Rattle.key_names.specs.Spelling.{IsSpelling}
use Rattle.key_names.specs.Reading.{AreMarked}
use Rattle.key_names.proofs.spelled.spelled_by.Given as goal

abbrev pub invariant-loop-head : goal.invariant-loop-head
invariant-loop-head l = record {
  within : l.start ≤ length l.text;
  leads : Leads IsSpelling 46 (take l.start l.text) l.spelled.segments;
  marked : AreMarked l.text l.spelled.segments l.spelled.surplus l.spelled.overlong;
}

abbrev pub decreases-loop-head : goal.decreases-loop-head
decreases-loop-head l = length l.text - l.start
