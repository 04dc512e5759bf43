use Rattle.key_names.specs.Faults.{segment_fault, child_limit}
use Rattle.key_names.proofs.limits.child_fault.Goals as goal

pub returns-in-Some : goal.returns-in-Some
returns-in-Some c = segment_fault c.in-Some.fault.kind c.in-Some.fault.place c.in-Some.ensures

pub returns-in-Some-child_limit : goal.returns-in-Some-child_limit
returns-in-Some-child_limit c = child_limit c.in-Some-child_limit.kind c.in_default.ensures c.in-Some-child_limit.ensures
