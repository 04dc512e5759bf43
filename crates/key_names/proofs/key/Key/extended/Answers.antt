use Rattle.std.proofs.Common.{ap, Err}
use Rattle.key_names.specs.Packed.{segments_of}
use Rattle.key_names.proofs.ChildFaults.{fault_is, no_child_fault}
use Rattle.key_names.proofs.key.Key.extended.Goals as goal

pub returns-in-Some-clause-exact : goal.returns-in-Some-clause-exact
returns-in-Some-clause-exact c kind place f = ap Err (fault_is (segments_of c.args.text.now) c.args.segment.now c.in-Some.fault c.in-Some.ensures kind place f)

pub returns-in_err-more-clause-exact : goal.returns-in_err-more-clause-exact
returns-in_err-more-clause-exact c kind place f = absurd (no_child_fault (segments_of c.args.text.now) c.args.segment.now c.in_default.ensures kind place f)

pub returns-in_err-of_packed-clause-exact : goal.returns-in_err-of_packed-clause-exact
returns-in_err-of_packed-clause-exact c kind place f = absurd (no_child_fault (segments_of c.args.text.now) c.args.segment.now c.in_default.ensures kind place
    f)

pub returns-clause-exact : goal.returns-clause-exact
returns-clause-exact c kind place f = absurd (no_child_fault (segments_of c.args.text.now) c.args.segment.now c.in_default.ensures kind place f)
