use Rattle.toml_values.specs.Document.{table_of}
use Rattle.release_file.proofs.OneFault.{never_both, one_fault}
use Rattle.release_file.proofs.release.Release.read.Goals as goal

pub returns-in-Ok-clause-exact : goal.returns-in-Ok-clause-exact
returns-in-Ok-clause-exact c kind at fault = never_both c.args.text.now c.in-Ok.release kind at c.in-Ok.ensures.ok fault

pub returns-in-Err-Fault-clause-exact : goal.returns-in-Err-Fault-clause-exact
returns-in-Err-Fault-clause-exact c kind at fault other =
    let own = rw c.in-Err-Fault.field-0-is at c.in-Err-Fault.ensures.fault in
    one_fault (table_of c.args.text.now) c.in-Err-Fault.kind kind c.in-Err-Fault.at at own fault

pub returns-in-Err-Fault-clause-no_fault : goal.returns-in-Err-Fault-clause-no_fault
returns-in-Err-Fault-clause-no_fault c release spells =
    let own = rw c.in-Err-Fault.field-0-is at c.in-Err-Fault.ensures.fault in
    absurd (never_both c.args.text.now release c.in-Err-Fault.kind c.in-Err-Fault.at spells own)
