use Rattle.toml_values.specs.Document.{table_of}
use Rattle.setting_generators.specs.Reading.{IsFault, fault_at}
use Rattle.std.proofs.Common.{rules, ap}
use Rattle.setting_generators.proofs.OneOutcome.{never_both, one_fault}
use Rattle.setting_generators.proofs.generators.Generators.read.Goals as goal

pub returns-in-Ok-clause-exact : goal.returns-in-Ok-clause-exact
returns-in-Ok-clause-exact c kind at fault = never_both c.args.types.now c.args.text.now _ kind at c.in-Ok.ensures.ok fault

pub returns-in-Err-Fault-clause-exact : goal.returns-in-Err-Fault-clause-exact
returns-in-Err-Fault-clause-exact c kind at fault other =
    let own : IsFault c.args.types.now c.args.text.now c.in-Err-Fault.kind c.in-Err-Fault.at = search rules in
    let same = one_fault c.args.types.now (table_of c.args.text.now) (fault_at c.in-Err-Fault.kind c.in-Err-Fault.at) (fault_at kind at) own fault in
    (ap (λ e. e.kind) same, ap (λ e. e.at) same)

pub returns-in-Err-Fault-clause-no_fault : goal.returns-in-Err-Fault-clause-no_fault
returns-in-Err-Fault-clause-no_fault c generators spells =
    let own : IsFault c.args.types.now c.args.text.now c.in-Err-Fault.kind c.in-Err-Fault.at = search rules in
    absurd (never_both c.args.types.now c.args.text.now generators c.in-Err-Fault.kind c.in-Err-Fault.at spells own)
