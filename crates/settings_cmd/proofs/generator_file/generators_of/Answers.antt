use Rattle.settings_cmd.proofs.InputFaults.{generators_fault_told, generators_fault_of}
use Rattle.settings_cmd.proofs.SettingKeys.{spelled_begin}
use Rattle.settings_cmd.proofs.generator_file.generators_of.Goals as goal

pub returns-in-Ok-clause-settings : goal.returns-in-Ok-clause-settings
returns-in-Ok-clause-settings c = spelled_begin c.args.types.now c.args.text.now c.in-Ok.generators c.in-Ok.ensures.ok

pub returns-in_ok-refused-in-Err-clause-refused : goal.returns-in_ok-refused-in-Err-clause-refused
returns-in_ok-refused-in-Err-clause-refused c =
    generators_fault_told c.args.types.now c.args.text.now c.in-Err.error c.in_ok-refused-in-Err.field-0 c.in_ok-refused-in-Err.ensures c.in-Err.ensures.fault

pub returns-in_ok-refused-in-Err-clause-of_generators : goal.returns-in_ok-refused-in-Err-clause-of_generators
returns-in_ok-refused-in-Err-clause-of_generators c = generators_fault_of c.in-Err.error c.in_ok-refused-in-Err.field-0 c.in_ok-refused-in-Err.ensures
