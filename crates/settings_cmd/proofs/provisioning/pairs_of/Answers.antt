use Rattle.std.proofs.Common.{refl}
use Rattle.settings_cmd.proofs.InputFaults.{data_fault_told, data_fault_of}
use Rattle.settings_cmd.proofs.SettingKeys.{data_begin}
use Rattle.settings_cmd.proofs.provisioning.pairs_of.Goals as goal

pub returns-in-Ok-clause-tells : goal.returns-in-Ok-clause-tells
returns-in-Ok-clause-tells c = record { text = c.args.text.now; there = refl; given = c.in-Ok.ensures.ok }

pub returns-in-Ok-clause-settings : goal.returns-in-Ok-clause-settings
returns-in-Ok-clause-settings c = data_begin c.args.text.now c.in-Ok.pairs.items c.in-Ok.ensures.ok

pub returns-in_ok-refused-in-Err-clause-tells : goal.returns-in_ok-refused-in-Err-clause-tells
returns-in_ok-refused-in-Err-clause-tells c = data_fault_told c.args.text.now c.in-Err.error c.in_ok-refused-in-Err.field-0 c.in_ok-refused-in-Err.ensures
    c.in-Err.ensures.fault

pub returns-in_ok-refused-in-Err-clause-of_data : goal.returns-in_ok-refused-in-Err-clause-of_data
returns-in_ok-refused-in-Err-clause-of_data c = data_fault_of c.in-Err.error c.in_ok-refused-in-Err.field-0 c.in_ok-refused-in-Err.ensures
