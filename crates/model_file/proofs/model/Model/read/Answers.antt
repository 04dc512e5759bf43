use Rattle.std.proofs.Common.{rules}
use Rattle.model_file.specs.Model.{AreTyped, Spells, IsFault}
use Rattle.model_file.proofs.Faults.{one_fault, no_fault}
use Rattle.model_file.proofs.KnownKeys.{all_known}
use Rattle.model_file.proofs.model.Model.read.Goals as goal

pub returns-in-Ok-clause-exact : goal.returns-in-Ok-clause-exact
returns-in-Ok-clause-exact c =
    let spells : Spells c.args.text.now c.in-Ok.model = search rules in
    λ kind at fault. no_fault c.args.text.now c.in-Ok.model kind at spells fault

pub returns-in-Err-Fault-clause-exact : goal.returns-in-Err-Fault-clause-exact
returns-in-Err-Fault-clause-exact c =
    let here : IsFault c.args.text.now c.in-Err-Fault.kind c.in-Err-Fault.at = search rules in
    λ kind at fault other. one_fault c.args.text.now c.in-Err-Fault.kind kind c.in-Err-Fault.at at here fault

pub returns-in-Err-Fault-clause-no_fault : goal.returns-in-Err-Fault-clause-no_fault
returns-in-Err-Fault-clause-no_fault c =
    let here : IsFault c.args.text.now c.in-Err-Fault.kind c.in-Err-Fault.at = search rules in
    λ model spells. absurd (no_fault c.args.text.now model c.in-Err-Fault.kind c.in-Err-Fault.at spells here)

pub returns-in-Ok-clause-known : goal.returns-in-Ok-clause-known
returns-in-Ok-clause-known c =
    let typed : AreTyped c.in-Ok.model.types c.in-Ok.model.content.values = search rules in
    all_known c.in-Ok.model.types c.in-Ok.model.content.values typed
