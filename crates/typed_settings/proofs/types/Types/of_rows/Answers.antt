use Rattle.std.proofs.Common.{◌≡◌, ◌≢◌, Err, rules}
use Rattle.typed_settings.specs.Faults.{HasFault}
use Rattle.typed_settings.specs.Row.{AreSpelled, IsTableOf}
use Rattle.typed_settings.specs.declared.rows_error.RowsError.{RowsError}
use Rattle.typed_settings.specs.declared.rows_error.RowsError.TheVariants.{Meet, Memory}
use Rattle.typed_settings.proofs.OneTable.{all_of_settings, one_fault, no_fault, exact_fault, exact_none}
use Rattle.typed_settings.proofs.types.Types.of_rows.Goals as goal

pub returns-in_err-given-clause-exact : goal.returns-in_err-given-clause-exact
returns-in_err-given-clause-exact c =
    let answered : (fault : RowsError) → c.from_residual.result ≡ Err fault → fault ≢ Memory → HasFault c.args.rows.now fault = search rules in
    exact_fault c.args.rows.now c.from_residual.result c.from_residual.ensures.0 answered

pub returns-in_err-given-clause-no_fault : goal.returns-in_err-given-clause-no_fault
returns-in_err-given-clause-no_fault c =
    let answered : (fault : RowsError) → c.from_residual.result ≡ Err fault → fault ≢ Memory → HasFault c.args.rows.now fault = search rules in
    exact_none c.args.rows.now c.from_residual.result c.from_residual.ensures.0 answered

pub returns-in-Some-clause-exact : goal.returns-in-Some-clause-exact
returns-in-Some-clause-exact c =
    let here : HasFault c.args.rows.now (Meet c.in-Some.first c.in-Some.second) = search rules in
    λ fault has _. one_fault c.args.rows.now (Meet c.in-Some.first c.in-Some.second) fault here has

pub returns-in-Some-clause-no_fault : goal.returns-in-Some-clause-no_fault
returns-in-Some-clause-no_fault c =
    let here : HasFault c.args.rows.now (Meet c.in-Some.first c.in-Some.second) = search rules in
    λ table is. absurd (no_fault c.args.rows.now table (Meet c.in-Some.first c.in-Some.second) is here)

pub table_of-requires-clause-of_settings : goal.table_of-requires-clause-of_settings
table_of-requires-clause-of_settings c =
    let spelled : AreSpelled c.args.rows.now c.in_ok-given.given.items = search rules in
    all_of_settings c.args.rows.now c.in_ok-given.given.items spelled

pub returns-clause-exact : goal.returns-clause-exact
returns-clause-exact c =
    let table : IsTableOf c.args.rows.now c.in_ok-table_of.field-0 = search rules in
    λ fault has. no_fault c.args.rows.now c.in_ok-table_of.field-0 fault table has
