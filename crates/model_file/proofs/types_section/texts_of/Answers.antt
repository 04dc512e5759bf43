use Rattle.std.proofs.Common.{rules}
use Rattle.model_file.proofs.types_section.texts_of.Goals as goal

pub returns-in_err-table-clause-refused : goal.returns-in_err-table-clause-refused
returns-in_err-table-clause-refused c = λ rows. let refused = c.in_err-table.ensures.refused rows in search (rules, refused)

pub returns-in_ok-rows_in-in-Some-clause-passes : goal.returns-in_ok-rows_in-in-Some-clause-passes
returns-in_ok-rows_in-in-Some-clause-passes c = c.in_ok-table.ensures.passes

pub returns-in-None-clause-passes : goal.returns-in-None-clause-passes
returns-in-None-clause-passes c = c.in_ok-table.ensures.passes
