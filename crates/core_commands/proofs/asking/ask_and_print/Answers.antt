use Rattle.std.proofs.lemmas.Result.{err_from_is_err_and}
use Rattle.outside.proofs.Told.{moves_map, moves_stay}
use Rattle.settings_machine.specs.Asked.{request_of}
use Rattle.core_commands.specs.Committing.{IsBodyLine}
use Rattle.core_commands.proofs.Asked.{asks_told, asks_uncommitted, asks_unplanned}
use Rattle.core_commands.proofs.Causes.{error_is}
use Rattle.core_commands.proofs.asking.ask_and_print.Goals as goal

-- ---- it ran out of memory

pub returns-in_err-answer-clause-asks : goal.returns-in_err-answer-clause-asks
returns-in_err-answer-clause-asks g c =
    rw (error_is c.from_residual.result _ c.from_residual.ensures.1)
    (moves_stay (λ h. asks_unplanned (request_of c.args.request.now) IsBodyLine c.args.core.now h c.requires.calm))

pub returns-in_err-line-clause-asks : goal.returns-in_err-line-clause-asks
returns-in_err-line-clause-asks g c =
    rw (error_is c.from_residual-in_err-line.result _ c.from_residual-in_err-line.ensures.1)
    (moves_stay (λ h. asks_unplanned (request_of c.args.request.now) IsBodyLine c.args.core.now h c.requires.calm))

-- ---- it was planned

pub returns-in_err-commit-clause-asks : goal.returns-in_err-commit-clause-asks
returns-in_err-commit-clause-asks g c =
    let told = err_from_is_err_and c.from_residual-in_err-commit.result c.from_residual-in_err-commit.ensures.1 in
    rw told.1
    (moves_map
    (λ old new commits. asks_uncommitted (request_of c.args.request.now) IsBodyLine c.args.core.now c.commit.new.self old new
    c.requires.calm c.commit.ensures.image c.in_err-commit.field-0.0 told.0 told.2 commits)
    (c.in_err-commit.ensures.commits (request_of c.args.request.now) c.in_ok-answer.field-0.answer c.in_ok-answer.ensures.planned))

pub returns-clause-asks : goal.returns-clause-asks
returns-clause-asks g c =
    moves_map
    (λ old new commits. asks_told (request_of c.args.request.now) IsBodyLine c.args.core.now c.commit.new.self old new
    c.requires.calm c.commit.ensures.image c.in_ok-answer.field-0.answer c.in_ok-line.line c.in_ok-answer.ensures.replies c.in_ok-line.ensures commits)
    (c.in_ok-commit.ensures.commits (request_of c.args.request.now) c.in_ok-answer.field-0.answer c.in_ok-answer.ensures.planned)
