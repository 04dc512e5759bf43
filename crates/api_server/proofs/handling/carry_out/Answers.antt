use Rattle.std.proofs.Common.{Err, subst}
use Rattle.outside.specs.declared.disk_error.DiskErr.{DiskErr}
use Rattle.outside.proofs.Told.{moves_map, moves_stay}
use Rattle.settings_machine.specs.Asked.{request_of}
use Rattle.api_core.specs.Cores.{Commits}
use Rattle.api_server.specs.Handled.{IsPrinted}
use Rattle.api_server.proofs.Handlings.{answers_printed, answers_failed, answers_memory, answers_unplanned}
use Rattle.api_server.proofs.handling.carry_out.Goals as goal

pub returns-in_default-clause-answers : goal.returns-in_default-clause-answers
returns-in_default-clause-answers g c = moves_stay (λ h. answers_unplanned c.args.core.now (request_of c.args.request.now) h c.requires.calm)

pub returns-in-Ok-commit-clause-answers : goal.returns-in-Ok-commit-clause-answers
returns-in-Ok-commit-clause-answers g c =
    let q = request_of c.args.request.now in
    let printed : IsPrinted c.args.core.now q c.in-Ok.reply c.in-Ok.effect = c.in-Ok.ensures in
    moves_map
    (λ old new commits. answers_printed c.args.core.now c.commit.new.self q old new c.requires.calm c.in-Ok.reply c.in-Ok.effect printed commits)
    (c.in-Ok-commit.ensures.commits q printed.answer printed.planned)

pub returns-in-Err-Failed-clause-answers : goal.returns-in-Err-Failed-clause-answers
returns-in-Err-Failed-clause-answers g c =
    let q = request_of c.args.request.now in
    let printed : IsPrinted c.args.core.now q c.in-Ok.reply c.in-Ok.effect = c.in-Ok.ensures in
    moves_map
    (λ old new commits. answers_failed c.args.core.now c.commit.new.self q old new
    (subst (λ (e : DiskErr). Commits c.args.core.now q (Err e) c.commit.new.self old new) c.in-Err-Failed.field-0-is commits))
    (c.in-Err-Failed.ensures.commits q printed.answer printed.planned)

pub returns-clause-answers : goal.returns-clause-answers
returns-clause-answers g c =
    let q = request_of c.args.request.now in
    let printed : IsPrinted c.args.core.now q c.in-Ok.reply c.in-Ok.effect = c.in-Ok.ensures in
    moves_map
    (λ old new commits. answers_memory c.args.core.now c.commit.new.self q old new
    (subst (λ (e : DiskErr). Commits c.args.core.now q (Err e) c.commit.new.self old new) c.in-Err-Memory.field-0-is commits))
    (c.in-Err-Memory.ensures.commits q printed.answer printed.planned)
