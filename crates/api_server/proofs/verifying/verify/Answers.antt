use Rattle.std.proofs.Common.{Err, subst}
use Rattle.outside.specs.declared.disk_error.DiskErr.{DiskErr}
use Rattle.outside.specs.declared.disk_error.DiskErr.TheVariants as disk
use Rattle.outside.proofs.Told.{moves_map}
use Rattle.settings_machine.specs.Requests.{Verify}
use Rattle.api_core.specs.Verifying.{Verifies}
use Rattle.api_server.proofs.Handlings.{answers_failed, answers_memory}
use Rattle.api_server.proofs.Verified.{answers_verified, answers_unprinted, unverified}
use Rattle.api_server.proofs.verifying.verify.Goals as goal

pub returns-in-Ok-states_reply-clause-answers : goal.returns-in-Ok-states_reply-clause-answers
returns-in-Ok-states_reply-clause-answers g c =
    moves_map
    (λ old new verifies. answers_verified c.args.core.now c.verify.new.self old new c.in-Ok.files.items c.in-Ok-states_reply.reply
    c.in-Ok-states_reply.ensures verifies)
    c.in-Ok.ensures.verifies

pub returns-in-Err-clause-answers : goal.returns-in-Err-clause-answers
returns-in-Err-clause-answers g c =
    answers_unprinted c.args.core.now c.verify.new.self _ _ c.requires.calm (c.in-Ok.ensures.unchanged (λ is. cc)) c.in-Ok.ensures.same

pub returns-in-Err-Failed-clause-answers : goal.returns-in-Err-Failed-clause-answers
returns-in-Err-Failed-clause-answers g c =
    moves_map
    (λ old new verifies. answers_failed c.args.core.now c.verify.new.self Verify old new
    (unverified c.args.core.now c.verify.new.self old new disk.Failed
    (subst (λ (e : DiskErr). Verifies c.args.core.now (Err e) c.verify.new.self old new) c.in-Err-Failed.field-0-is verifies)))
    c.in-Err-Failed.ensures.verifies

pub returns-in-Err-Memory-clause-answers : goal.returns-in-Err-Memory-clause-answers
returns-in-Err-Memory-clause-answers g c =
    moves_map
    (λ old new verifies. answers_memory c.args.core.now c.verify.new.self Verify old new
    (unverified c.args.core.now c.verify.new.self old new disk.Memory
    (subst (λ (e : DiskErr). Verifies c.args.core.now (Err e) c.verify.new.self old new) c.in-Err-Memory.field-0-is verifies)))
    c.in-Err-Memory.ensures.verifies
