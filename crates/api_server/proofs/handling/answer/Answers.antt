use Rattle.std.proofs.Common.{sym, subst}
use Rattle.outside.specs.Told.{Moves}
use Rattle.settings_machine.specs.Asked.{request_of}
use Rattle.settings_machine.specs.declared.request.Request.{Request}
use Rattle.api_server.specs.Handled.{Answers}
use Rattle.api_server.proofs.Verified.{reads_none}
use Rattle.api_server.proofs.handling.answer.Goals as goal

pub carry_out-requires-clause-plannable : goal.carry_out-requires-clause-plannable
carry_out-requires-clause-plannable g c = reads_none c.args.request.now c.in_default.not-Verify
