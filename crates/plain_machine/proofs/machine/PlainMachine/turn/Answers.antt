use Rattle.std.proofs.Common.{ap, subst}
use Rattle.std.proofs.lemmas.Result.{on_ok_weaker}
use Rattle.settings_machine.specs.JobSeen.{job_seen, work_seen}
use Rattle.settings_machine.proofs.Jobly.{not_running}
use Rattle.plain_machine.specs.Turns.{IsTodo}
use Rattle.plain_machine.specs.declared.todo.Todo.{Todo}
use Rattle.plain_machine.proofs.TurnsMade.{file_turned, command_turned, last_turned, unturned}
use Rattle.plain_machine.proofs.TypedHeld.{typed_kept}
use Rattle.plain_machine.proofs.machine.PlainMachine.turn.Goals as goal

pub returns-in_default-clause-turned : goal.returns-in_default-clause-turned
returns-in_default-clause-turned c = unturned c.args.image.now c.args.self.now c.args.answer (not_running c.args.self.now.job c.in_default.not-Running)

pub returns-in-File-clause-turned : goal.returns-in-File-clause-turned
returns-in-File-clause-turned c = on_ok_weaker c.file_turn.result
    (λ turned. file_turned c.args.image.now c.args.self.now c.file_turn.new.self c.args.answer (work_seen c.in-Running.work) (ap job_seen c.in-Running.is)
    c.in-File.file
    (subst (λ (t : Todo). IsTodo (work_seen c.in-Running.work) t) c.in-File.is c.in_ok-file.ensures) turned) c.file_turn.ensures.turned

pub returns-in-File-clause-typed : goal.returns-in-File-clause-typed
returns-in-File-clause-typed c = λ types typed. typed_kept types c.args.self.now.held c.file_turn.new.self.held c.file_turn.ensures.kept typed

pub returns-in-Command-clause-turned : goal.returns-in-Command-clause-turned
returns-in-Command-clause-turned c = on_ok_weaker c.command_turn.result
    (λ turned. command_turned c.args.image.now c.args.self.now c.command_turn.new.self c.args.answer (work_seen c.in-Running.work) (ap job_seen c.in-Running.is)
    c.in-Command.service c.in-Command.words.items
    (subst (λ (t : Todo). IsTodo (work_seen c.in-Running.work) t) c.in-Command.is c.in_ok-file.ensures) turned) c.command_turn.ensures.turned

pub returns-in-Command-clause-typed : goal.returns-in-Command-clause-typed
returns-in-Command-clause-typed c = λ types typed. typed_kept types c.args.self.now.held c.command_turn.new.self.held c.command_turn.ensures.kept typed

pub returns-in-End-clause-turned : goal.returns-in-End-clause-turned
returns-in-End-clause-turned c = on_ok_weaker c.last_turn.result
    (λ turned. last_turned c.args.image.now c.args.self.now c.last_turn.new.self c.args.answer (work_seen c.in-Running.work) (ap job_seen c.in-Running.is)
    c.in-End.since c.in-End.again
    (subst (λ (t : Todo). IsTodo (work_seen c.in-Running.work) t) c.in-End.is c.in_ok-file.ensures) turned) c.last_turn.ensures.turned

pub returns-in-End-clause-typed : goal.returns-in-End-clause-typed
returns-in-End-clause-typed c = λ types typed. typed_kept types c.args.self.now.held c.last_turn.new.self.held c.last_turn.ensures.kept typed
