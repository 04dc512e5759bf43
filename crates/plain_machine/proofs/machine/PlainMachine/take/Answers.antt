use Rattle.std.proofs.Common.{sym, ◌∙◌, ap}
use Rattle.std.specs.Option.{option_map}
use Rattle.settings_machine.specs.JobSeen.{job_seen}
use Rattle.settings_machine.specs.Step.{noting}
use Rattle.settings_machine.specs.World.{Job}
use Rattle.plain_machine.specs.Jobs.{with_since, taken_up}
use Rattle.plain_machine.specs.Worlds.{world_of}
use Rattle.plain_machine.proofs.RequestsAnswered.{noting_is, taken_is}
use Rattle.plain_machine.proofs.machine.PlainMachine.take.Goals as goal

pub returns-clause-taken : goal.returns-clause-taken
returns-clause-taken c = λ I holds.
    let j = job_seen c.args.self.now.job in
    let keys = c.args.after.changed in
    ap (λ (k : Job). record (world_of c.args.self.now) { held = c.args.after.held; job = k })
    (c.take_up.ensures ∙ ap (λ (k : Job). taken_up k (option_map job_seen c.in_ok-next.next))
    (c.note.ensures ∙ ap (with_since j) c.in_ok-since.ensures ∙ noting_is j keys)
    ∙ ap (taken_up (noting j keys)) (sym (c.in_ok-next.ensures I (sym holds.manifest_is))) ∙ taken_is I c.args.after.held.owed j keys)
