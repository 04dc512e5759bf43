use Rattle.std.proofs.Common.{List, sym, ◌∙◌, ap, subst}
use Rattle.settings_machine.specs.JobSeen.{job_seen}
use Rattle.settings_machine.specs.Typed.{IsTypedHeld}
use Rattle.settings_machine.specs.World.{Key}
use Rattle.plain_machine.specs.Jobs.{noted, with_since}
use Rattle.plain_machine.proofs.RequestsAnswered.{noting_is}
use Rattle.plain_machine.proofs.StoreOpened.{may_open, step_typed, stepped}
use Rattle.plain_machine.proofs.machine.PlainMachine.take_step.Goals as goal

pub opening_change-requires-clause-types : goal.opening_change-requires-clause-types
opening_change-requires-clause-types c = may_open c.args.image.now.types c.args.image.now.defaults c.args.self.now.held c.requires.table c.requires.defaults
    c.requires.typed

pub returns-clause-stepped : goal.returns-clause-stepped
returns-clause-stepped c =
    let j = job_seen c.args.self.now.job in
    stepped c.args.image.now c.args.self.now c.args.boot _ _ c.in_ok-change.change c.in_ok-change.ensures.made c.in_ok-lay.ensures.ok
    (c.note.ensures ∙ ap (with_since j) c.in_ok-since.ensures ∙ ap (λ (keys : List Key). with_since j (noted j keys)) c.in_ok-added.ensures ∙ noting_is j _)

pub returns-clause-typed : goal.returns-clause-typed
returns-clause-typed c = subst (IsTypedHeld c.args.image.now.types) (sym c.in_ok-lay.ensures.ok)
    (step_typed c.args.image.now c.args.self.now.held c.args.boot c.in_ok-change.change c.requires.defaults c.requires.typed c.in_ok-change.ensures.made)
