use Rattle.std.proofs.Common.{sym, ◌∙◌, ap, subst}
use Rattle.settings_machine.specs.Typed.{first_wanted, IsTypedHeld}
use Rattle.settings_machine.proofs.Refusals.{nothing_wanted}
use Rattle.settings_machine.proofs.Typing.{set_typed}
use Rattle.plain_machine.specs.declared.after.After.{After}
use Rattle.plain_machine.proofs.ChangesMade.{asked_set, asked_set_refused}
use Rattle.plain_machine.proofs.machine.PlainMachine.set.Goals as goal

pub returns-in-Some-clause-asked : goal.returns-in-Some-clause-asked
returns-in-Some-clause-asked c =
    asked_set_refused c.args.image.now c.args.self.now c.args.pairs.now _ (sym c.in-Some.is ∙ c.in_ok-refusal.ensures)

pub after_set-requires-clause-taken : goal.after_set-requires-clause-taken
after_set-requires-clause-taken c =
    nothing_wanted (first_wanted c.args.image.now.types c.args.pairs.now) (sym c.in_default.is ∙ c.in_ok-refusal.ensures)

pub returns-clause-asked : goal.returns-clause-asked
returns-clause-asked c = asked_set c.args.image.now c.args.self.now c.args.pairs.now _ _
    (nothing_wanted (first_wanted c.args.image.now.types c.args.pairs.now) (sym c.in_default.is ∙ c.in_ok-refusal.ensures))
    c.in_ok-after.after c.in_ok-after.ensures c.in_ok-take.ensures.taken c.in_ok-take.ensures.keys

pub returns-clause-typed : goal.returns-clause-typed
returns-clause-typed c = subst (IsTypedHeld c.args.image.now.types) (sym (c.in_ok-take.ensures.held ∙ ap (λ (a : After). a.held) c.in_ok-after.ensures))
    (set_typed c.args.image.now.types c.args.self.now.held c.requires.typed c.args.pairs.now
    (nothing_wanted (first_wanted c.args.image.now.types c.args.pairs.now) (sym c.in_default.is ∙ c.in_ok-refusal.ensures)))
