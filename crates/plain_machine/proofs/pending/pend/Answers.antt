use Rattle.std.proofs.Common.{sym, ◌∙◌, subst}
use Rattle.typed_settings.proofs.Apart.{prefix_free}
use Rattle.settings_machine.specs.Typed.{first_wanted, IsTypedHeld}
use Rattle.settings_machine.proofs.Typing.{patched_typed}
use Rattle.settings_machine.proofs.Fitting.{fit_pairs}
use Rattle.settings_machine.proofs.Refusals.{nothing_wanted}
use Rattle.plain_machine.proofs.Plainly.{refused_is, pended_is}
use Rattle.plain_machine.proofs.pending.pend.Goals as goal

pub returns-in-Some-clause-answered : goal.returns-in-Some-clause-answered
returns-in-Some-clause-answered c = refused_is c.args.types.now c.args.held.now c.args.tx.now c.args.pairs.now _ (sym c.in-Some.is ∙ c.in_ok-refusal.ensures)

pub lay-requires-clause-rule : goal.lay-requires-clause-rule
lay-requires-clause-rule c = c.in_ok-change.ensures.rule c.keep_rule.ensures
    (fit_pairs c.args.types.now (prefix_free c.args.types.now c.requires.table.apart) c.args.held.now c.requires.typed c.args.tx.now c.args.pairs.now
    (nothing_wanted (first_wanted c.args.types.now c.args.pairs.now) (sym c.in_default.is ∙ c.in_ok-refusal.ensures)))

pub returns-clause-answered : goal.returns-clause-answered
returns-clause-answered c = pended_is c.args.types.now c.args.held.now c.args.tx.now c.args.pairs.now _
    (nothing_wanted (first_wanted c.args.types.now c.args.pairs.now) (sym c.in_default.is ∙ c.in_ok-refusal.ensures))
    (c.in_ok-lay.ensures.ok ∙ c.in_ok-change.ensures.laid)

pub returns-clause-typed : goal.returns-clause-typed
returns-clause-typed c = subst (IsTypedHeld c.args.types.now) (sym (c.in_ok-lay.ensures.ok ∙ c.in_ok-change.ensures.laid))
    (patched_typed c.args.types.now c.args.held.now c.requires.typed c.args.tx.now c.args.pairs.now
    (nothing_wanted (first_wanted c.args.types.now c.args.pairs.now) (sym c.in_default.is ∙ c.in_ok-refusal.ensures)))
