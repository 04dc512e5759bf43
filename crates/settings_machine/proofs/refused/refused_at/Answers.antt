use Rattle.std.proofs.Common.{subst, sym}
use Rattle.json_trees.specs.declared.pending.Pending.{Pending}
use Rattle.std.specs.Prelude.{◌≡◌, None}
use Rattle.settings_machine.specs.Typed.{wanted_in}
use Rattle.settings_machine.proofs.Matching.{wanted_unknown, wanted_gone}
use Rattle.settings_machine.proofs.refused.refused_at.Goals as goal

pub returns-then-not-matches : goal.returns-then-not-matches
returns-then-not-matches c = wanted_unknown c.args.types.now c.args.key.now c.requires c.args.pending.now c.in_ok-copy.field-0 c.in_ok-from_str.field-0
    c.in_ok-copy.ensures
    c.in_ok-from_str.ensures
    (λ known. cc (c.if-not-matches.true, c.matches.ensures.known.1 known))

pub returns-in-Gone : goal.returns-in-Gone
returns-in-Gone c = subst (λ (p : Pending). None ≡ wanted_in c.args.types.now (c.args.key.now, p)) (sym c.in-Gone.is)
    (wanted_gone c.args.types.now c.args.key.now c.requires c.matches.ensures.one_row (c.matches.ensures.known.0 c.if-not-matches.false))
