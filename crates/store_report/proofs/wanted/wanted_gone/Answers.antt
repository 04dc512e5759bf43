use Rattle.std.proofs.Common.{sym}
use Rattle.json_trees.specs.declared.pending.Pending.TheVariants.{Gone}
use Rattle.store_report.proofs.Wanting.{unknown_wants, known_wants}
use Rattle.store_report.proofs.wanted.wanted_gone.Goals as goal

pub returns-then-not-matches : goal.returns-then-not-matches
returns-then-not-matches c = unknown_wants c.args.types.now c.args.key.now Gone c.in_ok-from_str.field-0 c.in_ok-from_str.ensures
    (λ known. cc (c.if-not-matches.true, c.matches.ensures.known.1 known))

pub returns : goal.returns
returns c = sym (known_wants c.args.types.now c.args.key.now c.matches.ensures.one_row (c.matches.ensures.known.0 c.if-not-matches.false))
