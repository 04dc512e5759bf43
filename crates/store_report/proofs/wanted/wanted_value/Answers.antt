use Rattle.json_trees.specs.declared.pending.Pending.TheVariants.{Put}
use Rattle.store_report.proofs.Wanting.{unknown_wants}
use Rattle.store_report.proofs.wanted.wanted_value.Goals as goal

pub returns-then-not-matches : goal.returns-then-not-matches
returns-then-not-matches c = unknown_wants c.args.types.now c.args.key.now (Put c.args.value.now) c.in_ok-from_str.field-0 c.in_ok-from_str.ensures
    (λ known. cc (c.if-not-matches.true, c.matches.ensures.known.1 known))
