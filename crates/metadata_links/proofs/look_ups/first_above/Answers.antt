use Rattle.std.proofs.Common.{rules, of_calls}
use Rattle.std.specs.Ordering.{is_le}
use Rattle.std.proofs.lemmas.Fn.{always_returns_same}
use Rattle.key_names.specs.Order.{key_cmp}
use Rattle.metadata_links.proofs.Runs.{parted, run_from, run_above, left_sorted}
use Rattle.metadata_links.proofs.look_ups.first_above.Goals as goal

pub returns-clause-before : goal.returns-clause-before
returns-clause-before c = run_from c.args.path.now c.args.entries.now c.partition_point.result
    (c.partition_point.ensures.partitioned (λ e. is_le (key_cmp e.0 c.args.path.now)) (always_returns_same _ _ _ (λ a r f k. search (rules, of_calls)))
    (parted c.args.path.now c.args.entries.now c.requires))

pub returns-clause-above : goal.returns-clause-above
returns-clause-above c = run_above c.args.path.now c.args.entries.now c.partition_point.result
    (c.partition_point.ensures.partitioned (λ e. is_le (key_cmp e.0 c.args.path.now)) (always_returns_same _ _ _ (λ a r f k. search (rules, of_calls)))
    (parted c.args.path.now c.args.entries.now c.requires))

pub returns-clause-rises : goal.returns-clause-rises
returns-clause-rises c = left_sorted c.args.entries.now c.partition_point.result c.requires
