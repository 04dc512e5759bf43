use Rattle.std.proofs.Common.{refl, sym, ◌∙◌, arith}
use Rattle.std.proofs.lemmas.Bool.{false≢true}
use Rattle.migrate_chain.specs.Store.{IsLeftOver}
use Rattle.migrate_chain.proofs.Pruned.{none_removed, one_removed, one_stays, one_more, no_more}
use Rattle.migrate_chain.proofs.pruning.remove_others.Goals.{then-is_left_over+in_ok-remove, else-is_left_over}
use Rattle.migrate_chain.proofs.pruning.remove_others.Goals as goal

pub loop-path-init : goal.loop-path-init
loop-path-init g c = record { removes = none_removed c.args.directory.now _; faults = refl; counted = refl; bound = omega arith }

pub loop-path-preserved : goal.loop-path-preserved
loop-path-preserved g c =
    let dir = c.args.directory.now in
    let paths = c.args.paths.now in
    let i = c.loop-path.path-index in
    let path = c.path-item.result in
    let within = c.loop-path-test.true in
    elim c.if-is_left_over.branch [
      | then-is_left_over+in_ok-remove w ↦
          let is = c.is_left_over.ensures.0 w.if-is_left_over.true in
          rw (w.disk-is, w.count-is) (record {
            removes = one_removed dir paths i path w.in_ok-remove.field-0 _ _ _ within c.path-item.is is c.loop-path.invariant.removes
                w.in_ok-remove.ensures.removed;
            faults = w.in_ok-remove.ensures.cause.kept ∙ c.loop-path.invariant.faults;
            counted = one_more (IsLeftOver dir) paths i c.loop-path.count path within c.path-item.is is c.loop-path.invariant.counted;
            bound = omega (arith, c.loop-path.invariant.bound);
          })
      | else-is_left_over w ↦
          let other : IsLeftOver dir path → ⊥ = λ is. absurd (false≢true (sym w.if-is_left_over.false ∙ c.is_left_over.ensures.1 is)) in
          rw (w.disk-is, w.count-is) (record {
            removes = one_stays dir paths i path _ _ within c.path-item.is other c.loop-path.invariant.removes;
            faults = c.loop-path.invariant.faults;
            counted = no_more (IsLeftOver dir) paths i c.loop-path.count path within c.path-item.is other c.loop-path.invariant.counted;
            bound = omega (arith, c.loop-path.invariant.bound);
          })
    ]
