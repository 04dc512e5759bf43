use Rattle.std.proofs.Common.{arith, refl, ◌∙◌, subst, ◌≡◌, Some}
use Rattle.std.specs.Prelude.{slice_get}
use Rattle.outside.proofs.Results.{handed_on}
use Rattle.release_file.specs.Release.{is_known}
use Rattle.migrate_chain.specs.Tasks.{names_in_order}
use Rattle.migrate_chain.proofs.Carried.{carried_none, known_at, carried_more, carried_all, stopped_at}
use Rattle.migrate_chain.proofs.Causes.{cause_task}
use Rattle.migrate_chain.proofs.carrying.carry_out.Goals as goal

pub loop-index-init : goal.loop-index-init
loop-index-init g c = record { done = carried_none; runs = refl; faults = refl }

pub work_named-work-requires : goal.work_named-work-requires
work_named-work-requires g c =
    known_at (is_known c.args.migrations.now) c.args.back c.args.transition.now.names.items c.deref.result.now c.loop-index.index c.name_at-name.result.now
    c.requires c.deref.ensures.value c.name_at-name.ensures

pub returns-in_err-made-clause-stopped : goal.returns-in_err-made-clause-stopped
returns-in_err-made-clause-stopped g c =
    handed_on c.from_residual.result c.in_err-made.field-0.0 _ c.from_residual.ensures.1
    (stopped_at c.args.migrations.now c.args.back (names_in_order c.args.back c.args.transition.now.names.items) c.loop-index.index c.name_at-name.result.now
    c.work_named-work.result.now
    (subst (λ names. slice_get (names_in_order c.args.back names) c.loop-index.index ≡ Some c.name_at-name.result.now) c.deref.ensures.value
    c.name_at-name.ensures)
    c.work_named-work.ensures c.loop-index.invariant.done c.in_err-made.field-0.0 c.in_err-made.ensures.of_task c.in_err-made.ensures.asked)

pub loop-index-preserved : goal.loop-index-preserved
loop-index-preserved g c = record {
  done = rw c.replace.ensures.after (carried_more c.args.migrations.now c.args.back (names_in_order c.args.back c.args.transition.now.names.items)
      c.loop-index.index c.name_at-name.result.now c.work_named-work.result.now
      (subst (λ names. slice_get (names_in_order c.args.back names) c.loop-index.index ≡ Some c.name_at-name.result.now) c.deref.ensures.value
      c.name_at-name.ensures)
      c.work_named-work.ensures c.loop-index.invariant.done c.in_ok-made.made c.in_ok-made.ensures.made c.in_ok-made.ensures.asked);
  runs = c.in_ok-made.ensures.ran ∙ c.loop-index.invariant.runs;
  faults = c.in_ok-made.ensures.cause.kept ∙ c.loop-index.invariant.faults;
}

pub returns-clause-carried : goal.returns-clause-carried
returns-clause-carried g c =
    carried_all c.args.migrations.now c.args.back c.args.transition.now.names.items c.loop-index.index c.args.held.now c.loop-index.held _ _ (omega arith)
    c.loop-index.invariant.done

pub returns-in_err-made-clause-cause : goal.returns-in_err-made-clause-cause
returns-in_err-made-clause-cause g c =
    cause_task c.from_residual.result c.in_err-made.field-0.0 c.name_at-name.result.now _ _ _ c.loop-index.invariant.faults c.from_residual.ensures.1
    c.in_err-made.ensures.named c.in_err-made.ensures.cause
