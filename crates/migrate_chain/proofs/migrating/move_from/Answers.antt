use Rattle.std.proofs.Common.{refl, ap, [], Some, Ok, Err, subst, sym, ◌∙◌, length}
use Rattle.std.proofs.lemmas.Bool.{false≢true}
use Rattle.std.proofs.lemmas.List.{length-map}
use Rattle.release_file.specs.Release.{names_known}
use Rattle.release_file.specs.Chain.{HasNoPlan}
use Rattle.migrate_chain.specs.Errors.{of_plan}
use Rattle.migrate_chain.proofs.Started.{error_is}
use Rattle.migrate_chain.proofs.Causes.{cause_quiet, cause_done}
use Rattle.migrate_chain.proofs.Ways.{way_known, no_steps, no_way_on}
use Rattle.migrate_chain.proofs.Migrated.{no_way, is_there, migrated, none_mapped, plan_quiet}
use Rattle.migrate_chain.proofs.Ended.{unasked}
use Rattle.migrate_chain.proofs.migrating.move_from.Goals as goal

pub returns-in_err-steps-clause-moves : goal.returns-in_err-steps-clause-moves
returns-in_err-steps-clause-moves g c = λ before starts.
    rw (error_is c.from_residual.result _ c.from_residual.ensures.1)
    (unasked (Err (of_plan c.in_err-steps.field-0.0)) (plan_quiet c.in_err-steps.field-0.0)
    (no_way c.args.to.now c.args.release.now.transitions.items c.args.release.now.migrations.items _ _ _ _ c.args.start.now c.in_err-steps.field-0.0 _ _ refl
    refl starts
    (λ at target is. subst (λ ts. HasNoPlan ts c.args.start.now.place.version c.args.to.now at target) c.deref.ensures.value
    (c.in_err-steps.ensures.missing at target (ap Err is)))))

pub returns-then-is_there-clause-moves : goal.returns-then-is_there-clause-moves
returns-then-is_there-clause-moves g c = λ before starts.
    let both = c.is_there.ensures.0 c.if-is_there.true in
    unasked (Ok _) tt
    (is_there c.args.to.now c.args.release.now.transitions.items c.args.release.now.migrations.items _ _ _ _ c.args.start.now _ _ _ refl refl
    c.replace.ensures.value refl starts both.1
    (no_steps c.deref.result.now c.args.start.now.place.version c.args.to.now _
    (none_mapped (λ t. t.now) c.in_ok-steps.steps.items (ap length (sym c.deref-2.ensures.value) ∙ both.0)) c.in_ok-steps.ensures.ok))

pub move_along-requires : goal.move_along-requires
move_along-requires g c =
    rw (c.deref-3.ensures.value, c.deref-4.ensures.value)
    (way_known (names_known c.args.release.now.migrations.items) c.deref.result.now c.args.release.now.transitions.items c.args.start.now.place.version
    c.args.to.now _ c.deref.ensures.value c.args.release.now.names_are_known c.in_ok-steps.ensures.ok)

pub returns-clause-moves : goal.returns-clause-moves
returns-clause-moves g c = λ before starts.
    let way = rw c.deref.ensures.value at c.in_ok-steps.ensures.ok in
    let moves = rw (c.deref-3.ensures.value, c.deref-4.ensures.value) at c.move_along.ensures.moves in
    record {
      mapped = moves.mapped;
      refused = moves.refused;
      migrates = migrated c.args.to.now c.args.release.now.transitions.items c.args.release.now.migrations.items (Some []) (Some moves.mapped) (Some [])
          (Some moves.refused) c.args.start.now _ way c.is_before-back.result c.is_before-back.ensures c.move_along.result moves.ends moves.not_refused
          (λ same two. false≢true (sym c.if-is_there.false ∙ c.is_there.ensures.1 (
            ap length c.deref-2.ensures.value ∙ sym (length-map c.in_ok-steps.steps.items (λ t. t.now))
                ∙ no_way_on c.args.release.now.transitions.items c.args.start.now.place.version c.args.to.now _ c.args.release.now.lead_on same way,
            two,
          )))
          _ _ _ starts moves.moves;
      asked = moves.asked;
    }

pub returns-in_err-steps-clause-spawn_cause : goal.returns-in_err-steps-clause-spawn_cause
returns-in_err-steps-clause-spawn_cause g c = cause_quiet c.from_residual.result (of_plan c.in_err-steps.field-0.0) _ _ refl c.from_residual.ensures.1
    (plan_quiet c.in_err-steps.field-0.0)

pub returns-then-is_there-clause-spawn_cause : goal.returns-then-is_there-clause-spawn_cause
returns-then-is_there-clause-spawn_cause g c = cause_done _ _ _ refl
