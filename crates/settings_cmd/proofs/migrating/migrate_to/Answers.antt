use Rattle.std.proofs.Common.{List, ℕ, inr, Result, Ok, sym, ap, subst}
use Rattle.outside.proofs.Told.{moves_after}
use Rattle.migrate_chain.specs.declared.moving.Moved.{Moved}
use Rattle.migrate_chain.specs.declared.move_error.MoveError.{MoveError}
use Rattle.settings_cmd.specs.Carried.{AnswersMoving}
use Rattle.settings_cmd.proofs.migrating.migrate_to.Goals as goal

pub returns-in-Ok-clause-migrated : goal.returns-in-Ok-clause-migrated
returns-in-Ok-clause-migrated g c =
    let moves = c.migrate_by.ensures.moves in
    inr (record {
      release = c.in_ok-release.release;
      read = c.in_ok-release.ensures.ok;
      result = c.migrate_by.result;
      moves = record { mapped = moves.mapped; refused = moves.refused; migrates = moves_after c.read_release.ensures.same moves.migrates; asked = moves.asked };
      answers = subst (λ (r : Result Moved MoveError). AnswersMoving c.args.to.now r (Ok c.in_ok-line.line)) (sym c.in-Ok.is)
          (ap (λ (l : List ℕ). Ok l) c.in_ok-line.ensures);
    })

pub returns-in-Err-clause-migrated : goal.returns-in-Err-clause-migrated
returns-in-Err-clause-migrated g c =
    let moves = c.migrate_by.ensures.moves in
    inr (record {
      release = c.in_ok-release.release;
      read = c.in_ok-release.ensures.ok;
      result = c.migrate_by.result;
      moves = record { mapped = moves.mapped; refused = moves.refused; migrates = moves_after c.read_release.ensures.same moves.migrates; asked = moves.asked };
      answers = subst (λ (r : Result Moved MoveError). AnswersMoving c.args.to.now r c.refused.result) (sym c.in-Err.is) c.refused.ensures;
    })
