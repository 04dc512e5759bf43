use Rattle.std.proofs.Common.{inl, inr, refl, sym, ◌∙◌, ap, arith}
use Rattle.outside.proofs.Told.{moves_stay, moves_then, moves_map}
use Rattle.settings_machine.specs.World.{is_running}
use Rattle.api_server.proofs.Turnings.{none_yet, one_turn_more, all_made}
use Rattle.api_server.proofs.turning.turns.Goals as goal

pub loop-core-init : goal.loop-core-init
loop-core-init g c = record {
  so_far = moves_stay (λ h. none_yet c.args.slice c.args.core.now _ _ _ _ h);
  sound = c.requires.sound;
  disk_later = omega arith;
  spawner_later = omega arith;
  asked = refl;
}

pub loop-core-preserved : goal.loop-core-preserved
loop-core-preserved g c =
    let was = c.loop-core.invariant in
    let turn = c.turn_and_tell.ensures in
    record {
      so_far = moves_then
          (λ old between new so_far turns. one_turn_more c.args.slice c.loop-core.left c.one_less-left.result (c.any_left.ensures.some c.loop-core-test.true)
          c.one_less-left.ensures c.args.core.now c.loop-core.core c.turn_and_tell.new.core _ _ _ _ _ _ _ _ _ old between new so_far turns)
          was.so_far turn.turns;
      sound = turn.sound;
      disk_later = omega (arith, was.disk_later, turn.disk_faults);
      spawner_later = omega (arith, was.spawner_later, turn.spawner_faults);
      asked = turn.asked ∙ was.asked;
    }

pub returns-else-is_running-clause-turns : goal.returns-else-is_running-clause-turns
returns-else-is_running-clause-turns g c =
    let still = inr (sym (ap is_running c.job.ensures) ∙ sym c.is_running.ensures ∙ c.if-is_running.false) in
    moves_map (λ old new so_far. all_made c.args.slice c.loop-core.left c.args.core.now c.loop-core.core _ _ _ _ _ _ old new still so_far)
    c.loop-core.invariant.so_far

pub returns-after-loop-core-clause-turns : goal.returns-after-loop-core-clause-turns
returns-after-loop-core-clause-turns g c =
    moves_map
    (λ old new so_far. all_made c.args.slice c.loop-core.left c.args.core.now c.loop-core.core _ _ _ _ _ _ old new
    (inl (c.any_left.ensures.none c.loop-core-test.false)) so_far)
    c.loop-core.invariant.so_far
