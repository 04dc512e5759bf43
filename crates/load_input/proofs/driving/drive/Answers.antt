use Rattle.std.proofs.Common.{refl, ◌∙◌, []}
use Rattle.outside.proofs.Told.{moves_stay, moves_then}
use Rattle.load_input.specs.Counted.{ran}
use Rattle.load_input.proofs.Runs.{counted_none, counted_then}
use Rattle.load_input.proofs.driving.drive.Goals as goal

pub loop-turn-init : goal.loop-turn-init
loop-turn-init g c = record {
  counted = moves_stay (λ h. counted_none c.args.core.now c.args.counts.now (ran c.args.spawner.now) h);
  sound = c.requires.sound;
  calm = c.requires.calm;
  ok = refl;
  refused = refl;
}

pub loop-turn-preserved : goal.loop-turn-preserved
loop-turn-preserved g c =
    let was = c.loop-turn.invariant in
    let one = c.in_ok-turn_once.ensures in
    record {
      counted = moves_then
          (λ old between new so_far turn. counted_then [] [] c.args.core.now c.loop-turn.core c.turn_once.new.core c.args.counts.now c.loop-turn.counts
          c.turn_once.new.counts
          (ran c.args.spawner.now) (ran c.loop-turn.spawner) (ran c.turn_once.new.spawner) old between new so_far turn)
          was.counted one.counted;
      sound = one.sound;
      calm = one.calm;
      ok = one.ok ∙ was.ok;
      refused = one.refused ∙ was.refused;
    }
