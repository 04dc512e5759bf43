use Rattle.std.proofs.Common.{refl, ◌∙◌, arith}
use Rattle.outside.proofs.Told.{moves_stay, moves_then}
use Rattle.api_server.proofs.Idled.{idled_none, idled_more}
use Rattle.api_server.proofs.idling.idle.Goals as goal

pub loop-turn-init : goal.loop-turn-init
loop-turn-init g c = record {
  idles = moves_stay (λ h. idled_none c.args.while_idle c.args.core.now _ _ _ _ h);
  sound = c.requires;
  same = refl;
  told = refl;
  disk_later = omega arith;
  spawner_later = omega arith;
  door_faults = refl;
  asked = refl;
}

pub loop-turn-preserved : goal.loop-turn-preserved
loop-turn-preserved g c =
    let was = c.loop-turn.invariant in
    let turn = c.turns.ensures in
    record {
      idles = moves_then
          (λ old between new idles turns. idled_more c.args.while_idle (c.is_idle.ensures.allowed c.if-not-is_idle.false) c.args.core.now c.loop-turn.core
          c.turns.new.core _ _ _ _ _ _ _ _ _ old between new idles turns) was.idles turn.turns;
      sound = turn.sound;
      same = c.is_idle.ensures.same ∙ was.same;
      told = c.is_idle.ensures.told ∙ was.told;
      disk_later = omega (arith, was.disk_later, turn.disk_faults);
      spawner_later = omega (arith, was.spawner_later, turn.spawner_faults);
      door_faults = c.is_idle.ensures.faults ∙ was.door_faults;
      asked = turn.asked ∙ was.asked;
    }
