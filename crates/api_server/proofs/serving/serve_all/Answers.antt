use Rattle.std.proofs.Common.{refl, ◌∙◌, ap, ◌+◌, arith}
use Rattle.outside.specs.Door.{DoorState}
use Rattle.outside.proofs.Told.{moves_stay, moves_then, moves_after}
use Rattle.api_server.proofs.Followed.{one_accepted, none_opened, rounds_none, rounds_idle, rounds_closed, rounds_more}
use Rattle.api_server.proofs.serving.serve_all.Goals as goal

pub loop-number-init : goal.loop-number-init
loop-number-init g c = record {
  serves = moves_stay (λ h. rounds_none c.args.pace c.args.core.now _ _ _ _ _ h);
  sound = c.requires.sound;
  idle = c.requires.idle;
  accepted = c.requires.unused;
  kept = refl;
  disk_later = omega arith;
  spawner_later = omega arith;
  door_later = omega arith;
  asked = refl;
}

pub loop-number-preserved : goal.loop-number-preserved
loop-number-preserved g c =
    let was = c.loop-number.invariant in
    let idle = c.idle.ensures in
    let one = c.serve_one.ensures in
    let came = one_accepted c.in-Ok-true.field-0 c.in-Ok-true.field-0-test _ _ c.in-Ok-true.ensures.accepted in
    record {
      serves = moves_then
          (λ old between new all next.
          rounds_more c.in-Ok-true.field-0 c.in-Ok-true.field-0-test c.args.pace c.args.core.now c.idle.new.core c.serve_one.new.core _ _ _ _ _ _ _ _ _ _ _ _ _
          old between new
          (moves_after idle.told c.in-Ok-true.ensures.opened) all next)
          (moves_then
          (λ old between new all idles.
          rounds_idle c.args.pace c.args.core.now c.loop-number.core c.idle.new.core _ _ _ _ _ _ _ _ _ _ _ old between new all idles)
          was.serves idle.idles)
          one.serves;
      sound = one.sound;
      idle = ap (λ (d : DoorState). d.busy) one.done;
      accepted = ap (λ (d : DoorState). d.accepted) one.done ∙ ap (λ (d : DoorState). d.accepted) came
          ∙ ap (λ n. n + 1) (ap (λ (d : DoorState). d.accepted) idle.same ∙ was.accepted);
      kept = ap (λ (d : DoorState). d.broken) one.done ∙ ap (λ (d : DoorState). d.broken) came ∙ ap (λ (d : DoorState). d.broken) idle.same ∙ was.kept;
      disk_later = omega (arith, was.disk_later, idle.disk_faults, one.disk_faults);
      spawner_later = omega (arith, was.spawner_later, idle.spawner_faults, one.spawner_faults);
      door_later = omega (arith, was.door_later, idle.door_faults, c.in-Ok-true.ensures.cause.later, one.door_faults);
      asked = one.asked ∙ idle.asked ∙ was.asked;
    }

pub returns-in-Ok-false-clause-serves : goal.returns-in-Ok-false-clause-serves
returns-in-Ok-false-clause-serves g c =
    let idle = c.idle.ensures in
    moves_then
    (λ old between new all idles. rounds_closed c.args.pace c.args.core.now c.idle.new.core _ _ _ _ _ _ _ _ _ old new
    (moves_after idle.told (none_opened c.in-Ok-false.field-0 c.in-Ok-false.field-0-test _ _ c.in-Ok-false.ensures.opened))
    (rounds_idle c.args.pace c.args.core.now c.loop-number.core c.idle.new.core _ _ _ _ _ _ _ _ _ _ _ old between new all idles))
    c.loop-number.invariant.serves idle.idles

pub returns-in-Err-clause-serves : goal.returns-in-Err-clause-serves
returns-in-Err-clause-serves g c =
    let idle = c.idle.ensures in
    moves_then
    (λ old between new all idles. rounds_closed c.args.pace c.args.core.now c.idle.new.core _ _ _ _ _ _ _ _ _ old new
    (moves_after idle.told c.in-Err.ensures.opened)
    (rounds_idle c.args.pace c.args.core.now c.loop-number.core c.idle.new.core _ _ _ _ _ _ _ _ _ _ _ old between new all idles))
    c.loop-number.invariant.serves idle.idles
