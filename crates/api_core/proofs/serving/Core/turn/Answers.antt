use Rattle.std.proofs.Common.{Bool, ◌||◌, ◌&&◌, ◌∙◌, refl, sym, ap}
use Rattle.outside.proofs.Told.{moves_map}
use Rattle.settings_machine.specs.World.{is_running}
use Rattle.affected_apply.specs.Jobs.{job_of, failed_with_disk}
use Rattle.api_core.specs.declared.serving.Core.{Core}
use Rattle.api_core.proofs.Soundness.{sound_after, calm_running, still_failed, typed_still}
use Rattle.api_core.proofs.Turnings.{one_turn, turns_of}
use Rattle.api_core.proofs.serving.Core.turn.Goals as goal

pub returns-clause-turns : goal.returns-clause-turns
returns-clause-turns g c =
    let old_core = c.args.self.now in
    let t = c.turn-self in
    let now : Core = record { place = old_core.place; held = t.new.held; image = old_core.image; job = t.new.job; faulted = t.result } in
    let failed = failed_with_disk (job_of t.new.job) in
    let calm = calm_running old_core c.requires.sound c.requires.running in
    let flag = t.ensures.failed ∙ sym (ap (λ (b : Bool). b && failed) c.requires.running)
    ∙ sym (ap (λ (b : Bool). b || (is_running (job_of old_core.job) && failed)) calm)
    in
    moves_map
    (λ old new turn. turns_of old_core now _ refl refl flag _ _ _ old new refl refl
    (one_turn _ old_core.held (job_of old_core.job) t.new.held (job_of t.new.job) _ _ old new c.requires.running turn)) t.ensures.event

pub returns-clause-sound : goal.returns-clause-sound
returns-clause-sound g c =
    let old_core = c.args.self.now in
    let t = c.turn-self in
    let now : Core = record { place = old_core.place; held = t.new.held; image = old_core.image; job = t.new.job; faulted = t.result } in
    sound_after old_core now c.requires.sound refl refl
    (typed_still old_core.image.model.types old_core.held t.new.held c.requires.sound.typed t.ensures.held) t.ensures.known
    (λ faulted. still_failed (job_of t.new.job) (sym t.ensures.failed ∙ faulted))
