use Rattle.std.proofs.Common.{Bool, ◌||◌, ◌&&◌, ◌∙◌, refl, sym, ap}
use Rattle.std.proofs.lemmas.Bool.{and_parts}
use Rattle.outside.proofs.Told.{moves_map}
use Rattle.settings_machine.specs.World.{is_running}
use Rattle.affected_apply.specs.Jobs.{job_of, failed_with_disk}
use Rattle.api_core.specs.declared.serving.Core.{Core}
use Rattle.api_core.proofs.Soundness.{sound_after, calm_running, still_failed, typed_still}
use Rattle.api_core.proofs.Turnings.{turns_of}
use Rattle.api_core.proofs.serving.Core.run_on.Goals as goal

pub returns-clause-turns : goal.returns-clause-turns
returns-clause-turns g c =
    let old_core = c.args.self.now in
    let t = c.turns-self in
    let now : Core = record { place = old_core.place; held = t.new.held; image = old_core.image; job = t.new.job; faulted = t.result } in
    let calm = calm_running old_core c.requires.sound c.requires.running in
    moves_map (λ old new turned. turns_of old_core now _ refl refl
    (t.ensures.failed ∙ ap (λ (b : Bool). b || (is_running (job_of old_core.job) && failed_with_disk (job_of t.new.job))) (sym calm))
    c.args.slice _ _ old new refl refl turned) t.ensures.turns

pub returns-clause-sound : goal.returns-clause-sound
returns-clause-sound g c =
    let old_core = c.args.self.now in
    let t = c.turns-self in
    let now : Core = record { place = old_core.place; held = t.new.held; image = old_core.image; job = t.new.job; faulted = t.result } in
    sound_after old_core now c.requires.sound refl refl
    (typed_still old_core.image.model.types old_core.held t.new.held c.requires.sound.typed t.ensures.held) t.ensures.known
    (λ faulted. still_failed (job_of t.new.job) (and_parts (is_running (job_of old_core.job)) _ (sym t.ensures.failed ∙ faulted)).1)
