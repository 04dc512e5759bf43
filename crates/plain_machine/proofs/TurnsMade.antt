-- What the parts of a turn make of the world is what the machine makes.
use Rattle.std.proofs.Common.{◌≡◌, ℕ, Bool, false, List, ◌∷◌, drop, Ok, Err, refl, sym, ◌∙◌, ap}
use Rattle.std.specs.FinMap.{get, insert}
use Rattle.metadata_links.specs.declared.manifest.Manifest.{Manifest}
use Rattle.template_eval.specs.Rendered.{Rendered}
use Rattle.template_eval.specs.declared.render_error.RenderError.{RenderError}
use Rattle.settings_machine.specs.declared.cause.Cause.TheVariants as cause
use Rattle.settings_machine.specs.Seen.{IsRenderedAs}
use Rattle.settings_machine.specs.World.{Key, Image, World, Files, Work, Job, Idle, Failed, Running, path_in, path_of, is_running}
use Rattle.settings_machine.specs.Step as machine
use Rattle.settings_machine.specs.Step.{turn_next, with_file}
use Rattle.plain_machine.specs.Jobs.{past_file}
use Rattle.plain_machine.specs.Steps.{HoldsImage, IsTurned, answer_of}
use Rattle.plain_machine.specs.Turns.{IsFirstFile, IsFirstCommand, IsAtEnd, IsWritten, IsFileTurn, IsCommandTurn, IsLastTurn}
use Rattle.plain_machine.specs.Worlds.{world_of}
use Rattle.plain_machine.specs.declared.image.PlainImage.{PlainImage}
use Rattle.plain_machine.specs.declared.machine.PlainMachine.{PlainMachine}
use Rattle.plain_machine.specs.declared.turn_answer.TurnAnswer.{TurnAnswer}
use Rattle.plain_machine.specs.declared.turn_answer.TurnAnswer.TheVariants as answer

-- ---- the file

module _ (I : Image) (W : World) (f : List ℕ) (w : Work) (more : List (List ℕ)) where
  pub written_is : (etc : Files) (job : Job) (bytes : List ℕ) → job ≡ past_file W.job → W.job ≡ Running w → w.files ≡ f ∷ more
      → etc ≡ insert W.etc (path_of I f) bytes
      → record W { job = job; etc = etc } ≡ machine.wrote I W f more w (Ok bytes)
  written_is etc job bytes past running files put =
      ap (λ (j : Job). record W { job = j; etc = etc }) (past ∙ ap past_file running ∙ ap (λ (fs : List (List ℕ)). Running (record w { files = drop 1 fs }))
      files)
      ∙ ap (λ (m : Files). record W { job = Running (record w { files = more }); etc = m }) put

-- ---- the turn of a running job

module _ (image : PlainImage) (old new : PlainMachine) (answer : TurnAnswer) (w : Work) (running : (world_of old).job ≡ Running w) where
  pub file_turned : (f : List ℕ) → IsFirstFile w f → IsFileTurn image old f answer new → IsTurned image old answer new
  unfolding turn_next
  file_turned f first turned = λ I holds. turned I w first.more holds running first.files
      ∙ sym (ap (λ (j : Job). machine.job_turn I (world_of old) j (answer_of answer)) running
      ∙ ap (λ (fs : List (List ℕ)). machine.work_turn I (world_of old) fs w (answer_of answer)) first.files)

  pub command_turned : (service : List ℕ) (words : List (List ℕ)) → IsFirstCommand w service words → IsCommandTurn old service words answer new
      → IsTurned image old answer new
  unfolding turn_next
  command_turned service words first turned = λ I holds. turned w first.index first.more running first.commands
      ∙ sym (ap (λ (j : Job). machine.job_turn I (world_of old) j (answer_of answer)) running
      ∙ ap (λ (fs : List (List ℕ)). machine.work_turn I (world_of old) fs w (answer_of answer)) first.files
      ∙ ap (λ (cs : List machine.Command). machine.after_files_turn I (world_of old) cs w (answer_of answer)) first.commands)

  pub last_turned : (since : List Key) (again : Bool) → IsAtEnd w since again → IsLastTurn image old since again answer new → IsTurned image old answer new
  unfolding turn_next
  last_turned since again end turned = λ I holds. turned I w holds end.since_is end.again_is
      ∙ sym (ap (λ (j : Job). machine.job_turn I (world_of old) j (answer_of answer)) running
      ∙ ap (λ (fs : List (List ℕ)). machine.work_turn I (world_of old) fs w (answer_of answer)) end.files
      ∙ ap (λ (cs : List machine.Command). machine.after_files_turn I (world_of old) cs w (answer_of answer)) end.commands)

-- ---- the path of a file

-- The path of a file, in a manifest that is the image's.
pub path_same : (I : Image) (image : PlainImage) → HoldsImage I image → (f : List ℕ) → path_in (get image.manifest.files f) ≡ path_of I f
path_same I image holds f = ap (λ (m : Manifest). path_in (get m.files f)) holds.manifest_is

-- ---- what each answer makes

module _ (image : PlainImage) (old new : PlainMachine) (f : List ℕ) where
  pub file_written : (status : ℕ) (r : Rendered) → IsRenderedAs image.templates image.os f old.held.live r → IsWritten image old f r new
      → IsFileTurn image old f (answer.Fine status) new
  file_written status r like written = λ I w more holds running files. written I w more holds running files
      ∙ sym (ap (machine.wrote I (world_of old) f more w) (like.renders I holds.templates_are holds.os_is))

  pub file_refused : (status : ℕ) (e : RenderError) → IsRenderedAs image.templates image.os f old.held.live (Err e)
      → world_of new ≡ machine.with_job (world_of old) (Failed (cause.Render f e)) → IsFileTurn image old f (answer.Fine status) new
  file_refused status e like is = λ I w more holds running files. is ∙ sym
      (ap (machine.wrote I (world_of old) f more w) (like.renders I holds.templates_are holds.os_is))

-- The turn of a machine whose job does not run.
pub unturned : (image : PlainImage) (old : PlainMachine) (a : TurnAnswer) → is_running (world_of old).job ≡ false → IsTurned image old a old
unfolding turn_next
unturned image old a still = λ I holds. sym (by I (world_of old).job still) where
  by : (I : Image) (j : Job) → is_running j ≡ false → machine.job_turn I (world_of old) j (answer_of a) ≡ world_of old
  by I Idle is = refl
  by I (Failed c) is = refl
  by I (Running w) is = absurd (cc is)
