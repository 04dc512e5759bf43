-- What keeps a core sound.
use Rattle.std.proofs.Common.{◌≡◌, Bool, true, false, List, length, refl, sym, ◌∙◌, subst, ap}
use Rattle.metadata_links.specs.declared.manifest.Manifest.{Manifest}
use Rattle.settings_machine.specs.World.{Job, Idle, Failed, Running, is_running, KeepsAllButOwed}
use Rattle.settings_machine.specs.Typed.{IsTypedHeld}
use Rattle.settings_tree.specs.declared.held.Held.{Held}
use Rattle.store_image.specs.declared.image.Image.{Image}
use Rattle.typed_settings.specs.declared.row.Row.{Row}
use Rattle.version_links.specs.declared.chain.Place.{Place}
use Rattle.affected_apply.specs.Jobs.{job_of, HasRows, failed_with_disk}
use Rattle.api_core.specs.Cores.{IsSound}
use Rattle.api_core.specs.declared.serving.Core.{Core}

module _ (m : Manifest) where
  -- A job that doesn't run has no file to do.
  pub rows_still : (j : Job) → is_running j ≡ false → HasRows m j
  rows_still Idle still = tt
  rows_still (Failed c) still = tt
  rows_still (Running w) still = absurd (cc still)

-- A core with the image and the data directory of a sound one is sound.
pub sound_after : (c now : Core) → IsSound c → now.image ≡ c.image → now.place ≡ c.place → IsTypedHeld c.image.model.types now.held
    → HasRows c.image.manifest (job_of now.job) → (now.faulted ≡ true → is_running (job_of now.job) ≡ false) → IsSound now
sound_after c now sound image place typed rows still = record {
  two_names = ap (λ (p : Place). length p.directory) place ∙ sound.two_names;
  typed = subst (λ (i : Image). IsTypedHeld i.model.types now.held) (sym image) typed;
  rows = subst (λ (i : Image). HasRows i.manifest (job_of now.job)) (sym image) rows;
  still = still;
}

-- Where a job runs no call of the disk has failed.
pub calm_running : (c : Core) → IsSound c → is_running (job_of c.job) ≡ true → c.faulted ≡ false
calm_running c sound running = by c.faulted refl where
  by : (b : Bool) → c.faulted ≡ b → b ≡ false
  by true is = absurd (cc (sound.still is, running))
  by false is = refl

-- A job that failed with Disk doesn't run.
pub still_failed : (j : Job) → failed_with_disk j ≡ true → is_running j ≡ false
still_failed Idle failed = refl
still_failed (Failed c) failed = refl
still_failed (Running w) failed = absurd (cc failed)

-- What is held is typed still where nothing changes but what is owed.
pub typed_still : (types : List Row) (old new : Held) → IsTypedHeld types old → KeepsAllButOwed old new → IsTypedHeld types new
typed_still types old new typed keeps = subst (IsTypedHeld types) (sym keeps) (record { settings = typed.settings; pending = typed.pending })
