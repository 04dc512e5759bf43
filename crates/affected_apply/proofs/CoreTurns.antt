-- A turn that isn't the end of a job is one event of the machine.
use Rattle.std.proofs.Common.{◌≡◌, ◌≢◌, inl, inr, ⊎_elim, ℕ, arith, Bool, true, false}
use Rattle.std.proofs.Common.{◌||◌, List, [], ◌∷◌, Option, is_some, refl, sym, ◌∙◌, ap, subst}
use Rattle.std.specs.Prelude.{All, IsSome}
use Rattle.std.specs.FinMap.{get}
use Rattle.std.proofs.lemmas.Bool.{cases_Bool}
use Rattle.outside.specs.History.{History}
use Rattle.outside.specs.Spawner.{Run}
use Rattle.outside.specs.Told.{Moves}
use Rattle.settings_tree.specs.declared.entry.Owed.{Owed}
use Rattle.settings_tree.specs.declared.held.Held.{Held}
use Rattle.metadata_links.specs.Links.{files_of}
use Rattle.metadata_links.specs.declared.manifest.Manifest.{Manifest}
use Rattle.settings_machine.specs.World.{Image, World, Work, Running, Among, path_of, is_running}
use Rattle.settings_machine.specs.declared.cause.Cause.TheVariants as cause
use Rattle.settings_machine.specs.Step.{turn_next}
use Rattle.settings_machine.specs.Events.{Turned, next, faulted_next}
use Rattle.settings_machine.specs.Paid.{IsDuePath, IsFit, IsGood}
use Rattle.settings_machine.proofs.PaidLaws.{due_owed, fit_stays}
use Rattle.settings_machine.proofs.Manifests.{HasGoodFiles, good_files}
use Rattle.machine_disk.specs.Kept.{Folder, CoreState, Kept}
use Rattle.machine_disk.specs.Ran.{Ran}
use Rattle.machine_disk.proofs.Quiet.{IsAlike, ran_calm}
use Rattle.machine_disk.proofs.Turning.{ran_failed, ran_wrote}
use Rattle.affected_apply.specs.Machine.{job_left, fails_with_disk, PutsFile, MakesFiles, IsOneTurn, MakesTurn, IsMachineTurn}
use Rattle.affected_apply.specs.Sees.{Sees, HasRow}
use Rattle.affected_apply.specs.declared.view.View.{View}
use Rattle.affected_apply.specs.declared.outcome.Turn.{Turn}
use Rattle.affected_apply.specs.declared.outcome.Turn.TheVariants as turn
use Rattle.settings_machine.specs.Seen.{HoldsTemplates}
use Rattle.store_open.specs.Laws.{HoldsImage}
use Rattle.affected_apply.specs.declared.store.Store.{Store}
use Rattle.affected_apply.specs.Jobs.{failed_with_disk}
use Rattle.affected_apply.specs.Turned.{core_at, IsEvent, IsTurn}
use Rattle.affected_apply.proofs.Running.{core_same, or_calm, calm, job_is, held_is, job_owes, fits_turn}

-- A job that failed with Disk doesn't run.
stopped : (t : Turn) (left : Work) → fails_with_disk t ≡ true → is_running (job_left t left) ≡ false
stopped (turn.Wrote file) left e = absurd (cc e)
stopped (turn.Ran service index) left e = absurd (cc e)
stopped turn.Done left e = absurd (cc e)
stopped (turn.Failed c) left e = refl

some_is : {X : Type 0} (o : Option X) → IsSome o → is_some o ≡ true
some_is o h = h

-- The file that is next is there.
first_known : (m : Manifest) (files : List (List ℕ)) → All (HasRow m) files → (f : List ℕ) (rest : List (List ℕ)) → files ≡ f ∷ rest
    → is_some (get m.files f) ≡ true
first_known m files known f rest e =
    let all : All (HasRow m) (f ∷ rest) = subst (All (HasRow m)) e known in
    some_is (get m.files f) (all 0 f (omega arith))

module _ (I : Image) (good : IsGood I) (folder : Folder) (W V : World) (old new : History) (before : CoreState) (kept : Kept I folder W V old before) (w : Work)
    (running : before.job ≡ Running w)
    (t : Turn) (left : Work) (ran_before ran_after : Option (List Run)) (one : IsOneTurn I W w t left ran_before ran_after old new)
    (known : All (HasRow I.manifest) w.files) where
  abbrev now : CoreState
  now = record { place = before.place; held = before.held; job = job_left t left; faulted = fails_with_disk t }

  none_failed : before.faulted ≡ false
  none_failed = calm I folder W V old before kept w running

  fit_next : IsFit I (next I W (Turned one.answer))
  fit_next = fit_stays I good W kept.fit (Turned one.answer ∷ []) refl

  job_same : job_left t left ≡ (next I W (Turned one.answer)).job
  job_same = sym (ap (λ (N : World). N.job) one.is)

  -- The disk and the configuration files stay.
  alone : one.etc ≡ W.etc → new ≡ old → Ran I folder W V (Turned one.answer ∷ []) old new before now
  alone etc same =
      let alike : IsAlike W (next I W (Turned one.answer)) = record {
        version = ap (λ (N : World). N.version) one.is;
        format = ap (λ (N : World). N.format) one.is;
        held = ap (λ (N : World). N.held) one.is;
        etc = ap (λ (N : World). N.etc) one.is ∙ etc;
      } in
      subst (λ (h : History). Ran I folder W V (Turned one.answer ∷ []) old h before now) (sym same)
      (⊎_elim
      (λ fails. ran_failed I folder W V old before kept (Turned one.answer) now alike fit_next job_same fails
      (ap (λ (b : Bool). faulted_next b (Turned one.answer)) none_failed ∙ one.fault ∙ fails) refl (stopped t left fails))
      (λ fine. ran_calm I folder W V old before kept (Turned one.answer) now alike fit_next job_same refl refl none_failed fine (one.fault ∙ fine))
      (cases_Bool (fails_with_disk t)))

  -- The first of the files has something else.
  put : (f : List ℕ) (fs : List (List ℕ)) → w.files ≡ f ∷ fs → PutsFile (path_of I f) W.etc one.etc old new
      → Ran I folder W V (Turned one.answer ∷ []) old new before now
  put f fs files puts =
      let row : is_some (get I.manifest.files f) ≡ true = first_known I.manifest w.files known f fs files in
      let paths : HasGoodFiles I.manifest = good_files I.defaults I.manifest good.manifest in
      let owes = job_owes I folder W V old before kept w running in
      let due_path : IsDuePath I W.held (path_of I f) = record {
        file = f;
        due = subst (λ (o : Owed). Among (files_of I.manifest o) f) (sym (due_owed I W.held kept.fit.image))
            (owes.to_do f (subst (λ (l : List (List ℕ)). Among l f) (sym files) (inl refl)));
        path_is = refl;
      } in
      subst (λ (h : History). Ran I folder W V (Turned one.answer ∷ []) old h before now) (sym puts.on_disk)
      (ran_wrote I folder W V old before kept none_failed (Turned one.answer) (one.answer, inl refl) (path_of I f) (paths.etc f row) due_path
      puts.node
      (ap (λ (N : World). N.version) one.is) (ap (λ (N : World). N.format) one.is) (ap (λ (N : World). N.held) one.is)
      (ap (λ (N : World). N.etc) one.is ∙ puts.files)
      fit_next now refl refl job_same (sym one.fault) (stopped t left))

  made : (fs : List (List ℕ)) → w.files ≡ fs → MakesFiles I fs W.etc one.etc old new → Ran I folder W V (Turned one.answer ∷ []) old new before now
  made [] files both = alone both.0 both.1
  made (f ∷ fs) files (inl both) = alone both.0 both.1
  made (f ∷ fs) files (inr puts) = put f fs files puts

  pub turn_event : IsEvent I folder W V before now ran_before ran_after old new
  turn_event = record {
    answer = one.answer;
    fitting = fits_turn I folder W V old before kept w running one.answer one.fitting;
    ran = made w.files refl one.disk;
    runs = spawned;
  } where
    spawned : Moves ran_before ran_after (λ r s. r ≡ W.runs → s ≡ (turn_next I W one.answer).runs)
    spawned = subst (λ (x : List Run). Moves ran_before ran_after (λ r s. r ≡ W.runs → s ≡ x)) (sym (ap (λ (N : World). N.runs) one.is)) one.spawner

-- A job that is left by a turn failed with Disk where the turn did.
failed_same : (t : Turn) (left : Work) → fails_with_disk t ≡ failed_with_disk (job_left t left)
failed_same (turn.Wrote file) left = refl
failed_same (turn.Ran service index) left = refl
failed_same turn.Done left = refl
failed_same (turn.Failed cause.Disk) left = refl
failed_same (turn.Failed cause.Memory) left = refl
failed_same (turn.Failed (cause.Render file error)) left = refl
failed_same (turn.Failed (cause.Spawn service)) left = refl
failed_same (turn.Failed (cause.Status service number)) left = refl

more_turn : (I : Image) (W : World) (w : Work) (t : Turn) (left : Work) (ran_before ran_after : Option (List Run)) (old new : History) → t ≢ turn.Done
    → MakesTurn I W w t left ran_before ran_after old new → IsOneTurn I W w t left ran_before ran_after old new
more_turn I W w (turn.Wrote file) left ran_before ran_after old new more one = one
more_turn I W w (turn.Ran service index) left ran_before ran_after old new more one = one
more_turn I W w turn.Done left ran_before ran_after old new more one = absurd (more refl)
more_turn I W w (turn.Failed c) left ran_before ran_after old new more one = one

-- The parts of the core are seen.
pub sees_image : (s : Store) (view : View) → view.os.now ≡ s.image.now.model.os → view.manifest.now ≡ s.image.now.manifest
    → view.templates.now ≡ s.image.now.templates
    → (I : Image) → HoldsImage I s.image.now → Sees I view
sees_image s view os manifest templates I of = record {
  os = os ∙ of.os_is;
  manifest = manifest ∙ of.manifest_is;
  templates = subst (HoldsTemplates I) (sym templates) of.templates_are;
}

-- A turn of the machine is one of the core whose parts are seen.
pub turn_made : (s : Store) (held : Held) (w left : Work) (t : Turn) (view : View) → view.live.now ≡ held.live → view.os.now ≡ s.image.now.model.os
    → view.manifest.now ≡ s.image.now.manifest
    → view.templates.now ≡ s.image.now.templates → t ≢ turn.Done → All (HasRow s.image.now.manifest) w.files
    → (ran_before ran_after : Option (List Run)) (old new : History)
    → IsMachineTurn view w t left ran_before ran_after old new → IsTurn s held (Running w) held (job_left t left) ran_before ran_after old new
turn_made s held w left t view live os manifest templates more known ran_before ran_after old new makes = record { event = by } where
  by : (I : Image) → IsGood I → HoldsImage I s.image.now → (folder : Folder) (faulted : Bool) (W V : World)
      → Kept I folder W V old (core_at s held (Running w) faulted)
      → IsEvent I folder W V (core_at s held (Running w) faulted)
      (core_at s held (job_left t left) (faulted || failed_with_disk (job_left t left))) ran_before ran_after old new
  by I good of folder faulted W V kept =
      let before = core_at s held (Running w) faulted in
      let now = core_at s held (job_left t left) (faulted || failed_with_disk (job_left t left)) in
      let sees : Sees I view = sees_image s view os manifest templates I of in
      let one : IsOneTurn I W w t left ran_before ran_after old new = more_turn I W w t left ran_before ran_after old new more
      (makes I W sees (job_is I folder W V old before kept w refl) (ap (λ (h : Held). h.live) (held_is I folder W V old before kept w refl) ∙ sym live)) in
      let rows : All (HasRow I.manifest) w.files = subst (λ (m : Manifest). All (HasRow m) w.files) of.manifest_is known in
      let e = turn_event I good folder W V old new before kept w refl t left ran_before ran_after one rows in
      subst (λ (c : CoreState). IsEvent I folder W V before c ran_before ran_after old new)
      (core_same _ now refl refl refl (failed_same t left ∙ or_calm faulted (failed_with_disk (job_left t left)) (calm I folder W V old before kept w refl)))
      e
