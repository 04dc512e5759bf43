-- The states of the files of a core are those of the machine.
use Rattle.std.proofs.Common.{◌≡◌, inl, inr, ℕ, Bool, true, false, if◌then◌else◌, List, [], ◌∷◌, ◌++◌, map, Option, Some, None, Result, Ok, Err}
use Rattle.std.proofs.Common.{append_assoc, refl, sym, ◌∙◌, ap, subst}
use Rattle.std.specs.Prelude.{IfOk}
use Rattle.std.specs.Str.{bytes_eq}
use Rattle.std.specs.FinMap.{get, keys}
use Rattle.std.proofs.lemmas.Slice.Eq.{bytes_eq-Decides}
use Rattle.json_trees.specs.Collected.{result_map}
use Rattle.outside.specs.History.{History, tree_of}
use Rattle.outside.specs.Names.{Names}
use Rattle.outside.specs.Told.{Moves, WhereTold}
use Rattle.outside.proofs.Told.{where_map, where_all, where_both, moves_map, moves_same, moves_where}
use Rattle.outside.specs.declared.disk_error.DiskErr.{DiskErr}
use Rattle.outside.specs.declared.disk_error.DiskErr.TheVariants as disk
use Rattle.settings_tree.specs.declared.entry.Owed.{Owed}
use Rattle.settings_tree.specs.declared.entry.Owed.TheVariants as owed
use Rattle.settings_tree.specs.declared.held.Held.{Held}
use Rattle.metadata_links.specs.Faults.{has_name}
use Rattle.metadata_links.specs.Links.{files_of}
use Rattle.metadata_links.specs.declared.manifest.Manifest.{Manifest}
use Rattle.settings_machine.specs.declared.cause.Cause.TheVariants as cause
use Rattle.settings_machine.specs.declared.states.FileState.{FileState}
use Rattle.settings_machine.specs.declared.states.VerifiedFile.{VerifiedFile}
use Rattle.settings_machine.specs.PlanSeen.{path_seen}
use Rattle.settings_machine.specs.World.{Among, Image, World, Job, Idle, Failed, Running, is_running, is_etc, path_of, rendered, due}
use Rattle.settings_machine.specs.Events.{Asked}
use Rattle.settings_machine.specs.Paid.{IsFit, IsGood}
use Rattle.settings_machine.specs.Requests.{Verify}
use Rattle.settings_machine.specs.Seen.{HoldsTemplates}
use Rattle.settings_machine.specs.Step.{Answered, WithoutMemory, Faulted, failing, request_next}
use Rattle.settings_machine.specs.Verified.{state_in, verified_file, verified}
use Rattle.settings_machine.specs.VerifySeen.{IsStateSeen, marked_files}
use Rattle.settings_machine.proofs.Elements.{among_named}
use Rattle.settings_machine.proofs.Manifests.{HasGoodFiles, good_files}
use Rattle.settings_machine.proofs.PaidLaws.{fit_stays}
use Rattle.machine_disk.specs.Kept.{Folder, CoreState, Kept}
use Rattle.machine_disk.specs.Ran.{Ran}
use Rattle.machine_disk.specs.Store.{bytes_at}
use Rattle.machine_disk.proofs.Meanings.{core_holds}
use Rattle.machine_disk.proofs.Quiet.{IsAlike, ran_first, ran_calm}
use Rattle.store_open.specs.Laws.{HoldsImage}
use Rattle.affected_apply.specs.Jobs.{job_of}
use Rattle.api_core.specs.Cores.{core_state, IsEvent}
use Rattle.api_core.specs.Verifying.{IsVerification, Verifies, verified_in, IsVerified, AreVerified}
use Rattle.api_core.specs.declared.serving.Core.{Core}
use Rattle.api_core.proofs.Commitments.{undone_event}

-- ---- one file after another

-- The state that is seen of what was read is that of the file on the disk.
pub verified_one : (c : Core) (file : List ℕ) (is_due : Bool) (found : Option (List ℕ)) (path : Names) (state : FileState) (told : Option History)
    → path ≡ path_seen c.image.manifest file → WhereTold told (λ h. found ≡ bytes_at (tree_of h) path)
    → IsStateSeen c.image.templates c.image.model.os c.held.live file found is_due state
    → WhereTold told (IsVerified c (file, is_due) (record { name = file; path = path; state = state }))
verified_one c file is_due found path state told path_is read seen = where_map (λ h is. record {
  is = λ I os manifest templates.
      let at : path_of I file ≡ path = ap (λ (m : Manifest). path_seen m file) (sym manifest) ∙ sym path_is in
      ap (λ (p : Names). file_at p (state_in (rendered I file c.held.live) (bytes_at (tree_of h) p) is_due)) at
      ∙ ap (λ (o : Option (List ℕ)). file_at path (state_in (rendered I file c.held.live) o is_due)) (sym is)
      ∙ ap (file_at path) (seen.is I templates os);
}) read where
  file_at : Names → FileState → VerifiedFile
  file_at p s = record { name = file; path = p; state = s }

-- Of each image that has what the core has, these files are verified, and those are still to be.
pub record SoFar (c : Core) (marked : List (List ℕ × Bool)) (files : List VerifiedFile) (rest : List (List ℕ × Bool)) (h : History) : Type 0 where
  pub are : (I : Image) → c.image.model.os ≡ I.os → c.image.manifest ≡ I.manifest → HoldsTemplates I c.image.templates
      → map (verified_in I c.held.live (tree_of h)) marked ≡ files ++ map (verified_in I c.held.live (tree_of h)) rest

pub none_so_far : (c : Core) (marked : List (List ℕ × Bool)) (files : List VerifiedFile) (h : History) → files ≡ [] → SoFar c marked files marked h
none_so_far c marked files h none = record {
  are = λ I os manifest templates.
      ap (λ (l : List VerifiedFile). l ++ map (verified_in I c.held.live (tree_of h)) marked) (sym none);
}

pub one_so_far : (c : Core) (marked rest more : List (List ℕ × Bool)) (old new : List VerifiedFile) (m : List ℕ × Bool) (file : VerifiedFile) (h : History)
    → SoFar c marked old more h → more ≡ m ∷ rest → IsVerified c m file h → new ≡ old ++ file ∷ [] → SoFar c marked new rest h
one_so_far c marked rest more old new m file h so_far is one put = record {
  are = λ I os manifest templates.
      so_far.are I os manifest templates
      ∙ ap (λ (l : List (List ℕ × Bool)). old ++ map (verified_in I c.held.live (tree_of h)) l) is
      ∙ ap (λ (f : VerifiedFile). old ++ f ∷ map (verified_in I c.held.live (tree_of h)) rest) (one.is I os manifest templates)
      ∙ sym (append_assoc old (file ∷ []) (map (verified_in I c.held.live (tree_of h)) rest))
      ∙ ap (λ (l : List VerifiedFile). l ++ map (verified_in I c.held.live (tree_of h)) rest) (sym put);
}

pub all_so_far : (c : Core) (files : List VerifiedFile) (rest : List (List ℕ × Bool)) (h : History)
    → SoFar c (marked_files c.image.manifest c.held.owed) files rest h → rest ≡ [] → AreVerified c files h
all_so_far c files rest h so_far none = record {
  are = λ I os manifest templates.
      so_far.are I os manifest templates
      ∙ ap (λ (l : List (List ℕ × Bool)). files ++ map (verified_in I c.held.live (tree_of h)) l) none
      ∙ append_nil files;
} where
  append_nil : (l : List VerifiedFile) → l ++ [] ≡ l
  append_nil [] = refl
  append_nil (x ∷ xs) = ap (λ (t : List VerifiedFile). x ∷ t) (append_nil xs)

-- The same where the disk tells.
pub told_none : (c : Core) (marked : List (List ℕ × Bool)) (files : List VerifiedFile) (told : Option History) → files ≡ []
    → WhereTold told (SoFar c marked files marked)
told_none c marked files told none = where_all (λ h. none_so_far c marked files h none)

pub told_one : (c : Core) (marked rest more : List (List ℕ × Bool)) (old new : List VerifiedFile) (m : List ℕ × Bool) (file : VerifiedFile)
    (told before : Option History) → WhereTold told (SoFar c marked old more) → more ≡ m ∷ rest → before ≡ told → WhereTold before (IsVerified c m file)
    → new ≡ old ++ file ∷ [] → WhereTold told (SoFar c marked new rest)
told_one c marked rest more old new m file told before so_far is same one put =
    where_map (λ h both. one_so_far c marked rest more old new m file h both.0 is both.1 put)
    (where_both so_far (subst (λ (t : Option History). WhereTold t (IsVerified c m file)) same one))

pub told_all : (c : Core) (files : List VerifiedFile) (rest : List (List ℕ × Bool)) (told : Option History)
    → WhereTold told (SoFar c (marked_files c.image.manifest c.held.owed) files rest) → rest ≡ [] → WhereTold told (AreVerified c files)
told_all c files rest told so_far none = where_map (λ h s. all_so_far c files rest h s none) so_far

-- ---- they are the machine's

module _ (I : Image) (good : IsGood I) (folder : Folder) (W V : World) (h : History) (c : Core) (kept : Kept I folder W V h (core_state c))
    (calm : c.faulted ≡ false) (image : HoldsImage I c.image) where
  held : W.held ≡ c.held
  held = core_holds I folder W V h (core_state c) kept calm

  -- The stored image text is that of the image.
  due_is : due I W.held ≡ c.held.owed
  due_is = ap (λ (b : Bool). if b then W.held.owed else owed.All) ((bytes_eq-Decides W.held.image I.text).1 kept.fit.image)
      ∙ ap (λ (x : Held). x.owed) held

  -- One of the marked files.
  abbrev mark : List ℕ → List ℕ × Bool
  mark file = (file, has_name (files_of c.image.manifest c.held.owed) file)

  one_file : (file : List ℕ) → Among (keys I.manifest.files) file → verified_in I c.held.live (tree_of h) (mark file) ≡ verified_file I W file
  one_file file at =
      let files : HasGoodFiles I.manifest = good_files I.defaults I.manifest good.manifest in
      let below : is_etc (path_of I file) ≡ true = files.etc file (among_named I.manifest.files file at) in
      ap (λ (found : Option (List ℕ)). state_with found (has_name (files_of c.image.manifest c.held.owed) file)) (kept.disk.etc.each (path_of I file) below)
      ∙ ap (λ (m : Manifest). state_with (get W.etc (path_of I file)) (has_name (files_of m c.held.owed) file)) image.manifest_is
      ∙ ap (λ (o : Owed). state_with (get W.etc (path_of I file)) (has_name (files_of I.manifest o) file)) (sym due_is)
      ∙ ap (λ (x : Held). let f : VerifiedFile = record {
        name = file;
        path = path_of I file;
        state = state_in (rendered I file x.live) (get W.etc (path_of I file)) (has_name (files_of I.manifest (due I W.held)) file);
      } in f) (sym held)
    where
      state_with : Option (List ℕ) → Bool → VerifiedFile
      state_with found is_due = record { name = file; path = path_of I file; state = state_in (rendered I file c.held.live) found is_due }

  each_file : (files : List (List ℕ)) → ((f : List ℕ) → Among files f → Among (keys I.manifest.files) f)
      → map (verified_in I c.held.live (tree_of h)) (map mark files) ≡ map (verified_file I W) files
  each_file [] known = refl
  each_file (f ∷ fs) known =
      ap (λ (x : VerifiedFile). x ∷ map (verified_in I c.held.live (tree_of h)) (map mark fs)) (one_file f (known f (inl refl)))
      ∙ ap (λ (l : List VerifiedFile). verified_file I W f ∷ l) (each_file fs (λ g at. known g (inr at)))

  all_files : map (verified_in I c.held.live (tree_of h)) (marked_files c.image.manifest c.held.owed) ≡ verified I W
  all_files = ap (λ (m : Manifest). map (verified_in I c.held.live (tree_of h)) (map mark (keys m.files))) image.manifest_is
      ∙ each_file (keys I.manifest.files) (λ f at. at)

  alike : IsAlike W W
  alike = record { version = refl; format = refl; held = refl; etc = refl }

  answered_event : IsEvent I folder W V Verify (Ok tt) h h (core_state c) (core_state c)
  unfolding request_next
  answered_event = record {
    outcome = Answered;
    is = refl;
    ran = ran_calm I folder W V h (core_state c) kept (Asked Verify Answered) (core_state c) alike kept.fit kept.core.job refl refl calm calm refl;
  }

  -- The core after a call of the disk failed.
  abbrev faulted_state : CoreState
  faulted_state = record (core_state c) { job = failing (job_of c.job) cause.Disk; faulted = true }

  failed_event : IsEvent I folder W V Verify (Err disk.Failed) h h (core_state c) faulted_state
  unfolding request_next
  failed_event = record {
    outcome = Faulted false;
    is = (false, refl);
    ran = ran_first I folder W V h (core_state c) kept (Asked Verify (Faulted false)) faulted_state
        (record { version = refl; format = refl; held = refl; etc = refl })
        (fit_stays I good W kept.fit (Asked Verify (Faulted false) ∷ []) refl) (ap (λ (j : Job). failing j cause.Disk) kept.core.job) refl refl calm refl
        (λ faulted. still (job_of c.job));
  } where
    still : (j : Job) → is_running (failing j cause.Disk) ≡ false
    still Idle = refl
    still (Failed cause) = refl
    still (Running w) = refl

-- What was verified is what the machine answers,
pub verifies_answered : (c : Core) (files : List VerifiedFile) (h : History) → c.faulted ≡ false → AreVerified c files h → Verifies c (Ok files) c h h
verifies_answered c files h calm verified = record {
  by_image = λ I good image folder W V kept. record {
    event = answered_event I good folder W V h c kept calm image;
    files = sym (verified.are I image.os_is image.manifest_is image.templates_are) ∙ all_files I good folder W V h c kept calm image;
  };
}

-- out of memory changes nothing,
pub verifies_none : (c : Core) (h : History) → c.faulted ≡ false → Verifies c (Err disk.Memory) c h h
verifies_none c h calm = record {
  by_image = λ I good image folder W V kept. record {
    event = undone_event I good folder W V h (core_state c) kept calm Verify (core_state c) refl;
    files = tt;
  };
}

-- and a failed call of the disk is noted, and fails a running job.
pub verifies_failed : (c now : Core) (h : History) → c.faulted ≡ false
    → core_state now ≡ record (core_state c) { job = failing (job_of c.job) cause.Disk; faulted = true } → Verifies c (Err disk.Failed) now h h
verifies_failed c now h calm is = record {
  by_image = λ I good image folder W V kept. record {
    event = subst (λ (s : CoreState). IsEvent I folder W V Verify (Err disk.Failed) h h (core_state c) s) (sym is)
        (failed_event I good folder W V h c kept calm image);
    files = tt;
  };
}

-- The first of these where the disk tells as before.
pub told_answered : (c : Core) (files : List VerifiedFile) (told now : Option History) → c.faulted ≡ false → now ≡ told → WhereTold told (AreVerified c files)
    → Moves told now (Verifies c (Ok files) c)
told_answered c files told now calm same verified =
    moves_map (λ old new both. subst (λ (h : History). Verifies c (Ok files) c old h) both.1 (verifies_answered c files old calm both.0))
    (moves_where verified (moves_same {R = λ old new. old ≡ new} same (λ h. refl)))
