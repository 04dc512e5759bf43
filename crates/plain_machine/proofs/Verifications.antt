-- The states of the files of a world in memory are those of the machine.
use Rattle.std.proofs.Common.{◌≡◌, ℕ, Bool, List, [], ◌∷◌, ◌++◌, map, Option, append_assoc, refl, sym, ◌∙◌, ap}
use Rattle.std.specs.FinMap.{get, keys}
use Rattle.outside.specs.Names.{Names}
use Rattle.metadata_links.specs.Faults.{has_name}
use Rattle.metadata_links.specs.Links.{files_of}
use Rattle.metadata_links.specs.declared.manifest.Manifest.{Manifest}
use Rattle.settings_machine.specs.World.{Image, World, path_of, rendered, due}
use Rattle.settings_machine.specs.PlanSeen.{path_seen}
use Rattle.settings_machine.specs.Requests.{Verify, StatesAre, Said}
use Rattle.settings_machine.specs.Step.{request_next}
use Rattle.settings_machine.specs.Verified.{state_in, verified_file, verified}
use Rattle.settings_machine.specs.VerifySeen.{IsStateSeen, marked_files}
use Rattle.settings_machine.specs.declared.states.FileState.{FileState}
use Rattle.settings_machine.specs.declared.states.VerifiedFile.{VerifiedFile}
use Rattle.plain_machine.specs.Steps.{HoldsImage, IsAsked}
use Rattle.plain_machine.specs.Verified.{due_by, verified_by, IsVerifiedBy}
use Rattle.plain_machine.specs.Worlds.{files_by_path, world_of}
use Rattle.plain_machine.specs.declared.image.PlainImage.{PlainImage}
use Rattle.plain_machine.specs.declared.machine.PlainMachine.{PlainMachine}

module _ (image : PlainImage) (m : PlainMachine) where
  -- By each image that has these parts, these files are verified, and those are still to be.
  pub record SoFar (marked : List (List ℕ × Bool)) (files : List VerifiedFile) (rest : List (List ℕ × Bool)) : Type 0 where
    pub are : (I : Image) → HoldsImage I image
        → map (verified_by I (world_of m)) marked ≡ files ++ map (verified_by I (world_of m)) rest

  pub none_so_far : (marked : List (List ℕ × Bool)) (files : List VerifiedFile) → files ≡ [] → SoFar marked files marked
  none_so_far marked files none = record { are = λ I holds. ap (λ (l : List VerifiedFile). l ++ map (verified_by I (world_of m)) marked) (sym none) }

  pub one_so_far : (marked rest more : List (List ℕ × Bool)) (old new : List VerifiedFile) (one : List ℕ × Bool) (file : VerifiedFile)
      → SoFar marked old more → more ≡ one ∷ rest → IsVerifiedBy image m one file → new ≡ old ++ file ∷ [] → SoFar marked new rest
  one_so_far marked rest more old new one file so_far is verified put = record {
    are = λ I holds.
        so_far.are I holds
        ∙ ap (λ (l : List (List ℕ × Bool)). old ++ map (verified_by I (world_of m)) l) is
        ∙ ap (λ (f : VerifiedFile). old ++ f ∷ map (verified_by I (world_of m)) rest) (verified.is I holds)
        ∙ sym (append_assoc old (file ∷ []) (map (verified_by I (world_of m)) rest))
        ∙ ap (λ (l : List VerifiedFile). l ++ map (verified_by I (world_of m)) rest) (sym put);
  }

  -- The state that is seen of what is there is that of the file.
  pub verified_one : (file : List ℕ) (is_due : Bool) (found : Option (List ℕ)) (path : Names) (state : FileState) → path ≡ path_seen image.manifest file
      → found ≡ get (files_by_path m.etc) path → IsStateSeen image.templates image.os m.held.live file found is_due state
      → IsVerifiedBy image m (file, is_due) (record { name = file; path = path; state = state })
  verified_one file is_due found path state path_is there seen = record {
    is = λ I holds.
        let at : path_of I file ≡ path = ap (λ (n : Manifest). path_seen n file) (sym holds.manifest_is) ∙ sym path_is in
        ap (λ (p : Names). file_at p (state_in (rendered I file m.held.live) (get (files_by_path m.etc) p) is_due)) at
        ∙ ap (λ (o : Option (List ℕ)). file_at path (state_in (rendered I file m.held.live) o is_due)) (sym there)
        ∙ ap (file_at path) (seen.is I holds.templates_are holds.os_is);
  } where
    file_at : Names → FileState → VerifiedFile
    file_at p s = record { name = file; path = p; state = s }

  append_nil : (l : List VerifiedFile) → l ++ [] ≡ l
  append_nil [] = refl
  append_nil (x ∷ xs) = ap (λ (t : List VerifiedFile). x ∷ t) (append_nil xs)

  module _ (I : Image) (holds : HoldsImage I image) where
    abbrev W : World
    W = world_of m

    each_file : (files : List (List ℕ)) → map (verified_by I W) (map (λ file. (file, has_name (files_of I.manifest (due I m.held)) file)) files)
        ≡ map (verified_file I W) files
    each_file [] = refl
    each_file (f ∷ fs) = ap (λ (l : List VerifiedFile). verified_file I W f ∷ l) (each_file fs)

    all_files : map (verified_by I W) (marked_files image.manifest (due_by image.text m.held)) ≡ verified I W
    all_files =
        ap (λ (n : Manifest). map (verified_by I W) (marked_files n (due_by image.text m.held))) holds.manifest_is
        ∙ ap (λ (t : List ℕ). map (verified_by I W) (marked_files I.manifest (due_by t m.held))) holds.text_is
        ∙ each_file (keys I.manifest.files)

  -- The files that are verified are what the machine answers.
  pub asked_verify : (files : List VerifiedFile) (rest : List (List ℕ × Bool))
      → SoFar (marked_files image.manifest (due_by image.text m.held)) files rest → rest ≡ [] → IsAsked image m Verify m (Said (StatesAre files))
  unfolding request_next
  asked_verify files rest so_far none = record {
    world = λ I holds. refl;
    says = λ I holds. ap (λ (l : List VerifiedFile). Said (StatesAre l))
        (sym (all_files I holds) ∙ so_far.are I holds
        ∙ ap (λ (l : List (List ℕ × Bool)). files ++ map (verified_by I (world_of m)) l) none ∙ append_nil files);
  }
