-- The laws of the states of configuration files.
use Rattle.std.proofs.Common.{◌≡◌, ◌≢◌, ⊎_elim, ℕ, Bool, true, false, if◌then◌else◌, List, Option, Some, None, IsSome, Ok, Err, refl, sym, ◌∙◌, ap, subst}
use Rattle.std.specs.FinMap.{get}
use Rattle.std.proofs.lemmas.Bool.{false_from_ne_true}
use Rattle.std.proofs.lemmas.Slice.Eq.{bytes_eq-Decides}
use Rattle.metadata_links.specs.Links.{files_of}
use Rattle.template_eval.specs.Rendered.{Rendered}
use Rattle.settings_machine.specs.declared.states.FileState.{FileState}
use Rattle.settings_machine.specs.declared.states.FileState.TheVariants.{Current, Owed, Refused, Differs, Absent}
use Rattle.settings_machine.specs.World.{Image, World, path_of, rendered, due}
use Rattle.settings_machine.specs.Paid.{IsCurrent, IsPaid}
use Rattle.settings_machine.specs.Verified.{is_due, has_bytes, stale_state, state_in, file_state}
use Rattle.settings_machine.specs.VerifyLaws.{IsStale, IsForeign, IsState, StatesAreExact, PaidFilesAreOurs}
use Rattle.settings_machine.proofs.Elements.{name_among, among_name}

-- These bytes are there, or others, or none.
bytes_there : (found : Option (List ℕ)) (bytes : List ℕ) → has_bytes found bytes ≡ true → found ≡ Some bytes
bytes_there None bytes e = absurd (cc e)
bytes_there (Some there) bytes e = ap (λ (b : List ℕ). Some b) ((bytes_eq-Decides there bytes).0 e)

there_bytes : (found : Option (List ℕ)) (bytes : List ℕ) → found ≡ Some bytes → has_bytes found bytes ≡ true
there_bytes None bytes e = absurd (cc e)
there_bytes (Some there) bytes e = (bytes_eq-Decides there bytes).1 (cc e)

others_there : (found : Option (List ℕ)) (bytes : List ℕ) → found ≢ Some bytes → has_bytes found bytes ≡ false
others_there found bytes other = false_from_ne_true _ (λ e. other (bytes_there found bytes e))

module _ (I : Image) (W : World) (file : List ℕ) where
  abbrev found_at : Option (List ℕ)
  found_at = get W.etc (path_of I file)

  abbrev due_now : Bool
  due_now = is_due I W.held file

  stale_is : (bytes : List ℕ) → rendered I file W.held.live ≡ Ok bytes → has_bytes found_at bytes ≡ false → IsStale I W file
  stale_is bytes renders other = record {
    bytes = bytes;
    renders = renders;
    other = λ same. absurd (cc (there_bytes found_at bytes same, other));
  }

  foreign_is : (bytes : List ℕ) → rendered I file W.held.live ≡ Ok bytes → has_bytes found_at bytes ≡ false → due_now ≡ false → IsForeign I W file
  foreign_is bytes renders other not_due = record {
    stale = stale_is bytes renders other;
    not_due = λ at. absurd (cc (among_name (files_of I.manifest (due I W.held)) file at, not_due));
  }

  -- The state that is told is the case.
  told : IsState I W file (file_state I W file)
  told = by (rendered I file W.held.live) refl where
    by : (r : Rendered) → rendered I file W.held.live ≡ r → IsState I W file (state_in r found_at due_now)
    by (Err e) renders = renders
    by (Ok bytes) renders = there (has_bytes found_at bytes) refl where
      stale : (d : Bool) (found : Option (List ℕ)) → due_now ≡ d → found_at ≡ found → has_bytes found_at bytes ≡ false → IsState I W file (stale_state d found)
      stale true found is at other = (stale_is bytes renders other, name_among (files_of I.manifest (due I W.held)) file is)
      stale false (Some x) is at other = (foreign_is bytes renders other is, subst IsSome (sym at) refl)
      stale false None is at other = (foreign_is bytes renders other is, at)

      there : (b : Bool) → has_bytes found_at bytes ≡ b → IsState I W file (if b then Current else stale_state due_now found_at)
      there true is = record { bytes = bytes; renders = renders; stands = bytes_there found_at bytes is }
      there false is = stale due_now found_at refl refl is

  -- What is the case is told.
  stale_told : (state : FileState) → IsStale I W file → stale_state due_now found_at ≡ state → file_state I W file ≡ state
  stale_told state stale is = ap (λ (r : Rendered). state_in r found_at due_now) stale.renders
      ∙ ap (λ (b : Bool). if b then Current else stale_state due_now found_at) (others_there found_at stale.bytes stale.other) ∙ is

  foreign_told : (state : FileState) → IsForeign I W file → stale_state false found_at ≡ state → file_state I W file ≡ state
  foreign_told state foreign is = stale_told state foreign.stale
      (ap (λ (d : Bool). stale_state d found_at)
      (false_from_ne_true _ (λ e. foreign.not_due (name_among (files_of I.manifest (due I W.held)) file e))) ∙ is)

  is_told : (state : FileState) → IsState I W file state → file_state I W file ≡ state
  is_told Current current = ap (λ (r : Rendered). state_in r found_at due_now) current.renders
      ∙ ap (λ (b : Bool). if b then Current else stale_state due_now found_at) (there_bytes found_at current.bytes current.stands)
  is_told Owed owed = stale_told Owed owed.0
      (ap (λ (d : Bool). stale_state d found_at) (among_name (files_of I.manifest (due I W.held)) file owed.1))
  is_told (Refused error) refuses = ap (λ (r : Rendered). state_in r found_at due_now) refuses
  is_told Differs differs = foreign_told Differs differs.0 (by found_at differs.1) where
    by : (found : Option (List ℕ)) → IsSome found → stale_state false found ≡ Differs
    by (Some x) some = refl
    by None some = absurd (cc some)
  is_told Absent absent = foreign_told Absent absent.0 (ap (stale_state false) absent.1)

  -- A file that is paid is not foreign.
  ours : IsPaid I W file → IsForeign I W file → ⊥
  ours paid foreign = ⊎_elim (λ current. stale_current foreign.stale current) foreign.not_due paid.now where
    stale_current : IsStale I W file → IsCurrent I W file → ⊥
    stale_current stale current =
        let same : current.bytes ≡ stale.bytes = cc (current.renders, stale.renders) in
        stale.other (current.stands ∙ ap (λ (b : List ℕ). Some b) same)

-- The state that is told is the one that is the case.
pub states_are_exact : StatesAreExact
states_are_exact I W file state = (λ is. subst (IsState I W file) is (told I W file), is_told I W file state)

pub paid_files_are_ours : PaidFilesAreOurs
paid_files_are_ours I W file paid = (
  λ differs. ours I W file paid ((states_are_exact I W file Differs).0 differs).0,
  λ absent. ours I W file paid ((states_are_exact I W file Absent).0 absent).0,
)
