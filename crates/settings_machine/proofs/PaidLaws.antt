-- The laws of paid files.
use Rattle.std.proofs.Common.{◌≡◌, ◌⊎◌, inl, inr, ⊎_elim, Bool, true, false, not, ◌&&◌, ◌||◌, if◌then◌else◌, List, [], ◌∷◌, refl, sym, ap, subst}
use Rattle.std.specs.Prelude.{ℕ, Option, Some, None, unwrap_or}
use Rattle.std.specs.FinMap.{FinMap, get, empty, get-empty}
use Rattle.std.specs.Str.{bytes_eq}
use Rattle.key_names.specs.Order.{bytes_cmp, key_cmp}
use Rattle.json_trees.specs.declared.pending.Pending.{Pending}
use Rattle.json_trees.specs.declared.scalar.Scalar.{Scalar}
use Rattle.outside.specs.Names.{Names}
use Rattle.settings_maps.specs.Maps.{value_at}
use Rattle.typed_settings.specs.declared.row.Row.{Row}
use Rattle.std.proofs.lemmas.Bool.{cases_Bool, cond-true, and_parts, or_parts, or_cases, not-false}
use Rattle.std.proofs.lemmas.Slice.Eq.{bytes_eq-Decides}
use Rattle.settings_tree.specs.declared.entry.Owed.{Owed}
use Rattle.settings_tree.specs.declared.entry.Owed.TheVariants as owed
use Rattle.settings_tree.specs.declared.held.Held.{Held}
use Rattle.pending_tx.specs.Transactions.{owing}
use Rattle.metadata_links.specs.Links.{files_of}
use Rattle.settings_machine.specs.World.{Key, Among, Image, World, Job, Idle, Failed, Running, owes_none, is_running, is_etc, path_of, due}
use Rattle.settings_machine.specs.Opening.{added_keys}
use Rattle.settings_machine.specs.Step.{noting, opened}
use Rattle.settings_machine.specs.Events.{Event, Opening, Succeeded, Failing, Opened, Asked, Unread}
use Rattle.settings_machine.specs.Events.{Turned, Began, Moved, Forgot, new_held, opening_next, next, after, is_served}
use Rattle.settings_machine.specs.Events.{are_served, is_taken, boots, has_booted}
use Rattle.settings_machine.specs.Covered.{IsCovered}
use Rattle.settings_machine.specs.Paid.{IsDue, IsDuePath, IsCurrent, RunningOwes, RunningPays, IsPaid, Paid, WasPaid, IsFit, IsGood}
use Rattle.settings_machine.specs.Typed.{IsTypedHeld}
use Rattle.settings_machine.specs.Laws.{FitStays, FilesStayPaid, NothingOwedIsCurrent, OpeningsFit}
use Rattle.settings_machine.specs.Laws.{OpeningsPay, BeginningsPay, NewStoresAreKept, MigrationsPay, CrashesPay}
use Rattle.settings_machine.proofs.Reached.{of_keys, owed_all}
use Rattle.settings_machine.proofs.Manifests.{HasGoodFiles, good_files}
use Rattle.settings_machine.proofs.Openings.{opened_keys, opened_typed}
use Rattle.settings_machine.proofs.Paying.{FilesPaid, Good, same_current, noted_files}
use Rattle.settings_machine.proofs.Lasting.{after_good, OpeningNotes, opening_notes, covered_known, owed_known, covered_all}

-- ---- worlds stay fit

pub fit_stays : FitStays
fit_stays I image W fit events served = let g : Good I (λ f. ⊥) (λ f none. absurd none) (after I W events) =
    after_good I image (λ f. ⊥) (λ f none. absurd none) W events served
    (record { fit = fit; files = record { each = λ f none. absurd none }; pays = λ f none. absurd none }) in g.fit

-- Where the stored image text is the image's, what is owed is due.
pub due_owed : (I : Image) (held : Held) → held.image ≡ I.text → due I held ≡ held.owed
due_owed I held same = cond-true _ _ _ ((bytes_eq-Decides held.image I.text).1 same)

-- Where all is owed all is due.
due_all : (I : Image) (held : Held) → held.owed ≡ owed.All → due I held ≡ owed.All
due_all I held all = by (bytes_eq held.image I.text) where
  by : (b : Bool) → (if b then held.owed else owed.All) ≡ owed.All
  by true = all
  by false = refl

-- So what was due before is.
pub still_due : (I : Image) (old new : Held) → new.owed ≡ owed.All → (path : Names) → IsDuePath I old path → IsDuePath I new path
still_due I old new all path is = record {
  file = is.file;
  due = subst (λ (o : Owed). Among (files_of I.manifest o) is.file) (sym (due_all I new all)) (owed_all I.manifest (due I old) is.file is.due);
  path_is = is.path_is;
}

-- ---- where no job runs

no_owing : (I : Image) (X : World) (j : Job) → is_running j ≡ false → RunningOwes I X j
no_owing I X Idle e = tt
no_owing I X (Failed c) e = tt
no_owing I X (Running w) e = absurd (cc e)

pub no_paying : (I : Image) (X : World) (f : List ℕ) (j : Job) → is_running j ≡ false → RunningPays I X f j
no_paying I X f Idle e = tt
no_paying I X f (Failed c) e = tt
no_paying I X f (Running w) e = absurd (cc e)

pub still : (j : Job) (keys : List Key) → is_running j ≡ false → is_running (noting j keys) ≡ false
still Idle keys e = refl
still (Failed c) keys e = refl
still (Running w) keys e = absurd (cc e)

pub openings_fit : OpeningsFit
unfolding opened
openings_fit I image W boot typed idle = record {
  typed = opened_typed I W.held boot image.defaults typed;
  image = refl;
  job = no_owing I (opened I W boot) (noting W.job (added_keys I.defaults.values W.held.live.values))
      (still W.job (added_keys I.defaults.values W.held.live.values) idle);
}

module _ (I : Image) (image : IsGood I) where
  -- ---- all is owed

  -- Where all is owed and no job runs, each covered file is paid.
  all_paid : (X : World) → X.held.owed ≡ owed.All → is_running X.job ≡ false → Paid I X
  all_paid X all idle f covered = record {
    now = inr (subst (λ (o : Owed). Among (files_of I.manifest o) f) (sym (due_all I X.held all)) (covered_all I image f covered));
    job = no_paying I X f X.job idle;
  }

  -- ---- one file that is covered

  module _ (f : List ℕ) (covered : IsCovered I f) where
    abbrev pub IsThis : List ℕ → Type 0
    IsThis g = g ≡ f

    pub this_covered : (g : List ℕ) → IsThis g → IsCovered I g
    this_covered g same = subst (IsCovered I) (sym same) covered

    pub owed_or_current : (W : World) → W.held.image ≡ I.text → IsPaid I W f → FilesPaid I IsThis this_covered W
    owed_or_current W fit paid = record {
      each = λ g same. subst (λ (h : List ℕ). IsCurrent I W h ⊎ Among (files_of I.manifest W.held.owed) h) (sym same)
          (subst (λ (o : Owed). IsCurrent I W f ⊎ Among (files_of I.manifest o) f) (due_owed I W.held fit) paid.now);
    }

    pub due_or_current : (W : World) → W.held.image ≡ I.text → FilesPaid I IsThis this_covered W → IsCurrent I W f ⊎ IsDue I W.held f
    due_or_current W fit files = subst (λ (o : Owed). IsCurrent I W f ⊎ Among (files_of I.manifest o) f) (sym (due_owed I W.held fit)) (files.each f refl)

    after_paid : (W : World) → IsFit I W → (events : List Event) → are_served events ≡ true → IsPaid I W f → IsPaid I (after I W events) f
    after_paid W fit events served paid =
        let g : Good I IsThis this_covered (after I W events) = after_good I image IsThis this_covered W events served (record {
          fit = fit;
          files = owed_or_current W fit.image paid;
          pays = λ g same. subst (λ (h : List ℕ). RunningPays I W h W.job) (sym same) paid.job;
        }) in
        record { now = due_or_current (after I W events) g.fit.image g.files; job = g.pays f refl }

    -- ---- openings

    opened_paid : (W : World) (boot : Bool) → is_running W.job ≡ false → IsPaid I W f ⊎ (boot ≡ true) → IsPaid I (opened I W boot) f
    unfolding opened
    opened_paid W boot idle before = ⊎_elim (λ all. all_paid (opened I W boot) (owes_all all) quiet f covered)
        (λ same. ⊎_elim (λ paid. record {
          now = due_or_current (opened I W boot) refl (kept (image_same same) paid);
          job =
              no_paying I (opened I W boot) f _ quiet;
        })
        (λ booted. absurd (cc (booted, (or_parts boot _ same).0))) before)
        (cases_Bool (boot || not (bytes_eq W.held.image I.text)))
      where
        quiet : is_running (noting W.job (added_keys I.defaults.values W.held.live.values)) ≡ false
        quiet = still W.job (added_keys I.defaults.values W.held.live.values) idle

        owes_all : (boot || not (bytes_eq W.held.image I.text)) ≡ true → (opened I W boot).held.owed ≡ owed.All
        owes_all e = ap (λ b. if b then owed.All else owing W.held.owed (added_keys I.defaults.values W.held.live.values)) e

        image_same : (boot || not (bytes_eq W.held.image I.text)) ≡ false → W.held.image ≡ I.text
        image_same e = (bytes_eq-Decides W.held.image I.text).0 (not-false (bytes_eq W.held.image I.text) (or_parts boot _ e).1)

        kept : W.held.image ≡ I.text → IsPaid I W f → FilesPaid I IsThis this_covered (opened I W boot)
        kept same paid =
            let notes : OpeningNotes I image IsThis this_covered W boot = opening_notes I image IsThis this_covered W boot in
            noted_files I IsThis this_covered W (opened I W boot) (opened_keys I.defaults.values W.held.live.values)
            (added_keys I.defaults.values W.held.live.values) notes (owed_or_current W same paid)

    -- ---- after a boot

    not_running : (j : Job) → not (is_running j) ≡ true → is_running j ≡ false
    not_running Idle e = refl
    not_running (Failed c) e = refl
    not_running (Running w) e = absurd (cc e)

    taken_is : (W : World) (o : Opening) → is_taken o ≡ true → opened I W true ≡ opening_next I W true o
    taken_is W Succeeded e = refl
    taken_is W (Failing true) e = refl
    taken_is W (Failing false) e = absurd (cc e)

    pub booted_paid : (W : World) (e : Event) → boots W e ≡ true → IsPaid I (next I W e) f
    booted_paid W (Opened true o) is =
        let both = and_parts (is_taken o) (not (is_running W.job)) is in
        subst (λ (N : World). IsPaid I N f) (taken_is W o both.0) (opened_paid W true (not_running W.job both.1) (inr refl))
    booted_paid W (Opened false o) is = absurd (cc is)
    booted_paid W (Asked q o) is = absurd (cc is)
    booted_paid W (Unread why) is = absurd (cc is)
    booted_paid W (Turned a) is = absurd (cc is)
    booted_paid W (Began version) is = all_paid (next I W (Began version)) refl refl f covered
    booted_paid W (Moved version held) is = all_paid (next I W (Moved version held)) refl refl f covered
    booted_paid W (Forgot keys) is = absurd (cc is)

    stays_paid : (W : World) → IsFit I W → (events : List Event) → are_served events ≡ true → WasPaid I W events f → IsPaid I (after I W events) f
    stays_paid W fit events served (inl paid) = after_paid W fit events served paid
    stays_paid W fit [] served (inr booted) = absurd (cc booted)
    stays_paid W fit (e ∷ es) served (inr booted) =
        let both = and_parts (is_served e) (are_served es) served in
        let fit_next : IsFit I (next I W e) = fit_stays I image W fit (e ∷ []) (ap (λ (b : Bool). b && true) both.0) in
        ⊎_elim (λ here. after_paid (next I W e) fit_next es both.1 (booted_paid W e here)) (λ later. stays_paid (next I W e) fit_next es both.1 (inr later))
        (or_cases (boots W e) (has_booted I (next I W e) es) booted)

pub files_stay_paid : FilesStayPaid
files_stay_paid I image W fit events served f covered was = stays_paid I image f covered W fit events served was

pub openings_pay : OpeningsPay
openings_pay I image W boot idle f covered before = opened_paid I image f covered W boot idle before

pub beginnings_pay : BeginningsPay
beginnings_pay I image W version = all_paid I image (next I W (Began version)) refl refl

pub migrations_pay : MigrationsPay
migrations_pay I image W version held = all_paid I image (next I W (Moved version held)) refl refl

-- ---- beginnings

new_typed : (types : List Row) → IsTypedHeld types new_held
new_typed types = record {
  settings = record { typed = λ key value e not_image. absurd (cc (get-empty {X = Scalar} key_cmp key, e)) };
  pending = λ tx key p e. absurd (none tx key p e);
} where
  none : (tx : List ℕ) (key : Key) (p : Pending) → value_at new_held.pending tx key ≡ Some p → ⊥
  none tx key p e = by (get new_held.pending tx) (get-empty {X = FinMap key_cmp Pending} bytes_cmp tx) e where
    by : (o : Option (FinMap key_cmp Pending)) → o ≡ None → get (unwrap_or o empty) key ≡ Some p → ⊥
    by None is e = cc (get-empty {X = Pending} key_cmp key, e)
    by (Some m) is e = absurd (cc is)

pub new_stores_are_kept : NewStoresAreKept
new_stores_are_kept I image W version boot =
    let N = next I W (Began version) in (
      openings_fit I image N boot (new_typed I.types) refl,
      λ f covered. openings_pay I image N boot refl f covered
          (inl (beginnings_pay I image W version f covered)),
    )

-- ---- what a crash leaves

module _ (I : Image) (image : IsGood I) where
  files_known : HasGoodFiles I.manifest
  files_known = good_files I.defaults I.manifest image.manifest

  covered_etc : (f : List ℕ) → IsCovered I f → is_etc (path_of I f) ≡ true
  covered_etc f covered = let k : HasGoodFiles I.manifest = files_known in k.etc f (covered_known I image f covered)

  -- A due path that is a covered file's is one where that file is due.
  due_file : (held : Held) (f : List ℕ) → IsCovered I f → IsDuePath I held (path_of I f) → IsDue I held f
  due_file held f covered path =
      let k : HasGoodFiles I.manifest = files_known in
      let same : f ≡ path.file = k.apart f path.file (covered_known I image f covered) (owed_known I image (due I held) path.file path.due) path.path_is in
      subst (IsDue I held) (sym same) path.due

pub crashes_pay : CrashesPay
crashes_pay I image W X held idle etc f covered paid = record {
  now = ⊎_elim
      (λ current. ⊎_elim
      (λ same. inl (same_current I W X f (ap (λ (h : Held). h.live) held) same current))
      (λ path. inr (moved (due_file I image W.held f covered path)))
      (etc (path_of I f) (covered_etc I image f covered)))
      (λ due'. inr (moved due'))
      paid.now;
  job = no_paying I X f X.job idle;
} where
  moved : IsDue I W.held f → IsDue I X.held f
  moved due' = subst (λ (h : Held). IsDue I h f) (sym held) due'

-- ---- where nothing is owed

-- Where nothing is owed, it affects no file.
pub no_file : (I : Image) (f : List ℕ) (o : Owed) → owes_none o ≡ true → Among (files_of I.manifest o) f → ⊥
no_file I f owed.All none at = absurd (cc none)
no_file I f (owed.Keys []) none at = (of_keys I.manifest [] f at).1
no_file I f (owed.Keys (k ∷ ks)) none at = absurd (cc none)

pub nothing_owed_is_current : NothingOwedIsCurrent
nothing_owed_is_current I image W fit events served none f covered was =
    let there : IsFit I (after I W events) = fit_stays I image W fit events served in
    let paid : IsPaid I (after I W events) f = files_stay_paid I image W fit events served f covered was in
    ⊎_elim (λ current. current)
    (λ due'. absurd (no_file I f (after I W events).held.owed none (subst (λ (o : Owed). Among (files_of I.manifest o) f)
    (due_owed I (after I W events).held there.image) due')))
    paid.now
