-- A whole run: which files are paid after each of its prefixes, and what a crash leaves of it.
use Rattle.std.proofs.Common.{◌≡◌, inl, inr, ⊎_elim, ℕ, Bool, true, false, List, [], ◌∷◌, ◌++◌, refl, sym, ◌∙◌, ap, subst}
use Rattle.std.proofs.lemmas.Bool.{and_parts, or_cases}
use Rattle.std.proofs.lemmas.List.{append-nil}
use Rattle.outside.specs.Tree.{Tree}
use Rattle.outside.specs.History.{History}
use Rattle.outside.specs.Since.{EachSince}
use Rattle.outside.proofs.Since.{since_joined, since_map}
use Rattle.settings_tree.specs.declared.held.Held.{Held}
use Rattle.settings_machine.specs.World.{Image, World, is_running}
use Rattle.settings_machine.specs.Step.{opened}
use Rattle.settings_machine.specs.Events.{Event, Succeeded, Opened, after, are_served, boots, has_booted, faulted_after}
use Rattle.settings_machine.specs.Covered.{IsCovered}
use Rattle.settings_machine.specs.Paid.{WasPaid, IsGood}
use Rattle.settings_machine.proofs.Sequences.{served-append}
use Rattle.settings_machine.proofs.PaidLaws.{files_stay_paid, openings_pay, booted_paid, crashes_pay}
use Rattle.version_links.specs.declared.chain.Place.{Place}
use Rattle.machine_disk.specs.Store.{Recovers}
use Rattle.machine_disk.specs.Kept.{Folder, DiskAt, CoreState}
use Rattle.machine_disk.specs.Laws.{IsSameStore, RunsTouchOwn}
use Rattle.machine_disk.specs.Ran.{AtPrefix, IsLate, Within, OnTheWay, HasMoments, Ran, OpensTo, StayPaid, EachPaid, LeavesPaid, AtPaidPrefix, RunsTo}
use Rattle.machine_disk.proofs.Meanings.{one_store}
use Rattle.machine_disk.proofs.Touched.{own_more}
use Rattle.machine_disk.proofs.Moments.{more_moments}
use Rattle.machine_disk.proofs.Runs.{at_start, late_more, way_of_more, way_after, recovers_now, calm_disk, late_at}

module _ (I : Image) (W : World) where
  -- Before the first event,
  pub start_paid : StayPaid I W []
  start_paid f covered (inl paid) = paid
  start_paid f covered (inr booted) = absurd (cc booted)

  -- and so where there is none,
  pub none_paid : EachPaid I W []
  none_paid [] rest whole = start_paid
  none_paid (e ∷ first) rest whole = absurd (cc whole)

  -- or one.
  pub one_paid : (e : Event) → StayPaid I W (e ∷ []) → EachPaid I W (e ∷ [])
  one_paid e last [] rest whole = start_paid
  one_paid e last (g ∷ []) rest whole = let head : e ≡ g = cc in subst (λ (x : Event). StayPaid I W (x ∷ [])) head last
  one_paid e last (g ∷ h ∷ first) rest whole = absurd (cc whole)

-- An opening, and what came after it, touch no path but their own.
pub runs_touch : RunsTouchOwn
runs_touch I folder W boot es old mid new place held core now opens ran = own_more I (Opened boot Succeeded ∷ []) es old mid new opens.touches ran.touches

module _ (I : Image) (good : IsGood I) where
  -- In the worlds of a crash state the files are paid that are in the world to which it recovers.
  pub leaves_paid : (W : World) (events : List Event) (c : Tree) → Recovers I (after I W events) c → StayPaid I W events → LeavesPaid I W events c
  leaves_paid W events c r paid = record {
    recovers = r;
    paid = λ f covered was X is. crashes_pay I good (after I W events) X
        (let same : IsSameStore (after I W events) X = one_store (after I W events) X c r.store is.store in same.held) is.job
        (λ path below. ⊎_elim (λ same. inl (sym (is.etc.each path below) ∙ same)) (λ due. inr due) (r.etc path below)) f covered (paid f covered was);
  }

  module _ (folder : Folder) (W : World) (events : List Event) (old new : History) where
    way : (c : Tree) → OnTheWay I W W events c → AtPrefix I W events c
    way c (inl r) = at_start I W events c r
    way c (inr at) = at

    -- The disk is at the last world, or a crash state has that of an earlier one after which nothing is acknowledged.
    pub whole : (other : World) → DiskAt I folder (after I W events) other new → IsLate I W W events other → EachPaid I W events
        → EachSince (OnTheWay I W W events) old new → HasMoments I W W events old new
        → (faulted_after false events ≡ false → DiskAt I folder (after I W events) (after I W events) new) → RunsTo I folder W events old new
    whole other disk late paid since keeps settles = record {
      store = disk.store;
      etc = disk.etc;
      paid = paid;
      any_moment = since_map (OnTheWay I W W events) (AtPrefix I W events) old new way since;
      keeps = keeps;
      at_exit = λ c left. ⊎_elim
          (λ r. record { prefix = record { first = events; rest = []; whole = sym (append-nil events); recovers = r }; unacknowledged = refl })
          (λ r. late_at I W other events c late r)
          (recovers_now I folder (after I W events) other new disk c left);
      crash_paid = since_map (OnTheWay I W W events) (AtPaidPrefix I W events) old new
          (λ c on. let at : AtPrefix I W events c = way c on in
          record { first = at.first; rest = at.rest; whole = at.whole; leaves = leaves_paid W at.first c at.recovers (paid at.first at.rest at.whole) }) since;
      settles = settles;
    }

  -- An opening, and what came after it.
  pub runs_to : (folder : Folder) (W : World) (boot : Bool) (es : List Event) (old mid new : History) (place : Place) (held : Held) (core now : CoreState)
      → is_running W.job ≡ false → OpensTo I folder W W boot place held old mid → core.faulted ≡ false → are_served es ≡ true
      → Ran I folder (opened I W boot) (opened I W boot) es mid new core now → RunsTo I folder W (Opened boot Succeeded ∷ es) old new
  runs_to folder W boot es old mid new place held core now idle opens calm served ran =
      whole folder W (Opened boot Succeeded ∷ es) old new ran.other ran.kept.disk
      (late_more I W W (Opened boot Succeeded ∷ []) es (opened I W boot) ran.other at_opened ran.late) each_paid moments
      (more_moments I W W (opened I W boot) (Opened boot Succeeded ∷ []) es at_opened old mid new opens.keeps opens.moments ran.keeps ran.moments)
      (λ quiet. calm_disk I folder (after I (opened I W boot) es) ran.other new now (ran.flag ∙ ap (λ (b : Bool). faulted_after b es) calm ∙ quiet) ran.kept)
    where
      at_opened : IsLate I W W (Opened boot Succeeded ∷ []) (opened I W boot)
      at_opened = Within (Opened boot Succeeded ∷ []) [] refl refl refl

      moments : EachSince (OnTheWay I W W (Opened boot Succeeded ∷ es)) old new
      moments = since_joined (OnTheWay I W W (Opened boot Succeeded ∷ es)) old mid new
          (since_map (OnTheWay I W W (Opened boot Succeeded ∷ [])) (OnTheWay I W W (Opened boot Succeeded ∷ es)) old mid
          (λ c on. way_of_more I W W (Opened boot Succeeded ∷ []) es c on) opens.moments)
          (since_map (OnTheWay I (opened I W boot) (opened I W boot) es) (OnTheWay I W W (Opened boot Succeeded ∷ es)) mid new
          (λ c on. way_after I W W (opened I W boot) (Opened boot Succeeded ∷ []) es c at_opened on) ran.moments)

      first_served : (first rest : List Event) → es ≡ first ++ rest → are_served first ≡ true
      first_served first rest whole = (and_parts (are_served first) (are_served rest) (sym (served-append first rest) ∙ ap are_served (sym whole) ∙ served)).0

      -- After the opening a file is paid that was before it, and at a boot each is.
      was_paid : (first : List Event) (f : List ℕ) → IsCovered I f → WasPaid I W (Opened boot Succeeded ∷ first) f → WasPaid I (opened I W boot) first f
      was_paid first f covered (inl paid) = inl (openings_pay I good W boot idle f covered (inl paid))
      was_paid first f covered (inr booted) = ⊎_elim
          (λ here. inl (booted_paid I good f covered W (Opened boot Succeeded) here))
          (λ later. inr later)
          (or_cases (boots W (Opened boot Succeeded)) (has_booted I (opened I W boot) first) booted)

      each_paid : EachPaid I W (Opened boot Succeeded ∷ es)
      each_paid [] rest whole = start_paid I W
      each_paid (e ∷ first) rest whole =
          let head : e ≡ Opened boot Succeeded = cc in
          let tail : es ≡ first ++ rest = cc in
          subst (λ (g : Event). StayPaid I W (g ∷ first)) (sym head)
          (λ f covered was. files_stay_paid I good (opened I W boot) opens.fit first (first_served first rest tail) f covered (was_paid first f covered was))
