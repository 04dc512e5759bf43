-- The forgetting of keys is an event of the machine, or none.
use Rattle.std.proofs.Common.{◌≡◌, ◌≢◌, ◌⊎◌, inl, inr, ⊎_elim, ℕ, true, false, List, [], ◌∷◌, ◌++◌, Option, Some, None}
use Rattle.std.proofs.Common.{Result, Ok, Err, refl, sym, ◌∙◌, ap, subst}
use Rattle.std.specs.Prelude.{OnOk, OnErr}
use Rattle.std.specs.FinMap.{get}
use Rattle.outside.specs.Names.{Names}
use Rattle.outside.specs.Tree.{Tree, node_at, file_in}
use Rattle.outside.specs.History.{History, tree_of, IsSettled}
use Rattle.outside.specs.Since.{EachSince, IsAtOrSync}
use Rattle.outside.specs.declared.disk_error.DiskErr.{DiskErr}
use Rattle.outside.specs.declared.disk_error.DiskErr.TheVariants as device
use Rattle.outside.proofs.Crash.{settled_state, tree_is_crash_state}
use Rattle.outside.proofs.Goes.{goes_joined, since_goes, may_leave_untouched}
use Rattle.outside.proofs.Since.{since_map, since_both, since_now, since_joined}
use Rattle.commit_journal.specs.Files.{IsBelow}
use Rattle.settings_tree.specs.declared.held.Held.{Held}
use Rattle.pending_tx.specs.Transactions.{forgotten, rising}
use Rattle.version_links.specs.Chain.{found, Resolves}
use Rattle.version_links.specs.declared.version.Version.{Version}
use Rattle.version_links.specs.declared.chain.Place.{Place}
use Rattle.settings_machine.specs.World.{Key, Image, World, is_etc, is_running}
use Rattle.settings_machine.specs.Events.{Event, Forgot, next, after}
use Rattle.settings_machine.specs.Paid.{IsGood}
use Rattle.settings_machine.proofs.Forgetting.{forgetting_pays}
use Rattle.machine_disk.specs.Store.{bytes_at, HoldsIn, HasStore, Recovers, IsReadyAt}
use Rattle.machine_disk.specs.Kept.{Folder, DiskAt}
use Rattle.machine_disk.specs.Touched.{TouchesOwn}
use Rattle.machine_disk.specs.Ran.{AtPrefix, IsLate, Within, OnTheWay, StayPaid, LeavesPaid, RunsTo}
use Rattle.machine_disk.proofs.Apart.{IsApart, dir_apart}
use Rattle.machine_disk.proofs.FromSync.{IsThereElsewhere}
use Rattle.machine_disk.proofs.Meanings.{IsCores, cores}
use Rattle.machine_disk.proofs.Prefixes.{start_paid, one_paid, leaves_paid, whole}
use Rattle.machine_disk.proofs.Recovering.{Recovered}
use Rattle.machine_disk.proofs.Runs.{disk_moments}
use Rattle.machine_disk.proofs.Settled.{resolves_same}
use Rattle.machine_disk.proofs.Touched.{own_below}
use Rattle.store_open.specs.Phases.{IsReadyWith, HoldsEither, IsKept, Lays}
use Rattle.store_open.specs.Reading.{HasRead, Reads}
use Rattle.store_open.specs.Forgetting.{of_change, first_unheld, LaysForgotten, ForgetsIn, ForgetsAfter, Forgets}
use Rattle.store_open.specs.declared.stored.Stored.{Stored}
use Rattle.store_open.specs.declared.open_error.OpenError.{OpenError}
use Rattle.store_open.specs.declared.open_error.OpenError.TheVariants as refused
use Rattle.store_open.specs.declared.forget_error.ForgetError.{ForgetError}
use Rattle.store_open.specs.declared.forget_error.ForgetError.TheVariants as forget
use Rattle.store_open.proofs.Worlds.{holds_plain}
use Rattle.store_events.specs.Laws.{forgot, IsForgetting, HasForgot, HasStayed, TellsOf, ForgettingsAreWhole, ForgettingsForget, ForgettingsTouchOwn}
use Rattle.store_events.proofs.Readings.{stays_on, read_recovered, read_stays, stays, tells, read_tells, reading_own}

-- What recovers to the world after the first of no events recovers to the world.
at_nothing : (I : Image) (W : World) (c : Tree) → AtPrefix I W [] c → Recovers I W c
at_nothing I W c at = none at.first at.rest at.whole at.recovers where
  none : (first rest : List Event) → ◌≡◌ {A = List Event} [] (first ++ rest) → Recovers I (after I W first) c → Recovers I W c
  none [] rest whole' r = r
  none (e ∷ first) rest whole' r = absurd (cc whole')

-- ---- from a store that was read and is ready

module _ (I : Image) (good : IsGood I) (folder : Folder) (W : World) (keys : List Key) (idle : is_running W.job ≡ false) (mid : History)
    (disk : DiskAt I folder W W mid) (place : Place) (ready : IsReadyAt place W.held mid) (settled : IsSettled mid) where
  abbrev e : Event
  e = Forgot keys

  abbrev N : World
  N = next I W e

  abbrev dir : Names
  dir = place.directory

  core : IsCores W place W.held
  core = cores W place W.held mid disk.store ready

  apart : IsApart dir
  apart = dir_apart (tree_of mid) place.version dir ready.resolves

  ready_with : IsReadyWith dir W.held mid
  ready_with = record { ready = ready.ready; means = ready.stands; settled = settled }

  -- After it a covered file is paid that was.
  forgot_paid : StayPaid I W (e ∷ [])
  forgot_paid f covered (inl paid) = forgetting_pays I good W keys idle f covered paid
  forgot_paid f covered (inr booted) = absurd (cc booted)

  -- ---- what a tree has whose directory holds what a world holds, and that is as before elsewhere

  store_of : (X : World) → X.version ≡ W.version → X.format ≡ W.format → (c : Tree) → HoldsIn dir X.held 2 c → IsThereElsewhere dir mid c → HasStore X c
  store_of X version_is format_is c holds there = record {
    directory = dir;
    resolves = subst (λ (v : Version). Resolves c (found v dir)) (sym (version_is ∙ core.version))
        (resolves_same c (tree_of mid) (record { same = λ name. there _ (apart.link name) }) place.version dir ready.resolves);
    holds = subst (λ (n : ℕ). HoldsIn dir X.held n c) (sym (format_is ∙ core.format)) holds;
  }

  etc_of : (c : Tree) → IsThereElsewhere dir mid c → (path : Names) → is_etc path ≡ true → bytes_at c path ≡ get W.etc path
  etc_of c there path is = ap file_in (there path (apart.etc path is)) ∙ disk.etc.each path is

  recovers_was : (c : Tree) → HoldsIn dir W.held 2 c → IsThereElsewhere dir mid c → Recovers I W c
  recovers_was c holds there = record { store = store_of W refl refl c holds there; etc = λ path is. inl (etc_of c there path is) }

  recovers_now : (c : Tree) → HoldsIn dir N.held 2 c → IsThereElsewhere dir mid c → Recovers I N c
  recovers_now c holds there = record { store = store_of N refl refl c holds there; etc = λ path is. inl (etc_of c there path is) }

  -- ---- the change

  module _ (change : Result Unit DiskErr) (new : History) (lays : Lays dir W.held N.held change mid new) where
    elsewhere : EachSince (IsThereElsewhere dir mid) mid new
    elsewhere = since_goes (IsThereElsewhere dir mid) (IsAtOrSync (IsBelow dir)) mid new
        (λ h goes c left path out. settled path (node_at c path) (may_leave_untouched (IsBelow dir) mid h goes path out (node_at c path) (left path)))
        lays.touches

    there : IsThereElsewhere dir mid (tree_of new)
    there = since_now (IsThereElsewhere dir mid) mid new elsewhere (tree_of new) (tree_is_crash_state new)

    abbrev Either : Tree → Type 0
    Either c = Recovers I W c ⊎ Recovers I N c

    either : (c : Tree) → HoldsEither dir W.held N.held c × IsThereElsewhere dir mid c → Either c
    either c (inl holds, out) = inl (recovers_was c holds out)
    either c (inr holds, out) = inr (recovers_now c holds out)

    -- A crash leaves what recovers to the world before it or after it.
    pub moments : EachSince Either mid new
    moments = since_map (λ c. HoldsEither dir W.held N.held c × IsThereElsewhere dir mid c) Either mid new either
        (since_both (HoldsEither dir W.held N.held) (IsThereElsewhere dir mid) mid new (lays.any_moment ready_with) elsewhere)

    -- It was made: the disk is at the world after it.
    pub made : IsReadyWith dir N.held new → DiskAt I folder N N new
    made now = record {
      store = store;
      etc = record { each = etc_of (tree_of new) there };
      image = λ path is. ap file_in (there path (apart.image path is)) ∙ disk.image path is;
      crash_states = λ c left. inl (subst (HasStore N) (sym (settled_state new now.settled c left)) store);
      same_etc = refl;
      unsettled = λ path node is left. inl (ap file_in (now.settled path node left) ∙ etc_of (tree_of new) there path is);
    } where
      store : HasStore N (tree_of new)
      store = store_of N refl refl (tree_of new) (holds_plain dir N.held 2 (tree_of new) now.means) there

    -- It was not begun: the disk is at the world before it.
    pub unmade : IsKept dir W.held mid new → DiskAt I folder W W new
    unmade kept = record {
      store = store_of W refl refl (tree_of new) kept.tree there;
      etc = record { each = etc_of (tree_of new) there };
      image = λ path is. ap file_in (there path (apart.image path is)) ∙ disk.image path is;
      crash_states = λ c left. inl (store_of W refl refl c (since_now (HoldsIn dir W.held 2) mid new kept.crash_states c left)
          (since_now (IsThereElsewhere dir mid) mid new elsewhere c left));
      same_etc = refl;
      unsettled = λ path node is left. inl (ap file_in (settled path node
          (may_leave_untouched (IsBelow dir) mid new lays.touches path (apart.etc path is) node left)) ∙ disk.etc.each path is);
    }

    pub kept_moments : IsKept dir W.held mid new → EachSince (Recovers I W) mid new
    kept_moments kept = since_map (λ c. HoldsIn dir W.held 2 c × IsThereElsewhere dir mid c) (Recovers I W) mid new
        (λ c both. recovers_was c both.0 both.1)
        (since_both (HoldsIn dir W.held 2) (IsThereElsewhere dir mid) mid new kept.crash_states elsewhere)

-- Where no event happened, that was no forgetting either.
stayed_whole : (I : Image) → IsGood I → (folder : Folder) (W : World) (keys : List Key) (old new : History) → HasStayed I folder W old new
    → IsForgetting I W keys old new
stayed_whole I good folder W keys old new is = since_map (AtPrefix I W []) (λ c. LeavesPaid I W [] c ⊎ LeavesPaid I W (forgot keys) c) old new
    (λ c at. inl (leaves_paid I good W [] c (at_nothing I W c at) (start_paid I W))) is.any_moment

-- ---- with the reading before it

module _ (I : Image) (good : IsGood I) (folder : Folder) (W : World) (keys : List Key) (idle : is_running W.job ≡ false) (old mid : History)
    (disk_at : DiskAt I folder W W old) (s : Stored) (read : HasRead s old mid) where
  abbrev M : World
  M = next I W (Forgot (rising keys))

  abbrev now : Recovered I folder W W s.place old mid
  now = read_recovered I good folder W old mid disk_at s read

  told : TellsOf W (Ok s)
  told = read_tells W old mid disk_at.store s read

  ready : IsReadyAt s.place W.held mid
  ready = now.ready told.2

  paid : StayPaid I W (forgot keys)
  paid = forgot_paid I good folder W (rising keys) idle mid now.disk s.place ready now.settled

  module _ (result : Result Unit ForgetError) (new : History) (laid : LaysForgotten s keys result mid new) where
    -- The change, of what the world holds.
    lays : Lays s.place.directory W.held M.held laid.change mid new
    lays = subst (λ (h : Held). Lays s.place.directory h (forgotten h (rising keys)) laid.change mid new) told.1 laid.lays

    abbrev Moment : Tree → Type 0
    Moment c = Recovers I W c ⊎ Recovers I M c

    -- While it was read a crash leaves what recovers to the world.
    before : EachSince (Recovers I W) old mid
    before = since_map (OnTheWay I W W []) (Recovers I W) old mid (λ c on. ⊎_elim (λ r. r) (λ at. at_nothing I W c at) on) now.moments

    laid_moments : EachSince Moment old new
    laid_moments = since_joined Moment old mid new (since_map (Recovers I W) Moment old mid (λ c r. inl r) before)
        (moments I good folder W (rising keys) idle mid now.disk s.place ready now.settled laid.change new lays)

    way : EachSince (OnTheWay I W W (forgot keys)) old new
    way = since_map Moment (OnTheWay I W W (forgot keys)) old new (λ c either. ⊎_elim (λ r. inl r)
        (λ r. inr (record { first = forgot keys; rest = []; whole = refl; recovers = r })) either) laid_moments

    pub laid_whole : IsForgetting I W keys old new
    laid_whole = since_map Moment (λ c. LeavesPaid I W [] c ⊎ LeavesPaid I W (forgot keys) c) old new
        (λ c either. ⊎_elim (λ r. inl (leaves_paid I good W [] c r (start_paid I W))) (λ r. inr (leaves_paid I good W (forgot keys) c r paid)) either)
        laid_moments

    -- It was made: the event.
    runs : IsReadyWith s.place.directory M.held new → RunsTo I folder W (forgot keys) old new
    runs is = whole I good folder W (forgot keys) old new M here late (one_paid I W (Forgot (rising keys)) paid) way
        (disk_moments I folder W W (Forgot (rising keys)) old new M disk_at here late way) (λ calm. here) where
          here : DiskAt I folder M M new
          here = made I good folder W (rising keys) idle mid now.disk s.place ready now.settled laid.change new lays is

          late : IsLate I W W (forgot keys) M
          late = Within (forgot keys) [] refl refl refl

    pub laid_runs : laid.change ≡ Ok tt → RunsTo I folder W (forgot keys) old new
    laid_runs is = runs (subst (λ (c : Result Unit DiskErr). OnOk c (IsReadyWith s.place.directory W.held mid
        → IsReadyWith s.place.directory M.held new)) is lays.done
        (ready_with I good folder W (rising keys) idle mid now.disk s.place ready now.settled))

    -- It was not begun: no event.
    kept_stays : IsKept s.place.directory W.held mid new → HasStayed I folder W old new
    kept_stays kept = stays_on I good folder W old new disk_at
        (unmade I good folder W (rising keys) idle mid now.disk s.place ready now.settled laid.change new lays kept)
        (since_map (Recovers I W) (OnTheWay I W W []) old new (λ c r. inl r)
        (since_joined (Recovers I W) old mid new before
        (kept_moments I good folder W (rising keys) idle mid now.disk s.place ready now.settled laid.change new lays kept)))

    pub laid_stays : (e : DiskErr) → e ≢ device.Failed → laid.change ≡ Err e → HasStayed I folder W old new
    laid_stays e other is = by (subst (λ (c : Result Unit DiskErr). OnErr c (IsReadyWith s.place.directory W.held mid
        → IsKept s.place.directory W.held mid new ⊎ (HoldsIn s.place.directory M.held 2 (tree_of new) × (c ≡ Err device.Failed)))) is lays.failed
        (ready_with I good folder W (rising keys) idle mid now.disk s.place ready now.settled)) where
          by : IsKept s.place.directory W.held mid new
              ⊎ (HoldsIn s.place.directory M.held 2 (tree_of new) × (◌≡◌ {A = Result Unit DiskErr} (Err e) (Err device.Failed)))
              → HasStayed I folder W old new
          by (inl kept) = kept_stays kept
          by (inr (holds, same)) = absurd (other (cc same))

  -- ---- where nothing was changed

  stayed_there : (new : History) → new ≡ mid → HasStayed I folder W old new
  stayed_there new same = subst (HasStayed I folder W old) (sym same) (read_stays I good folder W old mid disk_at s read)

  -- ---- what it comes to

  -- What was read is what the world holds.
  first_is : (o : Option Key) → first_unheld s.held keys ≡ o → first_unheld W.held keys ≡ o
  first_is o is = ap (λ (h : Held). first_unheld h keys) (sym told.1) ∙ is

  module _ (new : History) where
    whole_in : (result : Result Unit ForgetError) (o : Option Key) → ForgetsIn s keys o result mid new → IsForgetting I W keys old new
    whole_in result (Some key) follows = stayed_whole I good folder W keys old new (stayed_there new follows.1)
    whole_in result None (inl laid) = laid_whole result new laid
    whole_in result None (inr follows) = stayed_whole I good folder W keys old new (stayed_there new follows.1)

    abbrev Comes : Result Unit ForgetError → Type 0
    Comes result = HasForgot I folder W keys result old new

    memory : new ≡ mid → Comes (Err (forget.Store refused.Memory))
    memory same = (tt, λ other. stayed_there new same)

    changed : (result : Result Unit ForgetError) → first_unheld W.held keys ≡ None → (laid : LaysForgotten s keys result mid new)
        → (change : Result Unit DiskErr) → laid.change ≡ change → Comes (of_change change)
    changed result is laid (Ok done) same = (is, laid_runs result new laid same)
    changed result is laid (Err device.Failed) same = (tt, λ other. absurd (other refl))
    changed result is laid (Err device.Memory) same = (tt, λ other. laid_stays result new laid device.Memory (λ e. cc e) same)

    comes_in : (result : Result Unit ForgetError) (o : Option Key) → first_unheld s.held keys ≡ o → ForgetsIn s keys o result mid new → Comes result
    comes_in result (Some key) is (inl told', same) = subst Comes (sym told') (first_is (Some key) is, stayed_there new same)
    comes_in result (Some key) is (inr told', same) = subst Comes (sym told') (memory same)
    comes_in result None is (inl laid) = subst Comes (sym laid.result_is) (changed result (first_is None is) laid laid.change refl)
    comes_in result None is (inr (told', same)) = subst Comes (sym told') (memory same)

-- ---- the laws

module _ (I : Image) (good : IsGood I) (folder : Folder) (W : World) (keys : List Key) (result : Result Unit ForgetError) (old new : History)
    (idle : is_running W.job ≡ false) (disk_at : DiskAt I folder W W old) where
  forgets_whole : (reading : Result Stored OpenError) (mid : History) → Reads reading old mid → ForgetsAfter keys reading result mid new
      → IsForgetting I W keys old new
  forgets_whole (Ok s) mid reads follows = whole_in I good folder W keys idle old mid disk_at s reads.done new result (first_unheld s.held keys) follows
  forgets_whole (Err e) mid reads follows = stayed_whole I good folder W keys old new
      (subst (HasStayed I folder W old) (sym follows.1) (stays I good folder W old mid disk_at (Err e) reads))

  comes_to : (reading : Result Stored OpenError) (mid : History) → Reads reading old mid → ForgetsAfter keys reading result mid new
      → HasForgot I folder W keys result old new
  comes_to (Ok s) mid reads follows = comes_in I good folder W keys idle old mid disk_at s reads.done new result (first_unheld s.held keys) refl follows
  comes_to (Err e) mid reads follows = subst (λ (r : Result Unit ForgetError). HasForgot I folder W keys r old new) (sym follows.0) (
    tells W old mid disk_at.store (Err e) reads,
    λ other. subst (HasStayed I folder W old) (sym follows.1) (stays I good folder W old mid disk_at (Err e) reads),
  )

pub forgettings_are_whole : ForgettingsAreWhole
forgettings_are_whole I good folder W keys result old new idle disk_at forgets =
    forgets_whole I good folder W keys result old new idle disk_at forgets.reading forgets.between forgets.reads forgets.follows

pub forgettings_forget : ForgettingsForget
forgettings_forget I good folder W keys result old new idle disk_at forgets =
    comes_to I good folder W keys result old new idle disk_at forgets.reading forgets.between forgets.reads forgets.follows

-- ---- only what is below the data directory is touched

module _ (I : Image) (events : List Event) (keys : List Key) (result : Result Unit ForgetError) (old mid new : History) where
  own_same : (reading : Result Stored OpenError) → Reads reading old mid → new ≡ mid → TouchesOwn I events old new
  own_same reading reads same = subst (TouchesOwn I events old) (sym same) (reading_own I events old mid reading reads)

  own_in : (s : Stored) → Reads (Ok s) old mid → (o : Option Key) → ForgetsIn s keys o result mid new → TouchesOwn I events old new
  own_in s reads (Some key) follows = own_same (Ok s) reads follows.1
  own_in s reads None (inl laid) = own_below I events old new s.place.version s.place.directory reads.done.links
      (goes_joined (IsAtOrSync (IsBelow s.place.directory)) old mid new reads.done.recovers.others.touches laid.lays.touches)
  own_in s reads None (inr follows) = own_same (Ok s) reads follows.1

  own_after : (reading : Result Stored OpenError) → Reads reading old mid → ForgetsAfter keys reading result mid new → TouchesOwn I events old new
  own_after (Ok s) reads follows = own_in s reads (first_unheld s.held keys) follows
  own_after (Err e) reads follows = own_same (Err e) reads follows.1

pub forgetting_own : (I : Image) (events : List Event) (keys : List Key) (result : Result Unit ForgetError) (old new : History) → Forgets keys result old new
    → TouchesOwn I events old new
forgetting_own I events keys result old new forgets = own_after I events keys result old forgets.between new forgets.reading forgets.reads forgets.follows

pub forgettings_touch_own : ForgettingsTouchOwn
forgettings_touch_own I keys result old new forgets = forgetting_own I (forgot keys) keys result old new forgets
