-- How calls follow each other, and what a crash leaves of them.
use Rattle.std.proofs.Common.{◌≡◌, ◌⊎◌, inl, inr, ⊎_elim, ℕ, ◌-◌, Bool, true, false, List, [], ◌∷◌, ◌++◌, refl, sym, ◌∙◌, ap, subst}
use Rattle.std.proofs.Common.{append_assoc}
use Rattle.std.specs.FinMap.{get}
use Rattle.outside.specs.Tree.{Tree, node_at}
use Rattle.outside.specs.History.{History, EachCrashState}
use Rattle.outside.specs.Since.{EachSince}
use Rattle.outside.proofs.Since.{since_start, since_joined, since_map}
use Rattle.settings_tree.specs.declared.held.Held.{Held}
use Rattle.settings_machine.specs.World.{Image, World, Files, is_running}
use Rattle.settings_machine.specs.Requests.{Request}
use Rattle.settings_machine.specs.Step.{Unopened, request_next, turn_next, opened}
use Rattle.settings_machine.specs.Events.{Event, Succeeded, Failing, Opened, Asked, Unreadable, Unread, Turned}
use Rattle.settings_machine.specs.Events.{Began, Moved, Forgot, next, after, acknowledges, acknowledges_any, faulted_next}
use Rattle.settings_machine.specs.Events.{faulted_after, are_served}
use Rattle.settings_machine.specs.Paid.{IsFit}
use Rattle.settings_machine.proofs.Sequences.{faulted-append, or_false, after-append, none_acked}
use Rattle.version_links.specs.declared.chain.Place.{Place}
use Rattle.machine_disk.specs.Store.{Recovers, IsReadyAt}
use Rattle.machine_disk.specs.Kept.{Folder, DiskAt, CoreState, Kept}
use Rattle.machine_disk.specs.Touched.{TouchesOwn}
use Rattle.machine_disk.proofs.Settled.{settled_store}
use Rattle.machine_disk.proofs.Moments.{none_moments, one_moments, more_moments}
use Rattle.machine_disk.proofs.Touched.{own_none, own_of_any, own_more}
use Rattle.machine_disk.specs.Ran.{AtPrefix, AtLatePrefix, IsLate, Before, Within, OnTheWay, HasMoments, Ran, IsSlice, IsDriven, OpensTo, OpensNot}

-- ---- the format, which openings leave alone

opened_format : (I : Image) (W : World) (boot : Bool) → W.format ≡ 2 → (opened I W boot).format ≡ 2
unfolding opened
opened_format I W boot format = format

failing_format : (I : Image) (W : World) (boot taken : Bool) → W.format ≡ 2 → (next I W (Opened boot (Failing taken))).format ≡ 2
failing_format I W boot true format = opened_format I W boot format
failing_format I W boot false format = format

module _ (I : Image) where
  -- ---- prefixes

  -- A prefix of the first events is one of all.
  pub prefix_of_more : (W : World) (es fs : List Event) (c : Tree) → AtPrefix I W es c → AtPrefix I W (es ++ fs) c
  prefix_of_more W es fs c at = record {
    first = at.first;
    rest = at.rest ++ fs;
    whole = ap (λ (l : List Event). l ++ fs) at.whole ∙ append_assoc at.first at.rest fs;
    recovers = at.recovers;
  }

  -- A prefix of the later events is one of all.
  pub prefix_after : (W : World) (es fs : List Event) (c : Tree) → AtPrefix I (after I W es) fs c → AtPrefix I W (es ++ fs) c
  prefix_after W es fs c at = record {
    first = es ++ at.first;
    rest = at.rest;
    whole = ap (λ (l : List Event). es ++ l) at.whole ∙ sym (append_assoc es at.first at.rest);
    recovers = subst (λ (X : World). Recovers I X c) (sym (after-append I W es at.first)) at.recovers;
  }

  -- At the start.
  pub at_start : (W : World) (es : List Event) (c : Tree) → Recovers I W c → AtPrefix I W es c
  at_start W es c r = record { first = []; rest = es; whole = refl; recovers = r }

  pub late_more : (W V : World) (es fs : List Event) (X Y : World) → IsLate I W V es X → IsLate I (after I W es) X fs Y → IsLate I W V (es ++ fs) Y
  late_more W V es fs X Y (Before is none) (Before is' none') = Before (is' ∙ is) (none_acked I W es fs none none')
  late_more W V es fs X Y (Within first rest whole is none) (Before is' none') =
      Within first (rest ++ fs)
      (ap (λ (l : List Event). l ++ fs) whole ∙ append_assoc first rest fs)
      (is' ∙ is)
      (subst (λ (Z : World). acknowledges_any I Z (rest ++ fs) ≡ false) (sym is')
      (none_acked I X rest fs none (subst (λ (Z : World). acknowledges_any I Z fs ≡ false)
      (ap (after I W) whole ∙ after-append I W first rest ∙ ap (λ (Z : World). after I Z rest) (sym is)) none')))
  late_more W V es fs X Y late (Within first rest whole is none) =
      Within (es ++ first) rest
      (ap (λ (l : List Event). es ++ l) whole ∙ sym (append_assoc es first rest))
      (is ∙ sym (after-append I W es first))
      none

  -- What recovers to X recovers to V or to a world on the way.
  pub late_recovers : (W V : World) (es : List Event) (X : World) (c : Tree) → IsLate I W V es X → Recovers I X c → OnTheWay I W V es c
  late_recovers W V es X c (Before is none) r = inl (subst (λ (Z : World). Recovers I Z c) is r)
  late_recovers W V es X c (Within first rest whole is none) r = inr (record {
    first = first;
    rest = rest;
    whole = whole;
    recovers = subst (λ (Z : World). Recovers I Z c) is r;
  })

  -- What is on the way of the first events is on that of all,
  pub way_of_more : (W V : World) (es fs : List Event) (c : Tree) → OnTheWay I W V es c → OnTheWay I W V (es ++ fs) c
  way_of_more W V es fs c (inl r) = inl r
  way_of_more W V es fs c (inr at) = inr (prefix_of_more W es fs c at)

  -- and so is what is on the way of the later ones.
  pub way_after : (W V X : World) (es fs : List Event) (c : Tree) → IsLate I W V es X → OnTheWay I (after I W es) X fs c → OnTheWay I W V (es ++ fs) c
  way_after W V X es fs c late (inl r) = way_of_more W V es fs c (late_recovers W V es X c late r)
  way_after W V X es fs c late (inr at) = inr (prefix_after W es fs c at)

  -- ---- crash states now

  -- Each crash state recovers to W or to V,
  pub recovers_now : (folder : Folder) (W V : World) (h : History) → DiskAt I folder W V h → EachCrashState (λ c. Recovers I W c ⊎ Recovers I V c) h
  recovers_now folder W V h disk c left = ⊎_elim
      (λ is. inl (record {
        store = is;
        etc = λ path below. ⊎_elim (λ same. inl same) (λ due. inr due.0) (disk.unsettled path (node_at c path) below (left path));
      }))
      (λ is. inr (record {
        store = is;
        etc = λ path below. ⊎_elim (λ same. inl (same ∙ sym (ap (λ (m : Files). get m path) disk.same_etc))) (λ due. inr due.1)
            (disk.unsettled path (node_at c path) below (left path));
      }))
      (disk.crash_states c left)

  -- and so is on the way.
  pub way_now : (folder : Folder) (W V : World) (es : List Event) (h : History) → DiskAt I folder W V h → EachCrashState (OnTheWay I W V es) h
  way_now folder W V es h disk c left = ⊎_elim (λ r. inr (at_start W es c r)) (λ r. inl r) (recovers_now folder W V h disk c left)

  -- Where no call of the disk has failed since the last opening that succeeded, the disk is at the world alone.
  pub calm_disk : (folder : Folder) (W V : World) (h : History) (core : CoreState) → core.faulted ≡ false → Kept I folder W V h core → DiskAt I folder W W h
  calm_disk folder W V h core calm kept = record {
    store = kept.disk.store;
    etc = kept.disk.etc;
    image = kept.disk.image;
    crash_states = λ c left. inl (settled_store W h (let r : IsReadyAt core.place core.held h = kept.core.ready calm in r.settled) kept.disk.store c left);
    same_etc = refl;
    unsettled = λ path node is left. ⊎_elim (λ same. inl same) (λ due. inr (due.0, due.0)) (kept.disk.unsettled path node is left);
  }

  -- ---- one call after another

  -- The moments of one event, from where the disk is before and after it.
  pub disk_moments : (folder : Folder) (W V : World) (e : Event) (old new : History) (other : World) → DiskAt I folder W V old
      → DiskAt I folder (after I W (e ∷ [])) other new → IsLate I W V (e ∷ []) other → EachSince (OnTheWay I W V (e ∷ [])) old new
      → HasMoments I W V (e ∷ []) old new
  disk_moments folder W V e old new other start now late since = one_moments I W V old new e other start.store start.etc now.store now.etc
      (recovers_now folder (after I W (e ∷ [])) other new now) late since

  -- What one event made, but for its moments.
  pub record Stepped (folder : Folder) (W V : World) (e : Event) (old new : History) (before now : CoreState) : Type 0 where
    pub other : World
    pub late : IsLate I W V (e ∷ []) other
    pub kept : Kept I folder (after I W (e ∷ [])) other new now
    pub flag : now.faulted ≡ faulted_next before.faulted e
    pub moments : EachSince (OnTheWay I W V (e ∷ [])) old new
    pub touches : TouchesOwn I (e ∷ []) old new

  -- These follow from where the disk was.
  pub stepped : (folder : Folder) (W V : World) (e : Event) (old new : History) (before now : CoreState) → DiskAt I folder W V old
      → Stepped folder W V e old new before now → Ran I folder W V (e ∷ []) old new before now
  stepped folder W V e old new before now start s = record {
    other = s.other;
    late = s.late;
    kept = s.kept;
    flag = s.flag;
    moments = s.moments;
    keeps = disk_moments folder W V e old new s.other start s.kept.disk s.late s.moments;
    touches = s.touches;
  }

  -- Before the first event.
  pub ran_none : (folder : Folder) (W V : World) (h : History) (core : CoreState) → Kept I folder W V h core → Ran I folder W V [] h h core core
  ran_none folder W V h core kept =
      let way : EachSince (OnTheWay I W V []) h h = since_start (OnTheWay I W V []) h (way_now folder W V [] h kept.disk) in
      record {
        other = V;
        late = Before refl refl;
        kept = kept;
        flag = refl;
        moments = way;
        keeps = none_moments I W V h h kept.disk.store kept.disk.etc way;
        touches = own_none I [] h;
      }

  -- One call after another.
  pub ran_more : (folder : Folder) (W V : World) (es fs : List Event) (old mid new : History) (before between now : CoreState)
      (one : Ran I folder W V es old mid before between)
      → Ran I folder (after I W es) one.other fs mid new between now → Ran I folder W V (es ++ fs) old new before now
  ran_more folder W V es fs old mid new before between now one two = record {
    other = two.other;
    late = late_more W V es fs one.other two.other one.late two.late;
    kept = subst (λ (Z : World). Kept I folder Z two.other new now) (sym (after-append I W es fs)) two.kept;
    flag = two.flag ∙ ap (λ (b : Bool). faulted_after b fs) one.flag ∙ sym (faulted-append before.faulted es fs);
    moments = since_joined (OnTheWay I W V (es ++ fs)) old mid new
        (since_map (OnTheWay I W V es) (OnTheWay I W V (es ++ fs)) old mid (λ c way. way_of_more W V es fs c way) one.moments)
        (since_map (OnTheWay I (after I W es) one.other fs) (OnTheWay I W V (es ++ fs)) mid new (λ c way. way_after W V one.other es fs c one.late way)
        two.moments);
    keeps = more_moments I W V one.other es fs one.late old mid new one.keeps one.moments two.keeps two.moments;
    touches = own_more I es fs old mid new one.touches two.touches;
  }

  -- An event that changes nothing and acknowledges nothing.
  pub ran_idle : (folder : Folder) (W V : World) (e : Event) (h : History) (core : CoreState) → Kept I folder W V h core → next I W e ≡ W
      → acknowledges I W e ≡ false → faulted_next core.faulted e ≡ core.faulted
      → Ran I folder W V (e ∷ []) h h core core
  ran_idle folder W V e h core kept same none flag = stepped folder W V e h h core core kept.disk (record {
    other = V;
    late = Before refl (or_false _ _ none refl);
    kept = subst (λ (Z : World). Kept I folder Z V h core) (sym same) kept;
    flag = sym flag;
    moments = since_start (OnTheWay I W V (e ∷ [])) h (way_now folder W V (e ∷ []) h kept.disk);
    touches = own_none I (e ∷ []) h;
  })

  -- A request that was refused in reading.
  pub ran_unread : (why : Unreadable) (folder : Folder) (W V : World) (h : History) (core : CoreState) → Kept I folder W V h core
      → Ran I folder W V (Unread why ∷ []) h h core core
  ran_unread why folder W V h core kept = ran_idle folder W V (Unread why) h core kept refl refl refl

  -- ---- openings

  -- After an opening the core is kept at the opened world, whose job it has.
  pub opens_kept : (folder : Folder) (W V : World) (boot : Bool) (place : Place) (held : Held) (old new : History) (core : CoreState)
      → OpensTo I folder W V boot place held old new
      → core.place ≡ place → core.held ≡ held → core.job ≡ (opened I W boot).job → core.faulted ≡ false
      → Kept I folder (opened I W boot) (opened I W boot) new core
  opens_kept folder W V boot place held old new core opens place_is held_is job calm = record {
    fit = opens.fit;
    format = opened_format I W boot opens.format;
    disk = opens.disk;
    core = record {
      job = job;
      ready = λ _. subst (λ p. IsReadyAt p core.held new) (sym place_is) (subst (λ (h : Held). IsReadyAt place h new) (sym held_is) opens.ready);
      still = λ faulted. absurd (cc (faulted, calm));
    };
  }

  -- A reopening is an event of the run.
  pub opens_ran : (folder : Folder) (W V : World) (boot : Bool) (place : Place) (held : Held) (old new : History) (before core : CoreState)
      → OpensTo I folder W V boot place held old new
      → core.place ≡ place → core.held ≡ held → core.job ≡ (opened I W boot).job → core.faulted ≡ false
      → Ran I folder W V (Opened boot Succeeded ∷ []) old new before core
  opens_ran folder W V boot place held old new before core opens place_is held_is job calm = record {
    other = opened I W boot;
    late = Within (Opened boot Succeeded ∷ []) [] refl refl refl;
    kept = opens_kept folder W V boot place held old new core opens place_is held_is job calm;
    flag = calm;
    moments = opens.moments;
    keeps = opens.keeps;
    touches = opens.touches;
  }

  -- And so is one that failed.
  pub unopened_ran : (folder : Folder) (W V : World) (boot : Bool) (old new : History) (before core : CoreState)
      (not_opened : OpensNot I folder W V boot old new)
      → W.format ≡ 2 → IsFit I (after I W (Opened boot (Failing not_opened.taken) ∷ []))
      → core.job ≡ (after I W (Opened boot (Failing not_opened.taken) ∷ [])).job → core.faulted ≡ true → is_running core.job ≡ false
      → Ran I folder W V (Opened boot (Failing not_opened.taken) ∷ []) old new before core
  unopened_ran folder W V boot old new before core not_opened format fit job faulted stopped = record {
    other = not_opened.other;
    late = not_opened.late;
    kept = record {
      fit = fit;
      format = failing_format I W boot not_opened.taken format;
      disk = not_opened.disk;
      core = record { job = job; ready = λ calm. absurd (cc (faulted, calm)); still = λ _. stopped };
    };
    flag = faulted;
    moments = not_opened.moments;
    keeps = not_opened.keeps;
    touches = not_opened.touches;
  }

  -- A reopening that was refused adds no opening to the events; it may have carried out a change that was cut off.
  pub refused_ran : (folder : Folder) (W V : World) (q : Request) (at : List ℕ) (old new : History) (core : CoreState) → core.faulted ≡ true
      → Kept I folder W V old core
      → DiskAt I folder W W new → EachSince (OnTheWay I W V []) old new → TouchesOwn I [] old new
      → Ran I folder W V (Asked q (Unopened at) ∷ []) old new core core
  unfolding request_next
  refused_ran folder W V q at old new core faulted kept disk moments touches = stepped folder W V (Asked q (Unopened at)) old new core core kept.disk (record {
    other = W;
    late = Within [] (Asked q (Unopened at) ∷ []) refl refl refl;
    kept = record {
      fit = kept.fit;
      format = kept.format;
      disk = disk;
      core = record { job = kept.core.job; ready = λ calm. absurd (cc (calm, faulted)); still = kept.core.still };
    };
    flag = refl;
    moments = since_map (OnTheWay I W V []) (OnTheWay I W V (Asked q (Unopened at) ∷ [])) old new
        (λ t way. way_of_more W V [] (Asked q (Unopened at) ∷ []) t way) moments;
    touches = own_of_any I (Asked q (Unopened at) ∷ []) old new touches;
  })

  -- ---- turns

  -- The events of a slice are turns.
  pub slice_served : (n : ℕ) (W : World) (es : List Event) → IsSlice I n W es → are_served es ≡ true
  slice_served n W [] slice = refl
  slice_served n W (Turned a ∷ es) slice = slice_served (n - 1) (turn_next I W a) es slice.3
  slice_served n W (Opened boot o ∷ es) slice = absurd slice
  slice_served n W (Asked q o ∷ es) slice = absurd slice
  slice_served n W (Unread why ∷ es) slice = absurd slice
  slice_served n W (Began v ∷ es) slice = absurd slice
  slice_served n W (Moved v h ∷ es) slice = absurd slice
  slice_served n W (Forgot keys ∷ es) slice = absurd slice

  pub driven_served : (W : World) (es : List Event) → IsDriven I W es → are_served es ≡ true
  driven_served W [] driven = refl
  driven_served W (Turned a ∷ es) driven = driven_served (turn_next I W a) es driven.2
  driven_served W (Opened boot o ∷ es) driven = absurd driven
  driven_served W (Asked q o ∷ es) driven = absurd driven
  driven_served W (Unread why ∷ es) driven = absurd driven
  driven_served W (Began v ∷ es) driven = absurd driven
  driven_served W (Moved v h ∷ es) driven = absurd driven
  driven_served W (Forgot keys ∷ es) driven = absurd driven

  -- ---- the end of a run

  pub late_at : (W X : World) (es : List Event) (c : Tree) → IsLate I W W es X → Recovers I X c → AtLatePrefix I W es c
  late_at W X es c (Before is none) r = record {
    prefix = record { first = []; rest = es; whole = refl; recovers = subst (λ (Z : World). Recovers I Z c) is r };
    unacknowledged = none;
  }
  late_at W X es c (Within first rest whole is none) r = record {
    prefix = record { first = first; rest = rest; whole = whole; recovers = subst (λ (Z : World). Recovers I Z c) is r };
    unacknowledged = subst (λ (Z : World). acknowledges_any I Z rest ≡ false) is none;
  }
