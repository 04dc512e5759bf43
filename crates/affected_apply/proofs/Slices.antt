-- Turns one after another.
use Rattle.std.proofs.Common.{◌≡◌, ◌≢◌, ◌⊎◌, inl, inr, ⊎_elim, ℕ, zero, suc, ◌-◌, arith, Bool, true}
use Rattle.std.proofs.Common.{false, ◌||◌, ◌&&◌, List, [], ◌∷◌, ◌++◌, Option, Some, None, refl, sym, ◌∙◌, ap, subst}
use Rattle.std.proofs.Common.{append_assoc}
use Rattle.std.proofs.lemmas.List.{append-nil}
use Rattle.std.specs.Option.{option_map}
use Rattle.outside.specs.History.{History}
use Rattle.outside.specs.Spawner.{Run}
use Rattle.outside.specs.Told.{Moves}
use Rattle.outside.proofs.Told.{moves_stay, moves_then}
use Rattle.settings_tree.specs.declared.held.Held.{Held}
use Rattle.settings_machine.specs.World.{Image, World, Job, Idle, Failed, Running, is_running, KeepsAllButOwed}
use Rattle.settings_machine.specs.Step.{Answer, fits, turn_next}
use Rattle.settings_machine.specs.Events.{Event, Turned, after}
use Rattle.settings_machine.specs.Paid.{IsGood}
use Rattle.settings_machine.proofs.Sequences.{after-append}
use Rattle.machine_disk.specs.Kept.{Folder, CoreState, Kept}
use Rattle.machine_disk.specs.Ran.{Ran}
use Rattle.machine_disk.proofs.Runs.{ran_none, ran_more}
use Rattle.store_open.specs.Laws.{HoldsImage}
use Rattle.affected_apply.specs.declared.store.Store.{Store}
use Rattle.affected_apply.specs.Jobs.{failed_with_disk}
use Rattle.affected_apply.specs.Turned.{core_at, IsEvent, IsTurn, AreTurns, AreEvents, Turns}
use Rattle.affected_apply.proofs.Running.{core_same, ran_to}
use Rattle.affected_apply.proofs.Causes.{running_fine, first_fine}

-- The events so far, which with turns of what is left of the slice are a slice.
pub record SoFarIn (I : Image) (folder : Folder) (W V : World) (slice left : Option ℕ) (before now : CoreState) (ran_before ran_now : Option (List Run))
    (old new : History) : Type 0 where
  pub events : List Event
  pub more : (rest : List Event) → AreTurns I left (after I W events) rest → AreTurns I slice W (events ++ rest)
  pub ran : Ran I folder W V events old new before now
  pub runs : Moves ran_before ran_now (λ r s. r ≡ W.runs → s ≡ (after I W events).runs)

-- By each image that the core holds, in each world at which disk and core are.
pub record SoFar (s : Store) (slice left : Option ℕ) (held : Held) (job : Job) (held_now : Held) (job_now : Job) (ran_before ran_now : Option (List Run))
    (old new : History) : Type 0 where
  pub each : (I : Image) → IsGood I → HoldsImage I s.image.now → (folder : Folder) (faulted : Bool) (W V : World)
      → Kept I folder W V old (core_at s held job faulted)
      → SoFarIn I folder W V slice left (core_at s held job faulted)
      (core_at s held_now job_now (faulted || (is_running job && failed_with_disk job_now))) ran_before ran_now old new

-- What is false adds nothing.
or_none : (b c : Bool) → c ≡ false → b ≡ (b || c)
or_none true c e = refl
or_none false c e = sym e

-- Before the first turn.
pub none_yet : (s : Store) (slice : Option ℕ) (held : Held) (job : Job) (ran : Option (List Run)) (old : History)
    → SoFar s slice slice held job held job ran ran old old
none_yet s slice held job ran old = record { each = by } where
  by : (I : Image) → IsGood I → HoldsImage I s.image.now → (folder : Folder) (faulted : Bool) (W V : World) → Kept I folder W V old (core_at s held job faulted)
      → SoFarIn I folder W V slice slice (core_at s held job faulted) (core_at s held job (faulted || (is_running job && failed_with_disk job))) ran ran old old
  by I good of folder faulted W V kept = record {
    events = [];
    more = λ rest r. r;
    ran = ran_to I folder W V [] old old (core_at s held job faulted) (core_at s held job faulted)
        (core_at s held job (faulted || (is_running job && failed_with_disk job)))
        (core_same (core_at s held job faulted) (core_at s held job (faulted || (is_running job && failed_with_disk job))) refl refl refl
        (or_none faulted (is_running job && failed_with_disk job) (first_fine job)))
        (ran_none I folder W V old (core_at s held job faulted) kept);
    runs = moves_stay (λ r e. e);
  }

-- A turn of a slice, and then the rest of it.
turns_more : (I : Image) (left : Option ℕ) (W : World) (a : Answer) (rest : List Event) → left ≢ Some 0 → is_running W.job ≡ true → fits W.job a ≡ true
    → AreTurns I (option_map (λ n. n - 1) left) (turn_next I W a) rest
    → AreTurns I left W (Turned a ∷ rest)
turns_more I None W a rest some running fitting r = (running, fitting, r)
turns_more I (Some zero) W a rest some running fitting r = absurd (some refl)
turns_more I (Some (suc n)) W a rest some running fitting r = (omega arith, running, fitting, r)

-- The flag after one more turn of a job that ran.
flag_more : (faulted : Bool) (one two now : Job) → is_running one ≡ true → is_running two ≡ true
    → ((faulted || (is_running one && failed_with_disk two)) || failed_with_disk now) ≡ (faulted || (is_running one && failed_with_disk now))
flag_more true one two now ran running = refl
flag_more false Idle two now ran running = absurd (cc ran)
flag_more false (Failed c) two now ran running = absurd (cc ran)
flag_more false (Running w) two now ran running = ap (λ (b : Bool). b || failed_with_disk now) (running_fine two running)

-- After one more turn.
pub one_more : (s : Store) (slice left left_after : Option ℕ) → left_after ≡ option_map (λ n. n - 1) left
    → (held : Held) (job : Job) (held_mid : Held) (job_mid : Job) (held_now : Held) (job_now : Job) (ran_before ran_mid ran_now : Option (List Run))
    (old mid new : History)
    → is_running job ≡ true → is_running job_mid ≡ true → left ≢ Some 0 → SoFar s slice left held job held_mid job_mid ran_before ran_mid old mid
    → IsTurn s held_mid job_mid held_now job_now ran_mid ran_now mid new
    → SoFar s slice left_after held job held_now job_now ran_before ran_now old new
one_more s slice left left_after fewer held job held_mid job_mid held_now job_now ran_before ran_mid ran_now old mid new ran running some so_far turn =
    record { each = by } where
      by : (I : Image) → IsGood I → HoldsImage I s.image.now → (folder : Folder) (faulted : Bool) (W V : World)
          → Kept I folder W V old (core_at s held job faulted)
          → SoFarIn I folder W V slice left_after (core_at s held job faulted)
          (core_at s held_now job_now (faulted || (is_running job && failed_with_disk job_now))) ran_before ran_now old new
      by I good of folder faulted W V kept =
          let before = core_at s held job faulted in
          let flag = faulted || (is_running job && failed_with_disk job_mid) in
          let between = core_at s held_mid job_mid flag in
          let now = core_at s held_now job_now (faulted || (is_running job && failed_with_disk job_now)) in
          let a : SoFarIn I folder W V slice left before between ran_before ran_mid old mid = so_far.each I good of folder faulted W V kept in
          let kept_mid : Kept I folder (after I W a.events) a.ran.other mid between = a.ran.kept in
          let e : IsEvent I folder (after I W a.events) a.ran.other between (core_at s held_now job_now (flag || failed_with_disk job_now)) ran_mid ran_now mid
          new =
          turn.event I good of folder flag (after I W a.events) a.ran.other kept_mid in
          let world_runs : is_running (after I W a.events).job ≡ true = ap is_running (sym kept_mid.core.job) ∙ running in
          record {
            events = a.events ++ Turned e.answer ∷ [];
            more = λ rest r. subst (AreTurns I slice W) (sym (append_assoc a.events (Turned e.answer ∷ []) rest))
                (a.more (Turned e.answer ∷ rest) (turns_more I left (after I W a.events) e.answer rest some world_runs e.fitting
                (subst (λ (l : Option ℕ). AreTurns I l (turn_next I (after I W a.events) e.answer) rest) fewer
                (subst (λ (X : World). AreTurns I left_after X rest) (after-append I W a.events (Turned e.answer ∷ [])) r))));
            ran = ran_to I folder W V (a.events ++ Turned e.answer ∷ []) old new before _ now
                (core_same (core_at s held_now job_now (flag || failed_with_disk job_now)) now refl refl refl
                (flag_more faulted job job_mid job_now ran running))
                (ran_more I folder W V a.events (Turned e.answer ∷ []) old mid new before between
                (core_at s held_now job_now (flag || failed_with_disk job_now))
                a.ran e.ran);
            runs = moves_then (λ r s t f g is. g (f is) ∙ sym (ap (λ (X : World). X.runs) (after-append I W a.events (Turned e.answer ∷ [])))) a.runs e.runs;
          }

-- What two calls keep, both keep.
pub held_more : (a b c : Held) → KeepsAllButOwed a b → KeepsAllButOwed b c → KeepsAllButOwed a c
held_more a b c one two = two ∙ ap (λ (h : Held). let k : Held = record h { owed = c.owed } in k) one

-- Where nothing is left of the slice or no job runs, no more turns are a slice.
pub ended : (I : Image) (left : Option ℕ) (W : World) → (left ≡ Some 0) ⊎ (is_running W.job ≡ false) → AreTurns I left W []
ended I None W (inl e) = absurd (cc e)
ended I None W (inr e) = e
ended I (Some n) W (inl e) = inl (cc e)
ended I (Some n) W (inr e) = inr e

-- Then the turns so far are the slice.
pub all_made : (s : Store) (slice left : Option ℕ) (held : Held) (job : Job) (held_now : Held) (job_now : Job) (ran_before ran_now : Option (List Run))
    (old new : History)
    → (left ≡ Some 0) ⊎ (is_running job_now ≡ false) → SoFar s slice left held job held_now job_now ran_before ran_now old new
    → Turns s slice held job held_now job_now ran_before ran_now old new
all_made s slice left held job held_now job_now ran_before ran_now old new done so_far = record { events = by } where
  by : (I : Image) → IsGood I → HoldsImage I s.image.now → (folder : Folder) (faulted : Bool) (W V : World) → Kept I folder W V old (core_at s held job faulted)
      → AreEvents I folder W V slice (core_at s held job faulted)
      (core_at s held_now job_now (faulted || (is_running job && failed_with_disk job_now))) ran_before ran_now old new
  by I good of folder faulted W V kept =
      let now = core_at s held_now job_now (faulted || (is_running job && failed_with_disk job_now)) in
      let a : SoFarIn I folder W V slice left (core_at s held job faulted) now ran_before ran_now old new = so_far.each I good of folder faulted W V kept in
      let kept_now : Kept I folder (after I W a.events) a.ran.other new now = a.ran.kept in
      record {
        events = a.events;
        form = subst (AreTurns I slice W) (append-nil a.events)
            (a.more [] (ended I left (after I W a.events) (⊎_elim (λ e. inl e) (λ e. inr (ap is_running (sym kept_now.core.job) ∙ e)) done)));
        ran = a.ran;
        runs = a.runs;
      }
