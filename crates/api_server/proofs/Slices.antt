-- A slice of turns has at most one failure of a kind among them, which is what the job has failed with.
use Rattle.std.proofs.Common.{◌≡◌, ◌≢◌, ◌⊎◌, ◌+◌, ◌-◌, ◌&&◌, inl, inr, ℕ, zero, suc, Bool, true, false, List, [], ◌∷◌, Option, Some, None}
use Rattle.std.proofs.Common.{Result, OnErr, refl, sym, ◌∙◌, ap}
use Rattle.std.proofs.Common.{subst, ◌++◌, ◌≤◌, arith}
use Rattle.std.specs.Option.{option_map}
use Rattle.api_server.proofs.Counted.{none_rose}
use Rattle.outside.specs.Faults.{Rose, HasCause}
use Rattle.outside.specs.History.{History}
use Rattle.outside.specs.Spawner.{Run}
use Rattle.settings_machine.specs.World.{Image, World, Work, Job, Idle, Failed, Running, is_running}
use Rattle.settings_machine.specs.Step.{Answer, Fine, NoRoom, FileFault, NoSpawn, SyncFault, OwedFault}
use Rattle.settings_machine.specs.Step.{Command, fits, fits_work, after_files_turn, work_turn, job_turn, turn_next}
use Rattle.settings_machine.specs.Events.{Event, Opened, Asked, Unread, Turned, Began, Moved, Forgot, is_disk_fault, after}
use Rattle.settings_machine.specs.declared.cause.Cause.TheVariants as cause
use Rattle.machine_disk.specs.Kept.{Folder, Kept}
use Rattle.machine_disk.specs.Ran.{IsSlice, IsDriven}
use Rattle.affected_apply.specs.Jobs.{failed_with_disk, failed_to_spawn, answer_of}
use Rattle.affected_apply.specs.Turned.{AreTurns}
use Rattle.affected_apply.specs.Turning.{broken}
use Rattle.api_core.specs.Cores.{core_state}
use Rattle.api_core.specs.Turned.{IsTurned}
use Rattle.api_core.specs.declared.serving.Core.{Core}
use Rattle.api_core.proofs.Soundness.{still_failed}
use Rattle.api_server.specs.Causes.{fails_disk, fails_to_spawn, one_more, count_of, RoseBy, fault_counts, AreCounted}
use Rattle.api_server.specs.Rounds.{AreIdle}

-- ---- a turn in which a device failed

module _ (I : Image) (W : World) where
  commands_fail : (w : Work) (cs : List Command) (a : Answer) → is_disk_fault a ≡ true → (after_files_turn I W cs w a).job ≡ Failed cause.Disk
  commands_fail w [] (FileFault left) fault = refl
  commands_fail w [] SyncFault fault = refl
  commands_fail w [] (OwedFault stored) fault = refl
  commands_fail w [] (Fine status) fault = absurd (cc fault)
  commands_fail w [] NoRoom fault = absurd (cc fault)
  commands_fail w [] NoSpawn fault = absurd (cc fault)
  commands_fail w (c ∷ cs) (FileFault left) fault = refl
  commands_fail w (c ∷ cs) SyncFault fault = refl
  commands_fail w (c ∷ cs) (OwedFault stored) fault = refl
  commands_fail w (c ∷ cs) (Fine status) fault = absurd (cc fault)
  commands_fail w (c ∷ cs) NoRoom fault = absurd (cc fault)
  commands_fail w (c ∷ cs) NoSpawn fault = absurd (cc fault)

  work_fails : (w : Work) (files : List (List ℕ)) (a : Answer) → is_disk_fault a ≡ true → (work_turn I W files w a).job ≡ Failed cause.Disk
  work_fails w [] a fault = commands_fail w w.commands a fault
  work_fails w (f ∷ fs) (FileFault left) fault = refl
  work_fails w (f ∷ fs) SyncFault fault = refl
  work_fails w (f ∷ fs) (OwedFault stored) fault = refl
  work_fails w (f ∷ fs) (Fine status) fault = absurd (cc fault)
  work_fails w (f ∷ fs) NoRoom fault = absurd (cc fault)
  work_fails w (f ∷ fs) NoSpawn fault = absurd (cc fault)

  job_fails : (j : Job) (a : Answer) → is_running j ≡ true → is_disk_fault a ≡ true → (job_turn I W j a).job ≡ Failed cause.Disk
  job_fails Idle a running fault = absurd (cc running)
  job_fails (Failed c) a running fault = absurd (cc running)
  job_fails (Running w) a running fault = work_fails w w.files a fault

  -- Where the disk failed, the job has failed with that.
  pub turn_fails : (a : Answer) → is_running W.job ≡ true → is_disk_fault a ≡ true → (turn_next I W a).job ≡ Failed cause.Disk
  unfolding turn_next
  turn_fails a running fault = job_fails W.job a running fault

  commands_spawn : (w : Work) (cs : List Command) → fits_work NoSpawn [] cs ≡ true → failed_to_spawn (after_files_turn I W cs w NoSpawn).job ≡ true
  commands_spawn w [] fitting = absurd (cc fitting)
  commands_spawn w (c ∷ cs) fitting = refl

  work_spawns : (w : Work) (files : List (List ℕ)) → fits_work NoSpawn files w.commands ≡ true → failed_to_spawn (work_turn I W files w NoSpawn).job ≡ true
  work_spawns w [] fitting = commands_spawn w w.commands fitting
  work_spawns w (f ∷ fs) fitting = absurd (cc fitting)

  job_spawns : (j : Job) → fits j NoSpawn ≡ true → failed_to_spawn (job_turn I W j NoSpawn).job ≡ true
  job_spawns Idle fitting = absurd (cc fitting)
  job_spawns (Failed c) fitting = absurd (cc fitting)
  job_spawns (Running w) fitting = work_spawns w w.files fitting

  -- Where a program could not be run, it has failed with that.
  turn_spawns : (a : Answer) → fits W.job a ≡ true → fails_to_spawn (Turned a) ≡ true → failed_to_spawn (turn_next I W a).job ≡ true
  unfolding turn_next
  turn_spawns NoSpawn fitting fault = job_spawns W.job fitting
  turn_spawns (Fine status) fitting fault = absurd (cc fault)
  turn_spawns NoRoom fitting fault = absurd (cc fault)
  turn_spawns (FileFault left) fitting fault = absurd (cc fault)
  turn_spawns SyncFault fitting fault = absurd (cc fault)
  turn_spawns (OwedFault stored) fitting fault = absurd (cc fault)

unspawned_stops : (j : Job) → failed_to_spawn j ≡ true → is_running j ≡ false
unspawned_stops Idle failed = refl
unspawned_stops (Failed c) failed = refl
unspawned_stops (Running w) failed = absurd (cc failed)

-- ---- turns one after another

-- Each is made of a running job, and its answer fits it.
abbrev AreFitting : Image → World → List Event → Type 0
AreFitting I W [] = Unit {0}
AreFitting I W (Turned a ∷ es) = (is_running W.job ≡ true) × (fits W.job a ≡ true) × AreFitting I (turn_next I W a) es
AreFitting I W (e ∷ es) = ⊥

slice_fits : (I : Image) (n : ℕ) (W : World) (es : List Event) → IsSlice I n W es → AreFitting I W es
slice_fits I n W [] are = tt
slice_fits I n W (Turned a ∷ es) are = (are.1, are.2, slice_fits I (n - 1) (turn_next I W a) es are.3)
slice_fits I n W (Opened boot o ∷ es) are = absurd are
slice_fits I n W (Asked q o ∷ es) are = absurd are
slice_fits I n W (Unread why ∷ es) are = absurd are
slice_fits I n W (Began version ∷ es) are = absurd are
slice_fits I n W (Moved version held ∷ es) are = absurd are
slice_fits I n W (Forgot keys ∷ es) are = absurd are

driven_fits : (I : Image) (W : World) (es : List Event) → IsDriven I W es → AreFitting I W es
driven_fits I W [] are = tt
driven_fits I W (Turned a ∷ es) are = (are.0, are.1, driven_fits I (turn_next I W a) es are.2)
driven_fits I W (Opened boot o ∷ es) are = absurd are
driven_fits I W (Asked q o ∷ es) are = absurd are
driven_fits I W (Unread why ∷ es) are = absurd are
driven_fits I W (Began version ∷ es) are = absurd are
driven_fits I W (Moved version held ∷ es) are = absurd are
driven_fits I W (Forgot keys ∷ es) are = absurd are

turns_fit : (I : Image) (slice : Option ℕ) (W : World) (es : List Event) → AreTurns I slice W es → AreFitting I W es
turns_fit I None W es are = driven_fits I W es are
turns_fit I (Some n) W es are = slice_fits I n W es are

-- A job that doesn't run makes none.
none_fit : (I : Image) (W : World) (es : List Event) → is_running W.job ≡ false → AreFitting I W es → es ≡ []
none_fit I W [] still are = refl
none_fit I W (Turned a ∷ es) still are = absurd (cc (still, are.0))
none_fit I W (Opened boot o ∷ es) still are = absurd are
none_fit I W (Asked q o ∷ es) still are = absurd are
none_fit I W (Unread why ∷ es) still are = absurd are
none_fit I W (Began version ∷ es) still are = absurd are
none_fit I W (Moved version held ∷ es) still are = absurd are
none_fit I W (Forgot keys ∷ es) still are = absurd are

-- Some, and then others.
slice_then : (I : Image) (n m : ℕ) (W : World) (es fs : List Event) → IsSlice I n W es → IsSlice I m (after I W es) fs → IsSlice I (n + m) W (es ++ fs)
slice_then I n m W [] fs (inl none) more =
    let same : m ≡ n + m = omega (arith, none) in
    subst (λ (k : ℕ). IsSlice I k W fs) same more
slice_then I n m W [] fs (inr still) more =
    subst (λ (l : List Event). IsSlice I (n + m) W l) (sym (none_fit I W fs still (slice_fits I m W fs more))) (inr still)
slice_then I n m W (Turned a ∷ es) fs are more =
    let some : 1 ≤ n + m = omega (arith, are.0) in
    let left : n - 1 + m ≡ n + m - 1 = omega (arith, are.0) in (
      some,
      are.1,
      are.2,
      subst (λ (k : ℕ). IsSlice I k (turn_next I W a) (es ++ fs)) left (slice_then I (n - 1) m (turn_next I W a) es fs are.3 more),
    )
slice_then I n m W (Opened boot o ∷ es) fs are more = absurd are
slice_then I n m W (Asked q o ∷ es) fs are more = absurd are
slice_then I n m W (Unread why ∷ es) fs are more = absurd are
slice_then I n m W (Began version ∷ es) fs are more = absurd are
slice_then I n m W (Moved version held ∷ es) fs are more = absurd are
slice_then I n m W (Forgot keys ∷ es) fs are more = absurd are

-- A turn, and then others until no job runs.
driven_then : (I : Image) (n : ℕ) (W : World) (es fs : List Event) → IsSlice I n W es → IsDriven I (after I W es) fs → IsDriven I W (es ++ fs)
driven_then I n W [] fs slice more = more
driven_then I n W (Turned a ∷ es) fs are more = (are.1, are.2, driven_then I (n - 1) (turn_next I W a) es fs are.3 more)
driven_then I n W (Opened boot o ∷ es) fs are more = absurd are
driven_then I n W (Asked q o ∷ es) fs are more = absurd are
driven_then I n W (Unread why ∷ es) fs are more = absurd are
driven_then I n W (Began version ∷ es) fs are more = absurd are
driven_then I n W (Moved version held ∷ es) fs are more = absurd are
driven_then I n W (Forgot keys ∷ es) fs are more = absurd are

-- A turn, and then the rest of a slice.
pub turns_more : (I : Image) (left : Option ℕ) (W : World) (es rest : List Event) → left ≢ Some 0 → IsSlice I 1 W es
    → AreTurns I (option_map (λ n. n - 1) left) (after I W es) rest → AreTurns I left W (es ++ rest)
turns_more I None W es rest some one more = driven_then I 1 W es rest one more
turns_more I (Some zero) W es rest some one more = absurd (some refl)
turns_more I (Some (suc n)) W es rest some one more =
    let whole : 1 + (suc n - 1) ≡ suc n = omega arith in
    subst (λ (k : ℕ). IsSlice I k W (es ++ rest)) whole (slice_then I 1 (suc n - 1) W es rest one more)

-- ---- while no client is there

pub idle_none : (while_idle : Bool) (I : Image) (W : World) → AreIdle while_idle I W []
idle_none true I W = (0, inl refl)
idle_none false I W = refl

-- Some, and then others.
pub idle_then : (while_idle : Bool) (I : Image) (W : World) (es fs : List Event) → AreIdle while_idle I W es → AreIdle while_idle I (after I W es) fs
    → AreIdle while_idle I W (es ++ fs)
idle_then true I W es fs first more = (first.0 + more.0, slice_then I first.0 more.0 W es fs first.1 more.1)
idle_then false I W es fs none more = ap (λ (l : List Event). l ++ fs) none ∙ more

-- A turn.
pub idle_turn : (while_idle : Bool) → while_idle ≡ true → (I : Image) (W : World) (es : List Event) → AreTurns I (Some 1) W es → AreIdle while_idle I W es
idle_turn true is I W es turn = (1, turn)
idle_turn false is I W es turn = absurd (cc is)

-- ---- failures

-- A failure of a kind, of which the job has failed then.
module _ (I : Image) (p : Event → Bool) (failed : Job → Bool) (stops : (j : Job) → failed j ≡ true → is_running j ≡ false)
    (fails : (X : World) (a : Answer) → is_running X.job ≡ true → fits X.job a ≡ true → p (Turned a) ≡ true → failed (turn_next I X a).job ≡ true) where
  -- None is among the turns; or one, and then the job ran, and has failed with it.
  abbrev AtMostOne : World → List Event → Type 0
  AtMostOne W es = (count_of p es ≡ 0) ⊎ ((count_of p es ≡ 1) × (is_running W.job ≡ true) × (failed (after I W es).job ≡ true))

  at_most_one : (W : World) (es : List Event) → AreFitting I W es → AtMostOne W es
  at_most_one W [] are = inl refl
  at_most_one W (Turned a ∷ es) are = by (p (Turned a)) refl (at_most_one (turn_next I W a) es are.2) where
    counts : (b : Bool) → p (Turned a) ≡ b → count_of p (Turned a ∷ es) ≡ one_more b (count_of p es)
    counts b is = ap (λ (x : Bool). one_more x (count_of p es)) is

    by : (b : Bool) → p (Turned a) ≡ b → AtMostOne (turn_next I W a) es → AtMostOne W (Turned a ∷ es)
    by true is rest =
        let now : failed (turn_next I W a).job ≡ true = fails W a are.0 are.1 is in
        let none : es ≡ [] = none_fit I (turn_next I W a) es (stops (turn_next I W a).job now) are.2 in
        inr (
          counts true is ∙ ap (λ (l : List Event). count_of p l + 1) none,
          are.0,
          ap (λ (l : List Event). failed (after I (turn_next I W a) l).job) none
              ∙ now,
        )
    by false is (inl none) = inl (counts false is ∙ none)
    by false is (inr one) = inr (counts false is ∙ one.0, are.0, one.2)
  at_most_one W (Opened boot o ∷ es) are = absurd are
  at_most_one W (Asked q o ∷ es) are = absurd are
  at_most_one W (Unread why ∷ es) are = absurd are
  at_most_one W (Began version ∷ es) are = absurd are
  at_most_one W (Moved version held ∷ es) are = absurd are
  at_most_one W (Forgot keys ∷ es) are = absurd are

  -- So the device's count rose by as many.
  rose_by : (W : World) (es : List Event) → AreFitting I W es → (before now : Job) → before ≡ W.job → now ≡ (after I W es).job → (n m : ℕ)
      → HasCause n m (answer_of (is_running before && failed now)) → RoseBy (count_of p es) n m
  rose_by W es are before now before_is now_is n m cause = by (at_most_one W es are) where
    by : AtMostOne W es → RoseBy (count_of p es) n m
    by (inl none) = subst (λ (k : ℕ). RoseBy k n m) (sym none) (none_rose n m cause.later)
    by (inr one) =
        let running : is_running before ≡ true = ap is_running before_is ∙ one.1 in
        let fell : failed now ≡ true = ap failed now_is ∙ one.2 in
        let is : answer_of (is_running before && failed now) ≡ broken
        = ap (λ (b : Bool). answer_of (b && failed now)) running ∙ ap answer_of fell in
        let rose : Rose n m = subst (λ (r : Result Unit (Unit {0})). OnErr r (Rose n m)) is cause.failed in
        subst (λ (k : ℕ). RoseBy k n m) (sym one.0) rose

-- What failed in a slice of turns was counted.
pub turns_counted : (I : Image) (slice : Option ℕ) (W : World) (es : List Event) → AreTurns I slice W es → (before now : Job) → before ≡ W.job
    → now ≡ (after I W es).job → (d d' s s' : ℕ) → HasCause d d' (answer_of (is_running before && failed_with_disk now))
    → HasCause s s' (answer_of (is_running before && failed_to_spawn now)) → AreCounted es (fault_counts d s) (fault_counts d' s')
turns_counted I slice W es are before now before_is now_is d d' s s' disk spawner =
    let fit = turns_fit I slice W es are in
    record {
      disk = rose_by I fails_disk failed_with_disk still_failed
          (λ X a running fitting fault. ap failed_with_disk (turn_fails I X a running fault)) W es fit before now before_is now_is d d' disk;
      spawner = rose_by I fails_to_spawn failed_to_spawn unspawned_stops (λ X a running fitting fault. turn_spawns I X a fitting fault)
          W es fit before now before_is now_is s s' spawner;
    }

-- So it is of the turns of a core.
pub core_counted : (I : Image) (folder : Folder) (W V : World) (slice : Option ℕ) (c now : Core) (r r' : Option (List Run)) (old new : History)
    → Kept I folder W V old (core_state c) → (t : IsTurned I folder W V slice c now r r' old new) → (d d' s s' : ℕ)
    → HasCause d d' (answer_of (is_running (core_state c).job && failed_with_disk (core_state now).job))
    → HasCause s s' (answer_of (is_running (core_state c).job && failed_to_spawn (core_state now).job))
    → AreCounted t.turns.events (fault_counts d s) (fault_counts d' s')
core_counted I folder W V slice c now r r' old new kept t d d' s s' disk spawner =
    turns_counted I slice W t.turns.events t.turns.form (core_state c).job (core_state now).job kept.core.job t.turns.ran.kept.core.job d d' s s' disk spawner
