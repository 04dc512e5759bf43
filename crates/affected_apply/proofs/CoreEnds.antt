-- The end of a job is one event of the machine.
use Rattle.std.proofs.Common.{◌≡◌, ℕ, Bool, true, false, ◌||◌, List, [], ◌∷◌, Option, Ok, Err, refl, sym, ◌∙◌, ap, subst}
use Rattle.outside.specs.Names.{Names}
use Rattle.outside.specs.History.{History, next as then, synced, tree_of, IsSettled}
use Rattle.outside.specs.Spawner.{Run}
use Rattle.outside.specs.Told.{Moves}
use Rattle.outside.specs.declared.disk_error.Failed.{Failed}
use Rattle.outside.proofs.Crash.{settled_synced}
use Rattle.outside.proofs.Told.{moves_map}
use Rattle.commit_journal.specs.Entries.{Changes}
use Rattle.commit_journal.specs.Files.{files_below}
use Rattle.commit_journal.specs.Change.{Commits, files_before, files_after}
use Rattle.fs_datastore.specs.Stands.{Stands}
use Rattle.fs_datastore.specs.Batches.{Follows}
use Rattle.settings_tree.specs.declared.entry.Owed.TheVariants as owed
use Rattle.settings_tree.specs.declared.held.Held.{Held}
use Rattle.pending_tx.proofs.Drops.{names_none, tells_none}
use Rattle.metadata_links.specs.declared.manifest.Manifest.{Manifest}
use Rattle.settings_machine.specs.World.{Image, World, Work, Job, Running}
use Rattle.settings_machine.specs.World as machine
use Rattle.settings_machine.specs.declared.cause.Cause.TheVariants as cause
use Rattle.settings_machine.specs.Step.{Command, Answer, Fine, NoRoom, OwedFault, after_files_turn, work_turn, job_turn, last_turn, fits_work, fits, turn_next}
use Rattle.settings_machine.specs.Events.{Turned, next}
use Rattle.settings_machine.specs.Paid.{IsGood}
use Rattle.machine_disk.specs.Store.{IsReadyAt}
use Rattle.machine_disk.specs.Kept.{Folder, CoreState, Kept}
use Rattle.machine_disk.specs.Ran.{Ran}
use Rattle.machine_disk.proofs.Runs.{ran_more}
use Rattle.machine_disk.proofs.Turning.{ran_synced}
use Rattle.machine_disk.proofs.Ending.{ran_done, ran_not_done, ran_no_room}
use Rattle.affected_apply.specs.Turning.{AllDone}
use Rattle.store_open.specs.Laws.{HoldsImage}
use Rattle.affected_apply.specs.declared.store.Store.{Store}
use Rattle.affected_apply.specs.Jobs.{job_after, failed_with_disk}
use Rattle.affected_apply.specs.Turned.{noted_change, core_at, IsEvent, IsTurn, IsLastEvent, Ends}
use Rattle.affected_apply.proofs.Running.{core_same, or_calm, calm, job_is, held_is, fits_turn}

module _ (I : Image) (good : IsGood I) (folder : Folder) (W V : World) (old new : History) (before : CoreState) (kept : Kept I folder W V old before) (w : Work)
    (running : before.job ≡ Running w)
    (no_file : w.files ≡ []) (no_command : w.commands ≡ []) where
  is_last : (a : Answer) → turn_next I W a ≡ last_turn I W w a
  unfolding turn_next
  is_last a = ap (λ (j : Job). job_turn I W j a) (job_is I folder W V old before kept w running)
      ∙ ap (λ (l : List (List ℕ)). work_turn I W l w a) no_file ∙ ap (λ (l : List Command). after_files_turn I W l w a) no_command

  none_failed : before.faulted ≡ false
  none_failed = calm I folder W V old before kept w running

  holds : W.held ≡ before.held
  holds = held_is I folder W V old before kept w running

  runs_world : W.job ≡ Running w
  runs_world = job_is I folder W V old before kept w running

  -- What fits the end of a job.
  fits_end : (a : Answer) → fits_work a [] [] ≡ true → fits W.job a ≡ true
  fits_end a is = fits_turn I folder W V old before kept w running a
      (ap (λ (l : List (List ℕ)). fits_work a l w.commands) no_file ∙ ap (λ (l : List Command). fits_work a [] l) no_command ∙ is)

  -- It ran out of memory before the change was begun.
  ended_no_room : IsLastEvent I folder W V before (record { place = before.place; held = before.held; job = machine.Failed cause.Memory; faulted = false }) old
      old
  ended_no_room = record {
    answer = NoRoom;
    fitting = fits_end NoRoom refl;
    ran = ran_no_room I good folder W V old before kept none_failed w runs_world no_file no_command;
    runs = ap (λ (N : World). N.runs) (is_last NoRoom);
  }

  module _ (settled : IsSettled old) (batch : Changes) (dir_is : batch.dir ≡ before.place.directory)
      (follows : Follows (noted_change w.since) batch.entries) where
    stands_before : Stands (files_before batch old) W.held 2
    stands_before =
        let r : IsReadyAt before.place before.held old = kept.core.ready none_failed in
        subst (λ (h : Held). Stands (files_before batch old) h 2) (sym holds)
        (subst (λ (d : Names). Stands (files_below d (tree_of old)) before.held 2) (sym dir_is) r.stands)

    stands : Stands (files_after batch old) (record W.held { owed = owed.Keys w.since }) 2
    stands =
        let s : Stands (files_before batch old) W.held 2 = stands_before in
        follows.stands (files_before batch old) W.held 2 s (record { live = s.content.rule; pending = s.pending.rule })
        (names_none W.held (noted_change w.since) refl)
        (tells_none W.held (noted_change w.since) (λ k. refl))

    -- The noted keys are stored.
    ended : Commits {E = Failed} batch (Ok tt) old new
        → IsLastEvent I folder W V before
        (record { place = before.place; held = record W.held { owed = owed.Keys w.since }; job = (next I W (Turned (Fine 0))).job; faulted = false }) old new
    ended commits = record {
      answer = Fine 0;
      fitting = fits_end (Fine 0) refl;
      ran = ran_done I good folder W V old new before kept none_failed settled w runs_world no_file no_command batch dir_is stands 0 commits;
      runs = ap (λ (N : World). N.runs) (is_last (Fine 0));
    }

    -- The disk failed, and they are stored or not.
    ended_failing : (fault : Failed) → Commits batch (Err fault) old new
        → IsLastEvent I folder W V before (record { place = before.place; held = before.held; job = machine.Failed cause.Disk; faulted = true }) old new
    ended_failing fault commits =
        let r = ran_not_done I good folder W V old new before kept none_failed settled w runs_world no_file no_command batch dir_is stands fault before.held
        commits in
        record {
          answer = OwedFault r.0;
          fitting = fits_end (OwedFault r.0) refl;
          ran = subst (λ (j : Job). Ran I folder W V (Turned (OwedFault r.0) ∷ []) old new before
              (record { place = before.place; held = before.held; job = j; faulted = true }))
              (ap (λ (N : World). N.job) (is_last (OwedFault r.0))) r.1;
          runs = ap (λ (N : World). N.runs) (is_last (OwedFault r.0));
        }

-- The same end, with the core in other words.
last_to : (I : Image) (folder : Folder) (W V : World) (before x y : CoreState) (old new : History) → x ≡ y → IsLastEvent I folder W V before x old new
    → IsLastEvent I folder W V before y old new
last_to I folder W V before x y old new same = subst (λ (c : CoreState). IsLastEvent I folder W V before c old new) same

module _ (s : Store) (held : Held) (w : Work) (no_file : w.files ≡ []) (no_command : w.commands ≡ []) where
  module _ (batch : Changes) (dir_is : batch.dir ≡ s.place.now.directory) (follows : Follows (noted_change w.since) batch.entries) (old new : History) where
    -- The core's end, where the noted keys are stored.
    pub stored_ends : (held_after : Held) (left : Job) → held_after ≡ record held { owed = owed.Keys w.since } → left ≡ job_after s.image.now.manifest w
        → failed_with_disk left ≡ false
        → Commits {E = Failed} batch (Ok tt) old new → Ends s held w held_after left old new
    stored_ends held_after left held_same left_is fine commits = record { event = by } where
      by : (I : Image) → IsGood I → HoldsImage I s.image.now → (folder : Folder) (faulted : Bool) (W V : World) → IsSettled old
          → Kept I folder W V old (core_at s held (Running w) faulted)
          → IsLastEvent I folder W V (core_at s held (Running w) faulted) (core_at s held_after left (faulted || failed_with_disk left)) old new
      by I good of folder faulted W V settled kept =
          let before = core_at s held (Running w) faulted in
          last_to I folder W V before _ (core_at s held_after left (faulted || failed_with_disk left)) old new
          (core_same _ (core_at s held_after left (faulted || failed_with_disk left)) refl
          (ap (λ (h : Held). let k : Held = record h { owed = owed.Keys w.since } in k) (holds I good folder W V old new before kept w refl no_file no_command)
          ∙ sym held_same)
          (ap (λ (N : World). N.job) (is_last I good folder W V old new before kept w refl no_file no_command (Fine 0))
          ∙ ap (λ (m : Manifest). job_after m w) (sym of.manifest_is) ∙ sym left_is)
          (sym fine ∙ or_calm faulted (failed_with_disk left) (none_failed I good folder W V old new before kept w refl no_file no_command)))
          (ended I good folder W V old new before kept w refl no_file no_command settled batch dir_is follows commits)

    -- Where the disk failed.
    pub failed_ends : (fault : Failed) → Commits batch (Err fault) old new → Ends s held w held (machine.Failed cause.Disk) old new
    failed_ends fault commits = record { event = by } where
      by : (I : Image) → IsGood I → HoldsImage I s.image.now → (folder : Folder) (faulted : Bool) (W V : World) → IsSettled old
          → Kept I folder W V old (core_at s held (Running w) faulted)
          → IsLastEvent I folder W V (core_at s held (Running w) faulted) (core_at s held (machine.Failed cause.Disk) (faulted || true)) old new
      by I good of folder faulted W V settled kept =
          let before = core_at s held (Running w) faulted in
          last_to I folder W V before _ (core_at s held (machine.Failed cause.Disk) (faulted || true)) old new
          (core_same _ (core_at s held (machine.Failed cause.Disk) (faulted || true)) refl refl refl
          (or_calm faulted true (none_failed I good folder W V old new before kept w refl no_file no_command)))
          (ended_failing I good folder W V old new before kept w refl no_file no_command settled batch dir_is follows fault commits)

  -- Where it ran out of memory.
  pub memory_ends : (old : History) → Ends s held w held (machine.Failed cause.Memory) old old
  memory_ends old = record { event = by } where
    by : (I : Image) → IsGood I → HoldsImage I s.image.now → (folder : Folder) (faulted : Bool) (W V : World) → IsSettled old
        → Kept I folder W V old (core_at s held (Running w) faulted)
        → IsLastEvent I folder W V (core_at s held (Running w) faulted) (core_at s held (machine.Failed cause.Memory) (faulted || false)) old old
    by I good of folder faulted W V settled kept =
        let before = core_at s held (Running w) faulted in
        last_to I folder W V before _ (core_at s held (machine.Failed cause.Memory) (faulted || false)) old old
        (core_same _ (core_at s held (machine.Failed cause.Memory) (faulted || false)) refl refl refl
        (or_calm faulted false (none_failed I good folder W V old old before kept w refl no_file no_command)))
        (ended_no_room I good folder W V old old before kept w refl no_file no_command)

-- A sync, and then the end of the job.
pub synced_end : (s : Store) (held held_after : Held) (w w' : Work) (left : Job) (ran_before ran_after : Option (List Run)) → AllDone w w'
    → Moves ran_before ran_after (λ (r t : List Run). t ≡ r)
    → (old mid new : History) → ((I : Image) → HoldsImage I s.image.now → mid ≡ then synced old) → Ends s held w' held_after left mid new
    → IsTurn s held (Running w) held_after left ran_before ran_after old new
synced_end s held held_after w w' left ran_before ran_after done none old mid new synced_by ends = record { event = by } where
  by : (I : Image) → IsGood I → HoldsImage I s.image.now → (folder : Folder) (faulted : Bool) (W V : World)
      → Kept I folder W V old (core_at s held (Running w) faulted)
      → IsEvent I folder W V (core_at s held (Running w) faulted) (core_at s held_after left (faulted || failed_with_disk left)) ran_before ran_after old new
  by I good of folder faulted W V kept =
      let before = core_at s held (Running w) faulted in
      let now = core_at s held_after left (faulted || failed_with_disk left) in
      let synced' : mid ≡ then synced old = synced_by I of in
      let one : Ran I folder W V [] old mid before before = subst (λ (h : History). Ran I folder W V [] old h before before) (sym synced')
      (ran_synced I folder W V old before kept) in
      let of_work : Ends s held w held_after left mid new = subst (λ (x : Work). Ends s held x held_after left mid new) done.same ends in
      let e : IsLastEvent I folder W one.other before now mid new = of_work.event I good of folder faulted W one.other
      (subst IsSettled (sym synced') (settled_synced old)) one.kept in
      record {
        answer = e.answer;
        fitting = e.fitting;
        ran = ran_more I folder W V [] (Turned e.answer ∷ []) old mid new before before now one e.ran;
        runs = moves_map (λ r t same is. same ∙ is ∙ sym e.runs) none;
      }
