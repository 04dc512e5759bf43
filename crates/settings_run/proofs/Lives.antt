-- A life is one list of the machine's events, by what the headline says of each run.
use Rattle.std.proofs.Common.{◌≡◌, ◌⊎◌, inl, inr, ⊎_elim, Bool, true, false, List, [], ◌∷◌, ◌++◌, codes}
use Rattle.std.proofs.Common.{Option, Some, IsOk, refl, sym, ◌∙◌, ap, subst, if◌then◌else◌}
use Rattle.std.proofs.lemmas.Bool.{false≢true}
use Rattle.std.proofs.lemmas.List.{append-nil}
use Rattle.outside.specs.Names.{Names}
use Rattle.outside.specs.Told.{BothBy, Moves}
use Rattle.outside.specs.Tree.{Tree, file_in, link_in}
use Rattle.outside.specs.History.{synced, History, begun, next as further, tree_of, IsCrashState, IsSettledOn}
use Rattle.outside.proofs.Crash.{settled_synced, tree_is_crash_state}
use Rattle.outside.proofs.Since.{since_now}
use Rattle.settings_tree.specs.declared.entry.Owed.{Owed}
use Rattle.settings_tree.specs.declared.entry.Owed.TheVariants.{All}
use Rattle.metadata_links.specs.Links.{files_of}
use Rattle.settings_machine.specs.World.{Among, Image, World, Job, Idle, is_etc, due}
use Rattle.settings_machine.specs.Step.{with_job}
use Rattle.settings_machine.specs.Events.{Event, after}
use Rattle.settings_machine.specs.Paid.{RunningPays}
use Rattle.settings_machine.proofs.Lasting.{covered_all}
use Rattle.version_links.specs.Chain.{Resolves, nowhere}
use Rattle.version_links.specs.Names.{store as store_path}
use Rattle.machine_disk.specs.Kept.{Folder, DiskAt}
use Rattle.machine_disk.specs.Ran.{IsWorldOf, StayPaid}
use Rattle.machine_disk.specs.Store.{is_image, bytes_at, HasFiles, HasStore, Recovers}
use Rattle.machine_disk.proofs.Prefixes.{leaves_paid}
use Rattle.machine_disk.proofs.Settled.{in_store, store_same}
use Rattle.command_words.specs.Orders.{Order, Spells, SpellsNone}
use Rattle.settings_cmd.specs.Carried.{Carried, IsMisused}
use Rattle.settings_run.specs.Headline.{LeavesFiles, ChangesBy, FailsToChange, RunsOver, RunsOverAll}
use Rattle.settings_run.specs.Touched.{MayTouch, StaysElsewhere}
use Rattle.settings_run.specs.Life.{Invocation, Ending, Left, Synced, Killed, Crashed, Passage, Ran, Misused, Laid, disk_after, IsLater, MayEnd, IsLaid, IsLife}
use Rattle.settings_run.specs.Life.{Part, world_after, IsRunOf, Keeps, IsPart, IsPaidAnew, LivesBy, Rests, LivesAreRuns}
use Rattle.settings_run.proofs.DoorFaults.{ended_well}
use Rattle.settings_run.proofs.Cuts.{Kept, kept, of_ok}
use Rattle.settings_run.proofs.Instants.{clock_later, since_at}
use Rattle.settings_run.proofs.PaidFiles.{leaves_files}
use Rattle.settings_run.proofs.Rests.{Ends, same_at, settled_at, store_elsewhere, etc_elsewhere, part_stays, part_settled, run_apart}
use Rattle.settings_run.proofs.TreeFiles.{files_in, has_files_in}

-- ---- one run

module _ (order : Order) (I : Image) (folder : Folder) (W : World) (run : Invocation) (rests : Rests I folder W run.old)
    (is : RunsOver order I folder W run.before run.now run.promised.outcome run.old run.new) where
  -- The events that are kept, and what is left of the disk.
  record Kept_of (ending : Ending) : Type 0 where
    events : List Event
    keeps : Keeps order I folder W run is ending events
    leaves : LeavesFiles I W events (tree_of (disk_after run.new ending))

  -- Which paths the run may have changed.
  record Alone : Type 0 where
    events : List Event
    elsewhere : StaysElsewhere order I events run.old run.new

  module _ (ending : Ending) (ends : Ends I folder run.old run.new ending) (k : Kept_of ending) (alone : Alone) where
    abbrev tree : Tree
    tree = tree_of (disk_after run.new ending)

    part : Part
    part = record { events = k.events; etc = files_in is_etc tree }

    abbrev X : World
    X = world_after I W part

    files : HasFiles X.etc tree
    unfolding part
    files = record { each = λ path e. has_files_in is_etc tree path e }

    store : HasStore X tree
    unfolding part
    store = record { directory = k.leaves.recovers.store.directory; resolves = k.leaves.recovers.store.resolves; holds = k.leaves.recovers.store.holds }

    image : (path : Names) → is_image path ≡ true → bytes_at tree path ≡ folder path
    image path e =
        part_stays is_image (MayTouch order I alone.events rests.begins.disk.store.directory)
        (run_apart order I alone.events W (tree_of run.old) rests.begins.disk.store) I folder run.old run.new
        (alone.elsewhere W.version rests.begins.disk.store.directory rests.begins.disk.store.resolves) rests.image ending ends path e
        ∙ rests.begins.disk.image path e

    settled : IsSettledOn is_image (disk_after run.new ending)
    settled = part_settled is_image (MayTouch order I alone.events rests.begins.disk.store.directory)
        (run_apart order I alone.events W (tree_of run.old) rests.begins.disk.store) I folder run.old run.new
        (alone.elsewhere W.version rests.begins.disk.store.directory rests.begins.disk.store.resolves) rests.image ending

    -- A covered file of the kept events is paid in the world of the tree.
    of_tree : IsWorldOf tree X
    of_tree = record { store = store; etc = files; job = refl }

    here : DiskAt I folder X X (disk_after run.new ending) → IsPart order I folder W run ending part × Rests I folder X (disk_after run.new ending)
    unfolding part
    here disk = (
      record {
        is = is;
        keeps = k.keeps;
        etc = λ path e. ⊎_elim
            (λ same. inl (sym (has_files_in is_etc tree path e) ∙ same))
            (λ due. inr due)
            (k.leaves.recovers.etc path e);
        begins = record { disk = disk; idle = refl };
        paid = λ file covered was. k.leaves.stand file covered was X of_tree;
      },
      record { good = rests.good; made = rests.made; begins = record { disk = disk; idle = refl }; image = settled },
    )

  -- The next run begins at the part of this one.
  abbrev Next : Ending → Type 0
  Next ending = (part : Part) × IsPart order I folder W run ending part × Rests I folder (world_after I W part) (disk_after run.new ending)

  next_of : (ending : Ending) → Ends I folder run.old run.new ending → Kept_of ending → Alone → Next ending
  next_of Left at_one k alone =
      let h = here Left at_one k alone (same_at I folder (X Left at_one k alone) run.new (store Left at_one k alone) (files Left at_one k alone) at_one.world
      at_one.disk) in
      (part Left at_one k alone, h.0, h.1)
  next_of Synced ends k alone =
      let h = here Synced ends k alone (settled_at I folder (X Synced ends k alone) (further synced run.new) (store Synced ends k alone)
      (files Synced ends k alone) (settled_synced run.new) (image Synced ends k alone)) in
      (part Synced ends k alone, h.0, h.1)
  next_of (Killed at) ends k alone =
      let h = here (Killed at) ends k alone (settled_at I folder (X (Killed at) ends k alone) (further synced at) (store (Killed at) ends k alone)
      (files (Killed at) ends k alone) (settled_synced at) (image (Killed at) ends k alone)) in
      (part (Killed at) ends k alone, h.0, h.1)
  next_of (Crashed at left) ends k alone =
      let h = here (Crashed at left) ends k alone (settled_at I folder (X (Crashed at left) ends k alone) (begun left) (store (Crashed at left) ends k alone)
      (files (Crashed at left) ends k alone) (λ path node may. may) (image (Crashed at left) ends k alone)) in
      (part (Crashed at left) ends k alone, h.0, h.1)

-- ---- what is kept

module _ (order : Order) (I : Image) (folder : Folder) (W : World) (run : Invocation) (rests : Rests I folder W run.old) where
  module _ (r : IsRunOf order I folder W run) where
    stay_paid : (first rest : List Event) → r.events ≡ first ++ rest → StayPaid I W first
    stay_paid first rest whole file covered was = (r.paid_files.any_prefix first rest whole file covered was).paid

    leaves : (first rest : List Event) → r.events ≡ first ++ rest → (tree : Tree) → Recovers I (after I W first) tree → LeavesFiles I W first tree
    leaves first rest whole tree recovers = leaves_files I W first tree (leaves_paid I rests.good W first tree recovers (stay_paid first rest whole))

    at_end : LeavesFiles I W r.events (tree_of run.new)
    at_end = leaves r.events [] (sym (append-nil r.events)) (tree_of run.new)
        (record { store = r.machine.settings; etc = λ path e. inl (r.machine.files.each path e) })

    run_kept : (ending : Ending) → Ends I folder run.old run.new ending → Kept_of order I folder W run rests (inl r) ending
    run_kept Left ends = record { events = r.events; keeps = refl; leaves = at_end }
    run_kept Synced ends = record { events = r.events; keeps = refl; leaves = at_end }
    run_kept (Killed at) ends =
        let k : Kept order I folder W run r at (tree_of at) ends.0 ends.1 (tree_is_crash_state at) =
        kept order I folder W run r at (tree_of at) ends.0 ends.1 (tree_is_crash_state at) in
        record { events = k.events; keeps = k.cut; leaves = leaves k.events k.cut.rest k.cut.whole (tree_of at) k.recovers }
    run_kept (Crashed at crashed) ends =
        let k : Kept order I folder W run r at crashed ends.0 ends.1 ends.2 = kept order I folder W run r at crashed ends.0 ends.1 ends.2 in
        record { events = k.events; keeps = k.cut; leaves = leaves k.events k.cut.rest k.cut.whole crashed k.recovers }

  module _ (fails : FailsToChange order I folder W run.before run.now run.promised.outcome run.old run.new) where
    abbrev Either : Tree → Type 0
    Either crashed = LeavesFiles I W [] crashed ⊎ ((events : List Event) × ChangesBy order folder W events × LeavesFiles I W events crashed)

    either_kept : (ending : Ending) → Either (tree_of (disk_after run.new ending)) → Kept_of order I folder W run rests (inr fails) ending
    either_kept ending (inl stays) = record { events = []; keeps = inl refl; leaves = stays }
    either_kept ending (inr moves) = record { events = moves.0; keeps = inr moves.1; leaves = moves.2 }

    now : Either (tree_of run.new)
    now = since_now Either run.old run.new fails.any_moment (tree_of run.new) (tree_is_crash_state run.new)

    then_left : (at : History) (crashed : Tree) → IsLater run.old at → IsLater at run.new → IsCrashState at crashed → Either crashed
    then_left at crashed before now left =
        since_at Either (λ c. Unit {0}) run.old at run.new fails.any_moment (clock_later (λ c. Unit {0}) run.old at before) now crashed left

    fails_kept : (ending : Ending) → Ends I folder run.old run.new ending → Kept_of order I folder W run rests (inr fails) ending
    fails_kept Left ends = either_kept Left now
    fails_kept Synced ends = either_kept Synced now
    fails_kept (Killed at) ends = either_kept (Killed at) (then_left at (tree_of at) ends.0 ends.1 (tree_is_crash_state at))
    fails_kept (Crashed at crashed) ends = either_kept (Crashed at crashed) (then_left at crashed ends.0 ends.1 ends.2)

  next_run : (is : RunsOver order I folder W run.before run.now run.promised.outcome run.old run.new) (ending : Ending)
      → Ends I folder run.old run.new ending → Next order I folder W run rests is ending
  next_run (inl r) ending ends = next_of order I folder W run rests (inl r) ending ends (run_kept r ending ends)
      (record { events = r.events; elsewhere = r.elsewhere })
  next_run (inr fails) ending ends = next_of order I folder W run rests (inr fails) ending ends (fails_kept fails ending ends)
      (record { events = []; elsewhere = fails.elsewhere })

-- ---- how a run ends

-- Where a command has ended well, the disk is at one world alone.
ends_of : (order : Order) (I : Image) (folder : Folder) (W : World) (run : Invocation)
    → RunsOver order I folder W run.before run.now run.promised.outcome run.old run.new → (ending : Ending) → MayEnd I folder order run ending
    → Ends I folder run.old run.new ending
ends_of order I folder W run (inl r) Left (inl well) =
    let begins = of_ok run.promised.outcome (r.goes_on.ended_well well.0)
    (ended_well run.promised.outcome run.status run.output_before run.output_now run.promised.ends well.1) in
    record { world = with_job (after I W r.events) Idle; disk = begins.disk }
ends_of order I folder W run (inr fails) Left (inl well) =
    let ok : IsOk run.promised.outcome = ended_well run.promised.outcome run.status run.output_before run.output_now run.promised.ends well.1 in
    let clash : false ≡ true = subst IsOk fails.outcome_is ok in absurd (false≢true clash)
ends_of order I folder W run is Left (inr at_one) = at_one
ends_of order I folder W run is Synced ends = ends
ends_of order I folder W run is (Killed at) ends = ends
ends_of order I folder W run is (Crashed at left) ends = ends

-- ---- what the headline says of a run

pub both_told : (R : History → History → Type 0) (d d' : Option History) (old new : History) → d ≡ Some old → d' ≡ Some new → Moves d d' R → R old new
both_told R d d' old new told told' moves =
    subst (λ (x : Option History). BothBy R (Some old) x) told' (subst (λ (x : Option History). BothBy R x d') told moves.told)

pub runs_over : (order : Order) (I : Image) (folder : Folder) (W : World) (run : Invocation) → Rests I folder W run.old → Spells run.words order
    → RunsOver order I folder W run.before run.now run.promised.outcome run.old run.new
runs_over order I folder W run rests spells =
    both_told (RunsOverAll order run.before run.now run.promised.outcome) run.before.disk run.now.disk run.old run.new run.told_before run.told_now
    (run.promised.runs order spells) I rests.good folder rests.made W rests.begins

-- Where the words order nothing, the disk is as before.
pub unmoved : (run : Invocation) → SpellsNone run.words → run.new ≡ run.old
unmoved run none =
    let same : run.now.disk ≡ run.before.disk = by (run.promised.misused none) in
    let told : Some run.new ≡ Some run.old = sym run.told_now ∙ same ∙ run.told_before in
    cc told
  where
    by : Carried IsMisused run.promised.outcome run.before.disk run.now.disk → run.now.disk ≡ run.before.disk
    by (inl misused) = misused.1
    by (inr memory) = memory.1

-- ---- an image is laid

module _ (J : Image) (below : Folder) (W : World) (old new : History) (laid : IsLaid J below old new) where
  laid_store : HasStore W (tree_of old) → HasStore W (tree_of new)
  laid_store = store_same W (tree_of new) (tree_of old) (record { same = λ path e. laid.elsewhere path (store_elsewhere path e) })

  pub laid_files : HasFiles W.etc (tree_of old) → HasFiles W.etc (tree_of new)
  laid_files files = record { each = λ path e. ap file_in (laid.elsewhere path (etc_elsewhere path e)) ∙ files.each path e }

  pub laid_none : Resolves (tree_of old) nowhere → Resolves (tree_of new) nowhere
  laid_none none =
      let current : Names = store_path (codes "current") in
      ap link_in (laid.elsewhere current (store_elsewhere current (in_store (codes "current") []))) ∙ none

  laid_rests : (I : Image) (folder : Folder) → Rests I folder W old → Rests J below W new
  laid_rests I folder rests = record {
    good = laid.good;
    made = laid.made;
    begins = record {
      disk = settled_at J below W new (laid_store rests.begins.disk.store) (laid_files rests.begins.disk.etc) laid.now laid.image;
      idle = rests.begins.idle;
    };
    image = record { at = λ path e. laid.now path };
  }

  -- Where its text is another, each covered file is due.
  paid_anew : W.job ≡ Idle → IsPaidAnew J W
  paid_anew idle other file covered = record {
    now = inr (subst (λ (o : Owed). Among (files_of J.manifest o) file) (sym all) (covered_all J laid.good file covered));
    job = subst (λ (j : Job). RunningPays J W file j) (sym idle) tt;
  } where
    all : due J W.held ≡ All
    all = ap (λ (b : Bool). if b then W.held.owed else All) other

-- ---- one passage after another

pub lives : (passages : List Passage) (I : Image) (folder : Folder) (W : World) (h : History) → Rests I folder W h → IsLife I folder h passages
    → (parts : List Part) × LivesBy I folder W passages parts
lives [] I folder W h rests life = ([], tt)
lives (Ran run order ending ∷ rest) I folder W h rests life =
    let start : Rests I folder W run.old = subst (Rests I folder W) (sym life.0) rests in
    let is = runs_over order I folder W run start life.1 in
    let here = next_run order I folder W run start is ending (ends_of order I folder W run is ending life.2) in
    let more = lives rest I folder (world_after I W here.0) (disk_after run.new ending) here.2 life.3 in
    (here.0 ∷ more.0, (here.1, more.1))
lives (Misused run ∷ rest) I folder W h rests life =
    let same : run.new ≡ run.old = unmoved run life.1 in
    let more = lives rest I folder W run.new (subst (Rests I folder W) (sym (same ∙ life.0)) rests) life.2 in
    (more.0, (same, more.1))
lives (Laid J below new ∷ rest) I folder W h rests life =
    let more = lives rest J below W new (laid_rests J below W h new life.0 I folder rests) life.1 in
    (more.0, (paid_anew J below W h new life.0 rests.begins.idle, more.1))

pub lives_are_runs : LivesAreRuns
lives_are_runs I folder W h passages rests life = lives passages I folder W h rests life
