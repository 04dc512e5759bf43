-- A life that begins without a store.
use Rattle.std.proofs.Common.{◌≡◌, ◌⊎◌, inl, inr, ◌≤◌, ⊎_elim, true, List, [], ◌∷◌, Ok, Err, OnOk, refl, sym, ◌∙◌, subst}
use Rattle.outside.specs.Names.{Names}
use Rattle.outside.specs.Tree.{Tree}
use Rattle.outside.specs.History.{History, begun, next as further, tree_of, synced, IsCrashState}
use Rattle.outside.specs.Since.{EachSince, clock}
use Rattle.outside.proofs.Crash.{settled_state, settled_synced, tree_is_crash_state}
use Rattle.outside.proofs.Since.{since_now, since_start}
use Rattle.version_links.specs.Chain.{Resolves, nowhere}
use Rattle.version_links.specs.declared.version.Version.{Version}
use Rattle.settings_machine.specs.World.{Image, World, is_etc}
use Rattle.settings_tree.specs.declared.held.Held.{Held}
use Rattle.settings_machine.specs.Events.{Began, Moved, new_held, next}
use Rattle.settings_machine.proofs.PaidLaws.{beginnings_pay, migrations_pay}
use Rattle.machine_disk.specs.Kept.{Folder, DiskAt}
use Rattle.machine_disk.specs.Store.{is_store, is_image, bytes_at, HasFiles, HasStore, Recovers}
use Rattle.machine_disk.proofs.Whole.{not_nowhere}
use Rattle.store_events.specs.Laws.{IsBeginning, HasBegun}
use Rattle.command_outcome.specs.Ends.{Outcome}
use Rattle.command_words.specs.Orders.{Order, Spells, init, serve, set, get, apply, verify, check, migrate, prune, load, generate, user_data}
use Rattle.command_words.specs.Orders.{dump, restore, forget}
use Rattle.settings_run.specs.Headline.{BeginsStore, RestoresDump, RestoresStore}
use Rattle.settings_run.specs.Life.{Invocation, Ending, Left, Synced, Killed, Crashed, Passage, Ran, Misused, Laid, disk_after, IsLater, IsAtOne}
use Rattle.settings_run.specs.Life.{MayEnd, IsLife, Part, Rests, IsEmpty, IsToBegin, BeginsStores, HasBegunStore, HasNoStore}
use Rattle.settings_run.specs.Life.{LivesFromNone, NewLivesAreRuns}
use Rattle.settings_run.proofs.Beginnings.{unbegun}
use Rattle.settings_run.proofs.DoorFaults.{ended_well}
use Rattle.settings_run.proofs.Cuts.{of_ok}
use Rattle.settings_run.proofs.Instants.{clock_later, same_moment, since_at}
use Rattle.settings_run.proofs.Lives.{lives, both_told, unmoved, laid_files, laid_none}
use Rattle.settings_run.proofs.Rests.{Ends, same_at, settled_at, image_in_store, etc_in_store, part_stays, part_settled}

-- ---- one beginning

-- The disk is at one world alone by another account of the image's files.
same_image : (I : Image) (folder : Folder) (X : World) (h : History) (other : Folder)
    → ((path : Names) → is_image path ≡ true → other path ≡ folder path) → DiskAt I other X X h → IsAtOne I folder h
same_image I folder X h other same disk = record {
  world = X;
  disk = record {
    store = disk.store;
    etc = disk.etc;
    image = λ path e. disk.image path e ∙ same path e;
    crash_states = disk.crash_states;
    same_etc = disk.same_etc;
    unsettled = disk.unsettled;
  };
}

-- What each crash state and the end of a run have, the disk has with which the next one begins.
left_at : (I : Image) (folder : Folder) (run : Invocation) (P : Tree → Type 0) → EachSince P run.old run.new → (ending : Ending)
    → Ends I folder run.old run.new ending → P (tree_of (disk_after run.new ending))
left_at I folder run P each Left ends = since_now P run.old run.new each (tree_of run.new) (tree_is_crash_state run.new)
left_at I folder run P each Synced ends = since_now P run.old run.new each (tree_of run.new) (tree_is_crash_state run.new)
left_at I folder run P each (Killed at) ends =
    since_at P (λ c. Unit {0}) run.old at run.new each (clock_later (λ c. Unit {0}) run.old at ends.0) ends.1 (tree_of at) (tree_is_crash_state at)
left_at I folder run P each (Crashed at crashed) ends =
    since_at P (λ c. Unit {0}) run.old at run.new each (clock_later (λ c. Unit {0}) run.old at ends.0) ends.1 crashed ends.2

module _ (I : Image) (folder : Folder) (W : World) (run : Invocation) (empty : IsEmpty I folder W run.old) (version : Version) (held : Held)
    (begins : BeginsStore (Moved version held) run.promised.outcome run.old run.new) where
  abbrev N : World
  N = next I W (Moved version held)

  beginning : IsBeginning I N run.old run.new
  beginning = (begins.each I empty.good W empty.bare).0

  abbrev Either : Tree → Type 0
  Either c = Resolves c nowhere ⊎ Recovers I N c

  either : (ending : Ending) → Ends I folder run.old run.new ending → Either (tree_of (disk_after run.new ending))
  either ending ends = left_at I folder run Either beginning.any_moment ending ends

  files : (ending : Ending) → Ends I folder run.old run.new ending → HasFiles W.etc (tree_of (disk_after run.new ending))
  files ending ends = record {
    each = λ path e.
        part_stays is_etc (λ p. is_store p ≡ true) (λ p. etc_in_store p) I folder run.old run.new begins.elsewhere
        (record { at = λ p inside. empty.bare.settled p }) ending ends path e ∙ empty.bare.etc.each path e;
  }

  image : (ending : Ending) → Ends I folder run.old run.new ending → (path : Names) → is_image path ≡ true
      → bytes_at (tree_of (disk_after run.new ending)) path ≡ folder path
  image ending ends path e =
      part_stays is_image (λ p. is_store p ≡ true) (λ p. image_in_store p) I folder run.old run.new begins.elsewhere
      (record { at = λ p inside. empty.bare.settled p }) ending ends path e ∙ empty.image path e

  disk : (ending : Ending) → Ends I folder run.old run.new ending → HasStore N (tree_of (disk_after run.new ending))
      → DiskAt I folder N N (disk_after run.new ending)
  disk Left at_one store = same_at I folder N run.new store (files Left at_one) at_one.world at_one.disk
  disk Synced ends store = settled_at I folder N (further synced run.new) store (files Synced ends) (settled_synced run.new) (image Synced ends)
  disk (Killed at) ends store =
      settled_at I folder N (further synced at) store (files (Killed at) ends) (settled_synced at) (image (Killed at) ends)
  disk (Crashed at left) ends store =
      settled_at I folder N (begun left) store (files (Crashed at left) ends) (λ path node may. may) (image (Crashed at left) ends)

  starts : (ending : Ending) → Ends I folder run.old run.new ending → HasStore N (tree_of (disk_after run.new ending))
      → Rests I folder N (disk_after run.new ending)
  starts ending ends store = record {
    good = empty.good;
    made = empty.made;
    begins = record { disk = disk ending ends store; idle = refl };
    image = part_settled is_image (λ p. is_store p ≡ true) (λ p. image_in_store p) I folder run.old run.new begins.elsewhere
        (record { at = λ p inside. empty.bare.settled p }) ending;
  }

  -- Where it had ended well by then, a store is there.
  at_end : (at : History) (c : Tree) → IsLater at run.new → clock run.new ≤ clock at → IsCrashState at c → Resolves c nowhere → OnOk run.promised.outcome ⊥
  at_end at c now le left none = by run.promised.outcome (begins.each I empty.good W empty.bare).1 where
    by : (o : Outcome) → OnOk o (HasBegun I (bytes_at (tree_of run.old)) N run.new) → OnOk o ⊥
    by (Ok line) has =
        let same : run.new ≡ at = same_moment (λ t. Unit {0}) at run.new now le in
        let recovers : Recovers I N c = has.at_exit c (subst (λ (h : History). IsCrashState h c) (sym same) left) in
        not_nowhere N c recovers.store none
    by (Err e) has = tt

  -- No store is there still.
  still : (ending : Ending) → Ends I folder run.old run.new ending → Resolves (tree_of (disk_after run.new ending)) nowhere
      → HasNoStore run ending × IsEmpty I folder W (disk_after run.new ending)
  still Left at_one none = absurd (not_nowhere at_one.world (tree_of run.new) at_one.disk.store none)
  still Synced ends none = (
    record { none = none; fails = λ same. by run.promised.outcome (begins.each I empty.good W empty.bare).1 },
    record {
      good = empty.good;
      made = empty.made;
      bare = record { none = none; etc = files Synced ends; settled = settled_synced run.new };
      image = image Synced ends;
    },
  ) where
    by : (o : Outcome) → OnOk o (HasBegun I (bytes_at (tree_of run.old)) N run.new) → OnOk o ⊥
    by (Ok line) has = not_nowhere N (tree_of run.new) has.disk.store none
    by (Err e) has = tt
  still (Killed at) ends none = (
    record { none = none; fails = λ le. at_end at (tree_of at) ends.1 le (tree_is_crash_state at) none },
    record {
      good = empty.good;
      made = empty.made;
      bare = record { none = none; etc = files (Killed at) ends; settled = settled_synced at };
      image = image (Killed at) ends;
    },
  )
  still (Crashed at left) ends none = (
    record { none = none; fails = λ le. at_end at left ends.1 le ends.2 none },
    record {
      good = empty.good;
      made = empty.made;
      bare = record { none = none; etc = files (Crashed at left) ends; settled = λ path node may. may };
      image = image (Crashed at left) ends;
    },
  )

  -- Where it has ended well, the disk is at the new store's world alone.
  ends_of : (order : Order) (ending : Ending) → MayEnd I folder order run ending → Ends I folder run.old run.new ending
  ends_of order Left (inl well) =
      let has = of_ok run.promised.outcome (begins.each I empty.good W empty.bare).1
      (ended_well run.promised.outcome run.status run.output_before run.output_now run.promised.ends well.1) in
      same_image I folder N run.new (bytes_at (tree_of run.old)) empty.image has.disk
  ends_of order Left (inr at_one) = at_one
  ends_of order Synced ends = ends
  ends_of order (Killed at) ends = ends
  ends_of order (Crashed at left) ends = ends

  -- What it comes to: there is still no store, or the next run may begin at the new one.
  abbrev ComesTo : Ending → Type 0
  ComesTo ending = (HasNoStore run ending × IsEmpty I folder W (disk_after run.new ending)) ⊎ Rests I folder N (disk_after run.new ending)

  comes_to : (order : Order) (ending : Ending) → MayEnd I folder order run ending → ComesTo ending
  comes_to order ending may =
      let ends = ends_of order ending may in
      ⊎_elim (λ none. inl (still ending ends none)) (λ recovers. inr (starts ending ends recovers.store)) (either ending ends)

-- ---- one run

-- What a run comes to: there is still no store, or it has begun one, at which the next run may begin.
abbrev Starts : Image → Folder → World → Invocation → Order → Ending → Type 0
Starts I folder W run order ending = (HasNoStore run ending × IsEmpty I folder W (disk_after run.new ending))
    ⊎ ((begun : HasBegunStore I folder W run order ending) × Rests I folder (next I W begun.event) (disk_after run.new ending))

module _ (I : Image) (folder : Folder) (W : World) (run : Invocation) (empty : IsEmpty I folder W run.old) (ending : Ending) where
  -- A store that holds nothing is begun.
  init_starts : (version : Version) → Spells run.words (init version) → MayEnd I folder (init version) run ending
      → Starts I folder W run (init version) ending
  init_starts version spells may =
      let begins : BeginsStore (Began version) run.promised.outcome run.old run.new =
      both_told (BeginsStore (Began version) run.promised.outcome) run.before.disk run.now.disk run.old run.new run.told_before run.told_now
      (run.promised.begins version spells) in
      ⊎_elim
      (λ none. inl none)
      (λ now. inr (record { event = Began version; is = refl; begins = now.begins; paid = beginnings_pay I empty.good W version }, now))
      (comes_to I folder W run empty version new_held (record { each = begins.each; elsewhere = begins.elsewhere }) (init version) ending may)

  -- A store that holds what a dump holds is begun.
  dump_starts : (path : Names) → RestoresDump path run.promised.outcome run.old run.new → MayEnd I folder (restore path) run ending
      → Starts I folder W run (restore path) ending
  dump_starts path restores may = ⊎_elim
      (λ none. inl none)
      (λ now. inr (
        record {
          event = Moved restores.version restores.held;
          is = record {
            text = restores.text;
            version = restores.version;
            held = restores.held;
            there = restores.there;
            spelled = restores.spelled;
            event_is = refl;
          };
          begins = now.begins;
          paid = migrations_pay I empty.good W restores.version restores.held;
        },
        now,
      ))
      (comes_to I folder W run empty restores.version restores.held restores.begins (restore path) ending may)

  -- None is begun, and the disk is as before.
  none_starts : (path : Names) → OnOk run.promised.outcome ⊥ → run.new ≡ run.old → MayEnd I folder (restore path) run ending
      → Starts I folder W run (restore path) ending
  none_starts path ends same may =
      let begins : BeginsStore (Moved W.version W.held) run.promised.outcome run.old run.new =
      subst (λ (h : History). BeginsStore (Moved W.version W.held) run.promised.outcome run.old h) (sym same)
      (unbegun W.version W.held run.promised.outcome run.old ends) in
      let over = ends_of I folder W run empty W.version W.held begins (restore path) ending may in
      inl (still I folder W run empty W.version W.held begins ending over (left_at I folder run (λ c. Resolves c nowhere) bare ending over))
    where
      bare : EachSince (λ c. Resolves c nowhere) run.old run.new
      bare = subst (EachSince (λ c. Resolves c nowhere) run.old) (sym same)
          (since_start (λ c. Resolves c nowhere) run.old
          (λ c left. subst (λ (t : Tree). Resolves t nowhere) (sym (settled_state run.old empty.bare.settled c left)) empty.bare.none))

  starts_by : (order : Order) → IsToBegin order → Spells run.words order → MayEnd I folder order run ending → Starts I folder W run order ending
  starts_by (init version) begins spells may = init_starts version spells may
  starts_by (restore path) begins spells may = ⊎_elim
      (λ restores. dump_starts path restores may)
      (λ none. none_starts path none.0 none.1 may)
      (both_told (RestoresStore path run.promised.outcome) run.before.disk run.now.disk run.old run.new run.told_before run.told_now
      (run.promised.restores path spells))
  starts_by (serve boot slice while_idle connections quiet) begins spells may = absurd begins
  starts_by (set pairs) begins spells may = absurd begins
  starts_by (get keys) begins spells may = absurd begins
  starts_by (apply all) begins spells may = absurd begins
  starts_by verify begins spells may = absurd begins
  starts_by (check store) begins spells may = absurd begins
  starts_by (migrate to) begins spells may = absurd begins
  starts_by prune begins spells may = absurd begins
  starts_by (load count) begins spells may = absurd begins
  starts_by generate begins spells may = absurd begins
  starts_by (user_data path) begins spells may = absurd begins
  starts_by dump begins spells may = absurd begins
  starts_by (forget keys) begins spells may = absurd begins

-- ---- one passage after another

pub new_lives_are_runs : NewLivesAreRuns
new_lives_are_runs I folder W h passages empty life begin = from_none passages I folder W h empty life begin where
  from_none : (passages : List Passage) (I : Image) (folder : Folder) (W : World) (h : History) → IsEmpty I folder W h → IsLife I folder h passages
      → BeginsStores passages → (parts : List Part) × LivesFromNone I folder W passages parts
  from_none [] I folder W h empty life begin = ([], refl)
  from_none (Ran run order ending ∷ rest) I folder W h empty life begin =
      let start : IsEmpty I folder W run.old = subst (IsEmpty I folder W) (sym life.0) empty in
      ⊎_elim
      (λ none. let more = from_none rest I folder W (disk_after run.new ending) none.1 life.3 begin.1 in (more.0, inl (none.0, more.1)))
      (λ has. let more = lives rest I folder (next I W has.0.event) (disk_after run.new ending) has.1 life.3 in (more.0, inr (has.0, more.1)))
      (starts_by I folder W run start ending order (begin.0 start.bare.none) life.1 life.2)
  from_none (Misused run ∷ rest) I folder W h empty life begin =
      let same : run.new ≡ run.old = unmoved run life.1 in
      let more = from_none rest I folder W run.new (subst (IsEmpty I folder W) (sym (same ∙ life.0)) empty) life.2 begin in
      (more.0, (same, more.1))
  from_none (Laid J below new ∷ rest) I folder W h empty life begin =
      let more = from_none rest J below W new (record {
        good = life.0.good;
        made = life.0.made;
        bare = record {
          none = laid_none J below W h new life.0 empty.bare.none;
          etc = laid_files J below W h new life.0 empty.bare.etc;
          settled = life.0.now;
        };
        image = life.0.image;
      }) life.1 begin in
      (more.0, more.1)
