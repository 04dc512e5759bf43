-- What a change of the store, that a journal makes at once or not at all, makes of the machine's run.
use Rattle.std.proofs.Common.{◌≡◌, ◌⊎◌, inl, inr, ⊎_elim, true, [], ◌∷◌, Option, refl, sym}
use Rattle.std.proofs.Common.{◌∙◌, ap, subst}
use Rattle.std.specs.FinMap.{get}
use Rattle.outside.specs.Names.{Names}
use Rattle.outside.specs.Tree.{Node, Tree, node_at, file_in}
use Rattle.outside.specs.History.{History, tree_of, MayLeave, IsSettled}
use Rattle.outside.specs.Since.{EachSince, IsAtOrSync, Touches}
use Rattle.outside.proofs.Crash.{settled_state, may_leave_now}
use Rattle.outside.proofs.Goes.{may_leave_untouched, since_goes}
use Rattle.outside.proofs.Since.{since_both, since_map, since_now}
use Rattle.commit_journal.specs.Entries.{Changes}
use Rattle.commit_journal.specs.Files.{Files as JournalFiles, files_below, IsBelow}
use Rattle.commit_journal.specs.Stands.{TreeStandsFor, ChangesOnlyBelow, IsReady}
use Rattle.commit_journal.specs.Change.{files_before, files_after, StandsForEither, IsMade, IsNotBegun}
use Rattle.fs_datastore.specs.Stands.{Stands}
use Rattle.version_links.specs.Chain.{Resolves, found}
use Rattle.version_links.specs.Names.{store}
use Rattle.version_links.specs.declared.version.Version.{Version}
use Rattle.settings_tree.specs.declared.held.Held.{Held}
use Rattle.settings_machine.specs.World.{Image, World, Files, is_etc}
use Rattle.settings_machine.specs.Events.{Event, next}
use Rattle.settings_machine.specs.Paid.{IsDuePath}
use Rattle.version_links.specs.declared.chain.Place.{Place}
use Rattle.machine_disk.specs.Store.{is_image, bytes_at, HoldsIn, HasStore, Recovers, IsReadyAt}
use Rattle.machine_disk.specs.Kept.{Folder, DiskAt}
use Rattle.machine_disk.specs.Touched.{TouchesOwn}
use Rattle.machine_disk.specs.Ran.{OnTheWay}
use Rattle.machine_disk.proofs.Meanings.{IsCores, cores}
use Rattle.machine_disk.proofs.Settled.{in_store, SameLinks, resolves_same}
use Rattle.machine_disk.proofs.Apart.{IsApart, dir_apart}
use Rattle.machine_disk.proofs.Touched.{own_below}

-- ---- the step of a world that a change of the store is

-- N is W with this held, but for the job: no configuration file changes, and those that a crash may change are due in both.
pub record IsStoreStep (I : Image) (W N : World) (held : Held) (h : History) : Type 0 where
  pub version : N.version ≡ W.version
  pub format : N.format ≡ W.format
  pub held_is : N.held ≡ held
  pub etc : N.etc ≡ W.etc
  pub clear : (path : Names) (node : Option Node) → is_etc path ≡ true → MayLeave h path node → (file_in node ≡ get W.etc path)
      ⊎ (IsDuePath I W.held path × IsDuePath I N.held path)

-- The change of an event is made on the disk.
pub record ChangeMade (I : Image) (folder : Folder) (W V : World) (e : Event) (place : Place) (held : Held) (old new : History) : Type 0 where
  pub disk : DiskAt I folder (next I W e) (next I W e) new
  pub ready : IsReadyAt place held new
  pub moments : EachSince (OnTheWay I W V (e ∷ [])) old new
  pub touches : TouchesOwn I (e ∷ []) old new

-- The change failed: the disk is at the world after the event, and a crash state may have the store from before.
pub record ChangeFailed (I : Image) (folder : Folder) (W V : World) (e : Event) (old new : History) : Type 0 where
  pub disk : DiskAt I folder (next I W e) W new
  pub moments : EachSince (OnTheWay I W V (e ∷ [])) old new
  pub touches : TouchesOwn I (e ∷ []) old new

module _ (I : Image) (folder : Folder) (W V : World) (old new : History) (disk : DiskAt I folder W V old) (place : Place) (was : Held)
    (ready : IsReadyAt place was old)
    (batch : Changes) (dir_is : batch.dir ≡ place.directory) (held : Held) (after_stands : Stands (files_after batch old) held 2) where
  core : IsCores W place was
  core = cores W place was old disk.store ready

  -- ---- each crash state since the start of the change

  apart : IsApart batch.dir
  apart = subst IsApart (sym dir_is) (dir_apart (tree_of old) place.version place.directory ready.resolves)

  -- Elsewhere a crash state has what one at the start may have.
  abbrev IsOldElsewhere : Tree → Type 0
  IsOldElsewhere c = (path : Names) → (IsBelow batch.dir path → ⊥) → MayLeave old path (node_at c path)

  old_links : (c : Tree) → IsOldElsewhere c → SameLinks c (tree_of old)
  old_links c elsewhere = record {
    same = λ name. ready.settled.at (store name) (in_store name []) (node_at c (store name))
        (elsewhere (store name) (apart.link name));
  }

  -- What the data directory of such a crash state represents, its store represents.
  store_of : (X : World) (c : Tree) → X.version ≡ W.version → IsOldElsewhere c → HoldsIn place.directory X.held X.format c → HasStore X c
  store_of X c version elsewhere holds = record {
    directory = place.directory;
    resolves = subst (λ (v : Version). Resolves c (found v place.directory)) (sym (version ∙ core.version))
        (resolves_same c (tree_of old) (old_links c elsewhere) place.version place.directory ready.resolves);
    holds = holds;
  }

  held_before : (c : Tree) → IsOldElsewhere c → TreeStandsFor batch.dir (files_before batch old) c → HasStore W c
  held_before c elsewhere stands = store_of W c refl elsewhere (record {
    files = files_before batch old;
    stands_for = subst (λ (d : Names). TreeStandsFor d (files_before batch old) c) dir_is stands;
    stands = subst (λ (h : Held). Stands (files_before batch old) h W.format) (sym core.held_is) (subst (Stands (files_before batch old) was) (sym core.format)
        (subst (λ (d : Names). Stands (files_below d (tree_of old)) was 2) (sym dir_is) ready.stands));
  })

  module _ (N : World) (step : IsStoreStep I W N held old) where
    held_after : (c : Tree) → IsOldElsewhere c → TreeStandsFor batch.dir (files_after batch old) c → HasStore N c
    held_after c elsewhere stands = store_of N c step.version elsewhere (record {
      files = files_after batch old;
      stands_for = subst (λ (d : Names). TreeStandsFor d (files_after batch old) c) dir_is stands;
      stands = subst (λ (h : Held). Stands (files_after batch old) h N.format) (sym step.held_is)
          (subst (Stands (files_after batch old) held) (sym (step.format ∙ core.format)) after_stands);
    })

    -- The configuration files of such a crash state are those of W, but for some that are due in N.
    old_etc : (c : Tree) → IsOldElsewhere c → (path : Names) → is_etc path ≡ true → (bytes_at c path ≡ get W.etc path)
        ⊎ (IsDuePath I W.held path × IsDuePath I V.held path)
    old_etc c elsewhere path e = disk.unsettled path (node_at c path) e (elsewhere path (apart.etc path e))

    recovers_before : (c : Tree) → IsOldElsewhere c → TreeStandsFor batch.dir (files_before batch old) c → Recovers I W c
    recovers_before c elsewhere stands = record {
      store = held_before c elsewhere stands;
      etc = λ path e. ⊎_elim (λ same. inl same) (λ due. inr due.0)
          (old_etc c elsewhere path e);
    }

    recovers_after : (c : Tree) → IsOldElsewhere c → TreeStandsFor batch.dir (files_after batch old) c → Recovers I N c
    recovers_after c elsewhere stands = record {
      store = held_after c elsewhere stands;
      etc = λ path e. ⊎_elim (λ same. inl (same ∙ sym (ap (λ (m : Files). get m path) step.etc))) (λ due. inr due.1)
          (step.clear path (node_at c path) e (elsewhere path (apart.etc path e)));
    }

    -- Each crash state is that of the world before the event or after it.
    on_the_way : (e : Event) → next I W e ≡ N → (c : Tree) → StandsForEither batch old c × IsOldElsewhere c → OnTheWay I W V (e ∷ []) c
    on_the_way e is c (inl stands, elsewhere) = inr (record { first = []; rest = e ∷ []; whole = refl; recovers = recovers_before c elsewhere stands })
    on_the_way e is c (inr stands, elsewhere) = inr (record {
      first = e ∷ [];
      rest = [];
      whole = refl;
      recovers = subst (λ (X : World). Recovers I X c) (sym is)
          (recovers_after c elsewhere stands);
    })

  -- Elsewhere each crash state since the start has what one at the start may have.
  since_elsewhere : ChangesOnlyBelow batch.dir old new → EachSince IsOldElsewhere old new
  since_elsewhere others = since_goes IsOldElsewhere (IsAtOrSync (IsBelow batch.dir)) old new
      (λ h goes c left path not_below. may_leave_untouched (IsBelow batch.dir) old h goes path not_below (node_at c path) (left path)) others.touches

  since_either : EachSince (StandsForEither batch old) old new → ChangesOnlyBelow batch.dir old new
      → EachSince (λ c. StandsForEither batch old c × IsOldElsewhere c) old new
  since_either either others = since_both (StandsForEither batch old) IsOldElsewhere old new either (since_elsewhere others)

  -- No other path is touched.
  own : (e : Event) → ChangesOnlyBelow batch.dir old new → TouchesOwn I (e ∷ []) old new
  own e others = own_below I (e ∷ []) old new place.version place.directory ready.resolves
      (subst (λ (d : Names). Touches (IsBelow d) old new) dir_is others.touches)

  -- ---- the disk after the change

  now_elsewhere : ChangesOnlyBelow batch.dir old new → IsOldElsewhere (tree_of new)
  now_elsewhere others path not_below = subst (MayLeave old path) (sym (others.tree path not_below)) (may_leave_now old path)

  now_etc : ChangesOnlyBelow batch.dir old new → (path : Names) → is_etc path ≡ true → bytes_at (tree_of new) path ≡ get W.etc path
  now_etc others path e = ap file_in (others.tree path (apart.etc path e)) ∙ disk.etc.each path e

  now_image : ChangesOnlyBelow batch.dir old new → (path : Names) → is_image path ≡ true → bytes_at (tree_of new) path ≡ folder path
  now_image others path e = ap file_in (others.tree path (apart.image path e)) ∙ disk.image path e

  before_left : ChangesOnlyBelow batch.dir old new → (path : Names) (node : Option Node) → is_etc path ≡ true → MayLeave new path node → MayLeave old path node
  before_left others path node e left = may_leave_untouched (IsBelow batch.dir) old new others.touches path (apart.etc path e) node left

  -- The change is made: the disk is at the world after the event, and the store is ready.
  pub made : (e : Event) → IsStoreStep I W (next I W e) held old → IsMade batch old new → EachSince (StandsForEither batch old) old new
      → ChangesOnlyBelow batch.dir old new
      → ChangeMade I folder W V e place held old new
  made e step is_made either others = record {
    disk = record {
      store = store_now;
      etc = record { each = λ path is. now_etc others path is ∙ sym (ap (λ (m : Files). get m path) step.etc) };
      image = now_image others;
      crash_states = λ c left. inl (subst (HasStore (next I W e)) (sym (settled_state new is_made.settled c left)) store_now);
      same_etc = refl;
      unsettled = λ path node is left. inl (ap file_in (is_made.settled path node left) ∙ now_etc others path is
          ∙ sym (ap (λ (m : Files). get m path) step.etc));
    };
    ready = record {
      settled = record { at = λ path is. is_made.settled path };
      resolves = resolves_same (tree_of new) (tree_of old) (old_links (tree_of new) (now_elsewhere others)) place.version place.directory ready.resolves;
      ready = subst (λ (d : Names). IsReady d new) dir_is is_made.ready;
      stands = subst (λ (d : Names). Stands (files_below d (tree_of new)) held 2) dir_is
          (subst (λ (f : JournalFiles). Stands f held 2) (sym is_made.files) after_stands);
    };
    moments = since_map (λ c. StandsForEither batch old c × IsOldElsewhere c) (OnTheWay I W V (e ∷ [])) old new (on_the_way (next I W e) step e refl)
        (since_either either others);
    touches = own e others;
  } where
    store_now : HasStore (next I W e) (tree_of new)
    store_now = held_after (next I W e) step (tree_of new) (now_elsewhere others) (inl (is_made.ready.no_journal, sym is_made.files))

  -- A call of the disk failed after the change was there: a crash state has it or has it not.
  pub taken : (e : Event) → IsStoreStep I W (next I W e) held old → TreeStandsFor batch.dir (files_after batch old) (tree_of new)
      → EachSince (StandsForEither batch old) old new
      → ChangesOnlyBelow batch.dir old new → ChangeFailed I folder W V e old new
  taken e step there either others = record {
    disk = record {
      store = held_after (next I W e) step (tree_of new) (now_elsewhere others) there;
      etc = record { each = λ path is. now_etc others path is ∙ sym (ap (λ (m : Files). get m path) step.etc) };
      image = now_image others;
      crash_states = λ c left. crash_states c (since_now (λ c. StandsForEither batch old c × IsOldElsewhere c) old new (since_either either others) c left);
      same_etc = sym step.etc;
      unsettled = λ path node is left. ⊎_elim
          (λ same. inl (same ∙ sym (ap (λ (m : Files). get m path) step.etc)))
          (λ due. inr (due.1, due.0))
          (step.clear path node is (before_left others path node is left));
    };
    moments = since_map (λ c. StandsForEither batch old c × IsOldElsewhere c) (OnTheWay I W V (e ∷ [])) old new (on_the_way (next I W e) step e refl)
        (since_either either others);
    touches = own e others;
  } where
    crash_states : (c : Tree) → StandsForEither batch old c × IsOldElsewhere c → HasStore (next I W e) c ⊎ HasStore W c
    crash_states c (inl stands, elsewhere) = inr (held_before c elsewhere stands)
    crash_states c (inr stands, elsewhere) = inl (held_after (next I W e) step c elsewhere stands)

  as_before : (N : World) (c : Tree) → N.version ≡ W.version → N.format ≡ W.format → N.held ≡ W.held → HasStore W c → HasStore N c
  as_before N c version format held' has = record {
    directory = has.directory;
    resolves = subst (λ (v : Version). Resolves c (found v has.directory)) (sym version) has.resolves;
    holds = record {
      files = has.holds.files;
      stands_for = has.holds.stands_for;
      stands = subst (λ (h : Held). Stands has.holds.files h N.format) (sym held') (subst (Stands has.holds.files W.held) (sym format) has.holds.stands);
    };
  }

  -- A call of the disk failed before the change was begun: the store is as before, in each crash state.
  pub not_taken : (e : Event) → IsStoreStep I W (next I W e) W.held old → IsNotBegun batch old new → ChangesOnlyBelow batch.dir old new
      → ChangeFailed I folder W V e old new
  not_taken e step not_begun others = record {
    disk = record {
      store = as_before (next I W e) (tree_of new) step.version step.format step.held_is (held_before (tree_of new) (now_elsewhere others) not_begun.tree);
      etc = record { each = λ path is. now_etc others path is ∙ sym (ap (λ (m : Files). get m path) step.etc) };
      image = now_image others;
      crash_states = λ c left. let both = since_now (λ c. TreeStandsFor batch.dir (files_before batch old) c × IsOldElsewhere c) old new all c left in inr
          (held_before c both.1 both.0);
      same_etc = sym step.etc;
      unsettled = λ path node is left. ⊎_elim
          (λ same. inl (same ∙ sym (ap (λ (m : Files). get m path) step.etc)))
          (λ due. inr (due.1, due.0))
          (step.clear path node is (before_left others path node is left));
    };
    moments = since_map (λ c. TreeStandsFor batch.dir (files_before batch old) c × IsOldElsewhere c) (OnTheWay I W V (e ∷ [])) old new
        (λ c both. inr (record { first = []; rest = e ∷ []; whole = refl; recovers = before_recovers c both.1 both.0 })) all;
    touches = own e others;
  } where
    all : EachSince (λ c. TreeStandsFor batch.dir (files_before batch old) c × IsOldElsewhere c) old new
    all = since_both (TreeStandsFor batch.dir (files_before batch old)) IsOldElsewhere old new not_begun.crash_states (since_elsewhere others)

    before_recovers : (c : Tree) → IsOldElsewhere c → TreeStandsFor batch.dir (files_before batch old) c → Recovers I W c
    before_recovers c elsewhere stands = record {
      store = held_before c elsewhere stands;
      etc = λ path is. ⊎_elim (λ same. inl same) (λ due. inr due.0) (disk.unsettled path (node_at c path) is (elsewhere path (apart.etc path is)));
    }

-- Where more is due it is so,
pub clear_more : (I : Image) (folder : Folder) (W V N : World) (h : History) → DiskAt I folder W V h
    → ((path : Names) → IsDuePath I W.held path → IsDuePath I N.held path)
    → (path : Names) (node : Option Node) → is_etc path ≡ true → MayLeave h path node → (file_in node ≡ get W.etc path)
    ⊎ (IsDuePath I W.held path × IsDuePath I N.held path)
clear_more I folder W V N h disk more path node is left = ⊎_elim (λ same. inl same) (λ due. inr (due.0, more path due.0)) (disk.unsettled path node is left)

-- and on a settled disk.
pub clear_settled : (I : Image) (folder : Folder) (W V N : World) (h : History) → DiskAt I folder W V h → IsSettled h
    → (path : Names) (node : Option Node) → is_etc path ≡ true → MayLeave h path node → (file_in node ≡ get W.etc path)
    ⊎ (IsDuePath I W.held path × IsDuePath I N.held path)
clear_settled I folder W V N h disk settled path node is left = inl (ap file_in (settled path node left) ∙ disk.etc.each path is)
