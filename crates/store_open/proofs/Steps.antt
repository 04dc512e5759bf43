-- A change of a data directory that represents what is held, as it is laid over it.
use Rattle.std.proofs.Common.{◌≡◌, inl, inr, List, Result, Ok, Err, refl, sym, subst}
use Rattle.outside.specs.Names.{Names}
use Rattle.outside.specs.Tree.{Tree}
use Rattle.outside.specs.History.{History, tree_of}
use Rattle.outside.specs.Since.{EachSince, IsAtOrSync}
use Rattle.outside.specs.declared.disk_error.DiskErr.{DiskErr}
use Rattle.outside.specs.declared.disk_error.DiskErr.TheVariants as device
use Rattle.outside.proofs.Since.{since_map, since_start}
use Rattle.outside.proofs.Goes.{goes_stay}
use Rattle.outside.proofs.Crash.{settled_state}
use Rattle.commit_journal.specs.Entries.{Changes}
use Rattle.commit_journal.specs.Files.{Files, IsBelow}
use Rattle.commit_journal.specs.Stands.{TreeStandsFor}
use Rattle.commit_journal.specs.Change.{files_before, files_after, StandsForEither, Commits}
use Rattle.settings_tree.specs.Laid as state
use Rattle.settings_tree.specs.declared.entry.Entry.{Entry}
use Rattle.settings_tree.specs.declared.held.Held.{Held}
use Rattle.fs_datastore.specs.Stands.{Stands}
use Rattle.fs_datastore.specs.Batches.{Follows}
use Rattle.machine_disk.specs.Store.{HoldsIn}
use Rattle.store_open.specs.Phases.{IsReadyWith, HoldsEither, Lays}
use Rattle.store_open.proofs.Worlds.{holds_plain}

-- nothing is written: at an error, or where nothing is to change
module _ (dir : Names) (held after : Held) (h : History) where
  stays : IsReadyWith dir held h → EachSince (HoldsIn dir held 2) h h
  stays ready = since_start (HoldsIn dir held 2) h (λ crashed is. subst (HoldsIn dir held 2) (sym (settled_state h ready.settled crashed is))
      (holds_plain dir held 2 (tree_of h) ready.means))

  either : IsReadyWith dir held h → EachSince (HoldsEither dir held after) h h
  either ready = since_map (HoldsIn dir held 2) (HoldsEither dir held after) h h (λ crashed is. inl is) (stays ready)

  pub lays_none : (e : DiskErr) → Lays dir held after (Err e) h h
  lays_none e = record {
    any_moment = either;
    done = tt;
    failed = λ ready. inl (record { tree = holds_plain dir held 2 (tree_of h) ready.means; crash_states = stays ready });
    touches = goes_stay (IsAtOrSync (IsBelow dir)) h;
  }

  pub lays_same : held ≡ after → Lays dir held after (Ok tt) h h
  lays_same same = record {
    any_moment = either;
    done = λ ready. subst (λ (x : Held). IsReadyWith dir x h) same ready;
    failed = tt;
    touches =
        goes_stay (IsAtOrSync (IsBelow dir)) h;
  }

module _ (batch : Changes) (change : List Entry) (follows : Follows change batch.entries) (held : Held)
    (rule : state.KeepsPrefixRule (state.laid held change)) (weak : state.NamesWeak held change) (told : state.TellsWeak held change) (old new : History) where
  abbrev after : Held
  after = state.laid held change

  means_after : IsReadyWith batch.dir held old → Stands (files_after batch old) after 2
  means_after ready = follows.stands (files_before batch old) held 2 ready.means rule weak told

  before_of : IsReadyWith batch.dir held old → (tree : Tree) → TreeStandsFor batch.dir (files_before batch old) tree → HoldsIn batch.dir held 2 tree
  before_of ready tree stands = record { files = files_before batch old; stands_for = stands; stands = ready.means }

  after_of : IsReadyWith batch.dir held old → (tree : Tree) → TreeStandsFor batch.dir (files_after batch old) tree → HoldsIn batch.dir after 2 tree
  after_of ready tree stands = record { files = files_after batch old; stands_for = stands; stands = means_after ready }

  either_of : IsReadyWith batch.dir held old → (tree : Tree) → StandsForEither batch old tree → HoldsEither batch.dir held after tree
  either_of ready tree (inl is) = inl (before_of ready tree is)
  either_of ready tree (inr is) = inr (after_of ready tree is)

  moments : {E : Type 0} (result : Result Unit E) → Commits batch result old new → IsReadyWith batch.dir held old
      → EachSince (HoldsEither batch.dir held after) old new
  moments result commits ready = since_map (StandsForEither batch old) (HoldsEither batch.dir held after) old new (either_of ready)
      (commits.any_moment ready.ready)

  pub lays_made : {E : Type 0} (done : Unit) → Commits {E = E} batch (Ok done) old new → Lays batch.dir held after (Ok tt) old new
  lays_made {E = E} done commits = record {
    any_moment = moments {E = E} (Ok done) commits;
    done = λ ready. let made = commits.done ready.ready in record {
      ready = made.ready;
      means =
          subst (λ (f : Files). Stands f after 2) (sym made.files) (means_after ready);
      settled = made.settled;
    };
    failed = tt;
    touches = commits.others.touches;
  }

  pub lays_failed : {E : Type 0} (e : E) → Commits {E = E} batch (Err e) old new → Lays batch.dir held after (Err device.Failed) old new
  lays_failed {E = E} e commits = record {
    any_moment = moments {E = E} (Err e) commits;
    done = tt;
    failed = λ ready. elim (commits.failed ready.ready) [
      | inl stands ↦ inr (after_of ready (tree_of new) stands, refl)
      | inr not ↦ inl (record {
        tree = before_of ready (tree_of new) not.tree;
        crash_states =
            since_map (TreeStandsFor batch.dir (files_before batch old)) (HoldsIn batch.dir held 2) old new (before_of ready) not.crash_states;
      })
    ];
    touches = commits.others.touches;
  }
