-- A beginning is an event of the machine.
use Rattle.std.proofs.Common.{inl, inr, ◌⊎◌, [], ◌∷◌, ⊎_elim, Result, Ok, refl, sym, ◌∙◌, ap, subst}
use Rattle.outside.specs.Tree.{Tree, file_in}
use Rattle.outside.specs.History.{History, tree_of, IsCrashState}
use Rattle.outside.specs.Since.{EachSince}
use Rattle.outside.proofs.Crash.{settled_state}
use Rattle.outside.proofs.Since.{since_start, since_map, since_both}
use Rattle.commit_journal.specs.Files.{files_below}
use Rattle.settings_tree.specs.declared.entry.Owed.TheVariants as owed
use Rattle.settings_tree.specs.declared.held.Held.{Held}
use Rattle.version_links.specs.Chain.{Resolves, nowhere, found}
use Rattle.version_links.specs.declared.version.Version.{Version}
use Rattle.settings_machine.specs.World.{Image, World}
use Rattle.settings_machine.specs.Events.{Moved, next}
use Rattle.settings_machine.specs.Paid.{Paid, IsGood}
use Rattle.settings_machine.proofs.PaidLaws.{migrations_pay}
use Rattle.machine_disk.specs.Store.{bytes_at, HasStore, HasFiles, Recovers}
use Rattle.machine_disk.specs.Ran.{IsWorldOf, LeavesPaid}
use Rattle.machine_disk.proofs.Prefixes.{leaves_paid}
use Rattle.machine_disk.proofs.Whole.{not_nowhere}
use Rattle.store_open.specs.Beginning as beginning
use Rattle.store_open.specs.Beginning.{Begins, first_world}
use Rattle.store_open.specs.declared.begin_error.InitError.{InitError}
use Rattle.store_events.specs.Laws.{IsBare, IsBeginning, HasBegun, BeginningsAreWhole, BeginningsBegin}
use Rattle.store_events.proofs.Elsewhere.{files_stand, files_left, image_kept}

module _ (I : Image) (good : IsGood I) (W : World) (version : Version) (held : Held) where
  abbrev N : World
  N = next I W (Moved version held)

  paid : Paid I N
  paid = migrations_pay I good W version held

  -- What the store holds: this, and all is owed.
  abbrev first : Held
  first = record held { owed = owed.All }

  -- The first world of a store is that of the machine.
  has_store : (tree : Tree) → beginning.HasBegun version first tree → HasStore N tree
  has_store tree has = record {
    directory = (first_world has.target first).directory;
    resolves = subst (λ (v : Version). Resolves tree (found v (first_world has.target first).directory)) has.version_is has.world.links;
    holds = has.world.holds;
  }

  module _ (result : Result (Unit {0}) InitError) (old new : History) (bare : IsBare W old) (begins : Begins version first result old new) where
    moment : (c : Tree) → (Resolves c nowhere ⊎ beginning.HasBegun version first c) × HasFiles W.etc c → Resolves c nowhere ⊎ Recovers I N c
    moment c (inl none, files) = inl none
    moment c (inr has, files) = inr (record { store = has_store c has; etc = λ path e. inl (files.each path e) })

    any_moment : EachSince (λ c. Resolves c nowhere ⊎ Recovers I N c) old new
    any_moment = since_map (λ c. (Resolves c nowhere ⊎ beginning.HasBegun version first c) × HasFiles W.etc c) (λ c. Resolves c nowhere ⊎ Recovers I N c)
        old new moment
        (since_both (λ c. Resolves c nowhere ⊎ beginning.HasBegun version first c) (HasFiles W.etc) old new
        (begins.any_moment (record { at = λ path part. bare.settled path }) bare.none)
        (files_left W.etc old new begins.others.touches bare.etc bare.settled))

    whole : IsBeginning I N old new
    whole = record {
      any_moment = any_moment;
      crash_paid = since_map (λ c. Resolves c nowhere ⊎ Recovers I N c) (λ c. (X : World) → IsWorldOf c X → Paid I X) old new
          (λ c either X is f covered. ⊎_elim (λ none. absurd (not_nowhere X c is.store none))
          (λ r. let leaves : LeavesPaid I W (Moved version held ∷ []) c = leaves_paid I good W (Moved version held ∷ []) c r (λ g known was. paid g known) in
          leaves.paid f covered (inr refl) X is) either) any_moment;
    }

  module _ (old new : History) (bare : IsBare W old) (done : Unit {0}) (begins : Begins version first (Ok done) old new) where
    at_rest : beginning.IsBegun version first new
    at_rest = begins.done.1

    store : HasStore N (tree_of new)
    store = record {
      directory = (first_world at_rest.target first).directory;
      resolves = subst (λ (v : Version). Resolves (tree_of new) (found v (first_world at_rest.target first).directory)) at_rest.version_is at_rest.rest.links;
      holds = record {
        files = files_below (first_world at_rest.target first).directory (tree_of new);
        stands_for = inl (at_rest.rest.ready.no_journal, refl);
        stands = at_rest.rest.means;
      };
    }

    etc : HasFiles N.etc (tree_of new)
    etc = files_stand W.etc old new begins.others.touches bare.etc

    begun : HasBegun I (bytes_at (tree_of old)) N new
    begun = record {
      disk = record {
        store = store;
        etc = etc;
        image = λ path e. image_kept old new begins.others.touches path e;
        crash_states = λ c left. inl (subst (HasStore N) (sym (settled_state new at_rest.rest.settled c left)) store);
        same_etc = refl;
        unsettled = λ path node e left. inl (ap file_in (at_rest.rest.settled path node left) ∙ etc.each path e);
      };
      paid = paid;
      at_exit = λ c left. subst (Recovers I N) (sym (settled_state new at_rest.rest.settled c left))
          (record { store = store; etc = λ path e. inl (etc.each path e) });
    }

-- A disk without a store that is as before has none.
pub bare_stays : (I : Image) (W : World) (version : Version) (held : Held) (h : History) → IsBare W h → IsBeginning I (next I W (Moved version held)) h h
bare_stays I W version held h bare = record {
  any_moment = since_start (λ c. Resolves c nowhere ⊎ Recovers I (next I W (Moved version held)) c) h (λ c left. inl (none c left));
  crash_paid = since_start (λ c. (X : World) → IsWorldOf c X → Paid I X) h (λ c left X is. absurd (not_nowhere X c is.store (none c left)));
}
  where
    none : (c : Tree) → IsCrashState h c → Resolves c nowhere
    none c left = subst (λ (t : Tree). Resolves t nowhere) (sym (settled_state h bare.settled c left)) bare.none

pub beginnings_are_whole : BeginningsAreWhole
beginnings_are_whole I good W version held result old new bare begins = whole I good W version held result old new bare begins

pub beginnings_begin : BeginningsBegin
beginnings_begin I good W version held done old new bare begins = begun I good W version held old new bare done begins
