-- What a recovery leaves of the world.
use Rattle.std.proofs.Common.{◌≡◌, inl, inr, ◌⊎◌, ℕ, List, ◌++◌, Bool, Result, Ok, sym, subst}
use Rattle.outside.specs.Names.{Names}
use Rattle.outside.specs.Tree.{Tree}
use Rattle.outside.specs.History.{History, next, synced, tree_of}
use Rattle.outside.specs.Since.{EachSince, Touches}
use Rattle.outside.proofs.Since.{since_map, since_both}
use Rattle.commit_journal.specs.Files.{files_below, IsBelow}
use Rattle.commit_journal.specs.Stands.{TreeStandsFor, ChangesOnlyBelow}
use Rattle.commit_journal.specs.Recovery.{Recovers, FromSyncOn}
use Rattle.commit_journal.specs.declared.journal_error.JournalError.{JournalError}
use Rattle.commit_journal.proofs.Elsewhere.{only_below}
use Rattle.settings_tree.specs.declared.held.Held.{Held}
use Rattle.fs_datastore.specs.Stands.{Stands}
use Rattle.version_links.specs.Names.{store}
use Rattle.version_links.specs.Chain.{found, Resolves}
use Rattle.version_links.specs.declared.version.Version.{Version}
use Rattle.version_links.proofs.Chains.{resolves_one}
use Rattle.machine_disk.specs.Store.{HoldsIn}
use Rattle.store_open.specs.World.{World, HasWorld}
use Rattle.store_open.specs.Opening.{IsNotTaken}
use Rattle.store_open.specs.Phases.{IsReadyWith}
use Rattle.fs_datastore.proofs.Alike.{stands_without_journal}
use Rattle.store_open.proofs.Worlds.{links_kept, links_since}

-- a world by its parts
abbrev pub world_of : Version → Names → ℕ → Held → World
world_of version directory format held = record { version = version; directory = directory; format = format; held = held }

-- the place to which the links lead is one
pub one_place : (tree : Tree) (v w : Version) (d e : Names) → Resolves tree (found v d) → Resolves tree (found w e) → (v ≡ w) × (d ≡ e)
one_place tree v w d e one other = let same : found v d ≡ found w e = resolves_one tree (found v d) (found w e) one other in (cc same, cc same)

-- nothing happened yet
pub untouched : (before : World) (old new : History) → new ≡ old → HasWorld before (tree_of old) → IsNotTaken before old new
untouched before old new is has = record { tree = subst (λ (h : History). HasWorld before (tree_of h)) (sym is) has; crash_states = inl is }

module _ (name : List ℕ) (result : Result Bool JournalError) (old new : History) (r : Recovers (store name) result old new) where
  -- from the first sync on nothing changes elsewhere
  pub elsewhere : FromSyncOn (ChangesOnlyBelow (store name)) old new
  elsewhere = elim r.sync_first [
    | inl same ↦ inl same
    | inr touches ↦ inr (only_below (store name) (next synced old) new touches)
  ]

  -- a recovery, whether it was whole or not, keeps the world
  world_images : (version : Version) (held : Held) (format : ℕ) → Resolves (tree_of old) (found version (store name))
      → HoldsIn (store name) held format (tree_of old)
      → FromSyncOn (EachSince (HasWorld (record { version = version; directory = store name; format = format; held = held }))) old new
  world_images version held format links holds = by r.sync_first (r.keeps holds.files holds.stands_for) where
    by : (new ≡ old) ⊎ Touches (IsBelow (store name)) (next synced old) new → (new ≡ old) ⊎ EachSince (TreeStandsFor (store name) holds.files) (next synced old)
        new
        → FromSyncOn (EachSince (HasWorld (world_of version (store name) format held))) old new
    by (inl same) keeps = inl same
    by (inr touches) (inl same) = inl same
    by (inr touches) (inr keeps) = inr (since_map (λ crashed. Resolves crashed (found version (store name)) × TreeStandsFor (store name) holds.files crashed)
        (HasWorld (world_of version (store name) format held)) (next synced old) new
        (λ crashed both. record { links = both.0; holds = record { files = holds.files; stands_for = both.1; stands = holds.stands } })
        (since_both (λ crashed. Resolves crashed (found version (store name))) (TreeStandsFor (store name) holds.files) (next synced old) new
        (links_since name old new touches (found version (store name)) links) keeps))

  pub kept_at : (version : Version) (held : Held) (format : ℕ) → Resolves (tree_of old) (found version (store name))
      → HoldsIn (store name) held format (tree_of old)
      → IsNotTaken (record { version = version; directory = store name; format = format; held = held }) old new
  kept_at version held format links holds = record {
    tree = record {
      links = links_kept name old new r.others.touches (found version (store name)) links;
      holds =
          record { files = holds.files; stands_for = r.stands holds.files holds.stands_for; stands = holds.stands };
    };
    crash_states = world_images version held format links holds;
  }

  pub kept : (version : Version) → Resolves (tree_of old) (found version (store name)) → (before : World) → HasWorld before (tree_of old)
      → IsNotTaken before old new
  kept version links before has =
      let one = one_place (tree_of old) before.version version before.directory (store name) has.links links in
      subst (λ (w : World). IsNotTaken w old new) (λ i. record {
        version = before.version;
        directory = sym one.1 i;
        format = before.format;
        held =
            before.held;
      })
      (kept_at before.version before.held before.format (subst (λ (d : Names). Resolves (tree_of old) (found before.version d)) one.1 has.links)
      (subst (λ (d : Names). HoldsIn d before.held before.format (tree_of old)) one.1 has.holds))

pub ready_with : (name : List ℕ) (was : Bool) (old mid : History) → Recovers (store name) (Ok was) old mid → (held : Held)
    → Stands (files_below (store name) (tree_of mid)) held 2 → IsReadyWith (store name) held mid
ready_with name was old mid r held means = record {
  ready = record {
    no_journal = stands_without_journal (files_below (store name) (tree_of mid)) held 2 means;
    settled =
        λ path. r.settled (store name ++ path);
  };
  means = means;
  settled = r.settled;
}
