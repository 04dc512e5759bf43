-- What is no event of the machine: a crash at any moment recovers to the world that was there.
use Rattle.std.proofs.Common.{◌≡◌, ◌⊎◌, inl, inr, ⊎_elim, ℕ, List, [], ◌∷◌, refl, subst}
use Rattle.outside.specs.Tree.{Tree}
use Rattle.outside.specs.History.{History, tree_of, IsCrashState, EachCrashState}
use Rattle.outside.specs.Since.{EachSince, IsAtOrSync, Touches}
use Rattle.outside.proofs.Crash.{tree_is_crash_state}
use Rattle.outside.proofs.Goes.{goes_stay}
use Rattle.outside.proofs.Since.{since_start, since_map, since_both, since_now}
use Rattle.commit_journal.specs.Recovery.{FromSyncOn}
use Rattle.settings_tree.specs.declared.held.Held.{Held}
use Rattle.version_links.specs.Chain.{Resolves, found}
use Rattle.version_links.specs.declared.version.Version.{Version}
use Rattle.version_links.specs.declared.chain.Place.{Place}
use Rattle.settings_machine.specs.World.{Image, World}
use Rattle.settings_machine.specs.Paid.{IsGood}
use Rattle.machine_disk.specs.Store as disk
use Rattle.machine_disk.specs.Store.{Recovers}
use Rattle.machine_disk.specs.Kept.{Folder, DiskAt}
use Rattle.machine_disk.specs.Ran.{Before, OnTheWay}
use Rattle.machine_disk.proofs.Moments.{none_moments}
use Rattle.machine_disk.proofs.Prefixes.{none_paid, whole}
use Rattle.machine_disk.proofs.Touched.{touches_more}
use Rattle.migrate_chain.specs.Store.{HasStore, IsInOther}
use Rattle.migrate_chain.specs.Migrating.{SinceStart}
use Rattle.migrate_chain.proofs.Migrated.{since_first}
use Rattle.store_events.specs.Laws.{HasStayed, SameDisksStay, PruningsStay}
use Rattle.store_events.proofs.Elsewhere.{IsInStore, HasLeft, from_sync_touched, due_left, stays_at}

-- ---- the store of a tree, as the machine says it and as a move does

module _ (W : World) (tree : Tree) where
  abbrev pub place_in : disk.HasStore W tree → Place
  place_in has = record { version = W.version; directory = has.directory }

  pub to_move : (has : disk.HasStore W tree) → HasStore (place_in has) W.held W.format tree
  to_move has = record { led = has.resolves; stands = record { files = has.holds.files; found = has.holds.stands_for; stands = has.holds.stands } }

-- A store at a place of the world's version, which represents what the world holds in its format, is the world's.
pub from_place : (W : World) (place : Place) (held : Held) (format : ℕ) (tree : Tree) → place.version ≡ W.version → held ≡ W.held → format ≡ W.format
    → HasStore place held format tree → disk.HasStore W tree
from_place W place held format tree version_is held_is format_is has = record {
  directory = place.directory;
  resolves = subst (λ (v : Version). Resolves tree (found v place.directory)) version_is has.led;
  holds = subst (λ (h : Held). disk.HoldsIn place.directory h W.format tree) held_is
      (subst (λ (n : ℕ). disk.HoldsIn place.directory held n tree) format_is
      (record { files = has.stands.files; stands_for = has.stands.found; stands = has.stands.stands }));
}

-- ---- nothing happened

module _ (I : Image) (good : IsGood I) (folder : Folder) (W : World) (old new : History) (disk_at : DiskAt I folder W W old)
    (touches : Touches IsInStore old new) where
  old_store : (c : Tree) → IsCrashState old c ⊎ disk.HasStore W c → disk.HasStore W c
  old_store c (inl left) = ⊎_elim (λ has. has) (λ has. has) (disk_at.crash_states c left)
  old_store c (inr has) = has

  recovers : (c : Tree) → (IsCrashState old c ⊎ disk.HasStore W c) × HasLeft I W c → Recovers I W c
  recovers c both = record { store = old_store c both.0; etc = both.1 }

  -- Nothing changed but in the folder of the store, and the store is as it was at every moment.
  pub stayed : SinceStart (disk.HasStore W) old new → HasStayed I folder W old new
  stayed since = whole I good folder W [] old new W here (Before refl refl) (none_paid I W) moments
      (none_moments I W W old new disk_at.store disk_at.etc moments) (λ calm. here) where
        here : DiskAt I folder W W new
        here =
            let now : EachCrashState (λ c. IsCrashState old c ⊎ disk.HasStore W c) new = since_now
            (λ c. IsCrashState old c ⊎ disk.HasStore W c) old new since in
            stays_at I folder W old new touches disk_at (old_store (tree_of new) (now (tree_of new) (tree_is_crash_state new)))
            (λ c left. old_store c (now c left))

        moments : EachSince (OnTheWay I W W []) old new
        moments = since_map (λ c. (IsCrashState old c ⊎ disk.HasStore W c) × HasLeft I W c) (OnTheWay I W W []) old new (λ c both. inl (recovers c both))
            (since_both (λ c. IsCrashState old c ⊎ disk.HasStore W c) (HasLeft I W) old new since (due_left I folder W old new touches disk_at))

  abbrev place : Place
  place = place_in W (tree_of old) disk_at.store

  pub store_stays : SinceStart (HasStore place W.held W.format) old new → HasStayed I folder W old new
  store_stays kept = stayed (since_map (λ c. IsCrashState old c ⊎ HasStore place W.held W.format c) (λ c. IsCrashState old c ⊎ disk.HasStore W c) old new
      (λ c either. ⊎_elim (λ left. inl left) (λ has. inr (from_place W place W.held W.format c refl refl refl has)) either) kept)

-- ---- the disk is as before

pub same_disks_stay : SameDisksStay
same_disks_stay I good folder W h disk_at = stayed I good folder W h h disk_at (goes_stay (IsAtOrSync IsInStore) h)
    (since_start (λ c. IsCrashState h c ⊎ disk.HasStore W c) h (λ c left. inl left))

-- ---- prunings

-- What lies below another data directory lies in the folder of the store.
others_touched : (directory : List (List ℕ)) (old new : History) → FromSyncOn (Touches (IsInOther directory)) old new → Touches IsInStore old new
others_touched directory old new others = touches_more (IsInOther directory) IsInStore old new (λ path is. (_, is.below.0 ∷ is.below.1, is.below.2))
    (from_sync_touched (IsInOther directory) old new others)

pub prunings_stay : PruningsStay
prunings_stay I good folder W result old new disk_at prunes =
    let place = place_in W (tree_of old) disk_at.store in
    let was = to_move W (tree_of old) disk_at.store in
    store_stays I good folder W old new disk_at (others_touched disk_at.store.directory old new (prunes.sync_first place was.led))
    (since_first (HasStore place W.held W.format) old new was (prunes.keeps place W.held W.format was))
