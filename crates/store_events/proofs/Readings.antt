-- A reading is no event of the machine, and it tells of the machine's store.
use Rattle.std.proofs.Common.{◌≡◌, inl, inr, Bool, List, [], ◌∷◌, ◌++◌, Result, Ok, Err, refl, sym, ◌∙◌, ap, subst}
use Rattle.outside.specs.Names.{Names}
use Rattle.outside.specs.Tree.{Tree}
use Rattle.outside.specs.History.{synced, History, next as then, tree_of}
use Rattle.outside.specs.Since.{EachSince, Touches}
use Rattle.outside.proofs.Since.{since_map}
use Rattle.commit_journal.specs.Files.{Files, files_below, IsBelow}
use Rattle.commit_journal.specs.Stands.{TreeStandsFor, ChangesOnlyBelow}
use Rattle.commit_journal.specs.Recovery.{Recovers, FromSyncOn}
use Rattle.fs_datastore.specs.Stands.{Stands}
use Rattle.fs_datastore.specs.Damage.{IsFaultBelow}
use Rattle.fs_datastore.proofs.Faults.{faultless}
use Rattle.fs_datastore.proofs.Meaning.{one_meaning}
use Rattle.version_links.specs.Chain.{Resolves, found}
use Rattle.version_links.specs.declared.version.Version.{Version}
use Rattle.settings_machine.specs.World.{Image, World}
use Rattle.settings_machine.specs.Events.{Event}
use Rattle.settings_machine.specs.Paid.{IsGood}
use Rattle.machine_disk.specs.Store.{HasStore}
use Rattle.machine_disk.specs.Kept.{Folder, DiskAt}
use Rattle.machine_disk.specs.Touched.{TouchesOwn}
use Rattle.machine_disk.specs.Ran.{Before, OnTheWay}
use Rattle.machine_disk.proofs.Moments.{none_moments}
use Rattle.machine_disk.proofs.Prefixes.{none_paid, whole}
use Rattle.machine_disk.proofs.Recovering.{Recovered, recovered}
use Rattle.machine_disk.proofs.Settled.{dir_named}
use Rattle.machine_disk.proofs.Touched.{touches_more, own_below, own_from_sync}
use Rattle.machine_disk.proofs.Whole.{not_nowhere, not_bad_link, not_bad_journal}
use Rattle.store_open.specs.World as stored
use Rattle.store_open.specs.World.{HasWorld}
use Rattle.store_open.specs.Opening.{IsNotTaken}
use Rattle.store_open.specs.Reading.{IsOfStore, Refuses, HasRead, Reads}
use Rattle.store_open.specs.declared.stored.Stored.{Stored}
use Rattle.store_open.specs.declared.open_error.OpenError.{OpenError}
use Rattle.store_open.specs.declared.open_error.OpenError.TheVariants as refused
use Rattle.store_open.proofs.Recovered.{one_place}
use Rattle.migrate_chain.proofs.Migrated.{since_first}
use Rattle.store_events.specs.Laws.{HasStayed, TellsOf, ReadingsStay, ReadingsTell, ReadingsTouchOwn}
use Rattle.store_events.proofs.Elsewhere.{IsInStore, from_sync_touched}
use Rattle.store_events.proofs.Stays.{stayed}

-- ---- what a journal that was carried out leaves of a store

module _ (W : World) (old new : History) (has : HasStore W (tree_of old)) (version : Version) (directory : Names)
    (leads : Resolves (tree_of old) (found version directory)) (journal : Bool) (recovers : Recovers directory (Ok journal) old new) where
  -- The directory is the store's,
  same_place : (W.version ≡ version) × (has.directory ≡ directory)
  same_place = one_place (tree_of old) W.version version has.directory directory has.resolves leads

  -- and its files represent what the world holds.
  stands_now : Stands (files_below directory (tree_of new)) W.held W.format
  stands_now =
      let stands_for : TreeStandsFor directory has.holds.files (tree_of old) =
      subst (λ (d : Names). TreeStandsFor d has.holds.files (tree_of old)) same_place.1 has.holds.stands_for in
      subst (λ (f : Files). Stands f W.held W.format) (sym (recovers.done has.holds.files stands_for).files_are) has.holds.stands

-- ---- what was read

module _ (W : World) (old new : History) (has : HasStore W (tree_of old)) where
  pub read_tells : (s : Stored) → HasRead s old new → TellsOf W (Ok s)
  read_tells s read =
      let place = same_place W old new has s.place.version s.place.directory read.links read.journal read.recovers in
      let one = one_meaning (files_below s.place.directory (tree_of new)) W.held s.held W.format 2
      (stands_now W old new has s.place.version s.place.directory read.links read.journal read.recovers) read.means in
      (sym place.0, sym one.0, one.1)

  pub refusal_tells : (e : OpenError) → IsOfStore e → Refuses e old new → TellsOf W (Err e)
  refusal_tells refused.Failed own refuses = tt
  refusal_tells refused.Memory own refuses = tt
  refusal_tells refused.NoStore own refuses = not_nowhere W (tree_of old) has refuses.told.0
  refusal_tells (refused.BadLink path) own refuses = not_bad_link W (tree_of old) has path refuses.told.0
  refusal_tells (refused.BadJournal path) own refuses = let t = refuses.told in not_bad_journal W (tree_of old) has t.1.version t.0 t.1.links t.3
  refusal_tells (refused.Damaged path) own refuses =
      let t = refuses.told in
      let fault : IsFaultBelow t.0 (tree_of new) path = t.2 in
      faultless (files_below t.0 (tree_of new)) W.held W.format fault.below
      (stands_now W old new has t.1.leads.version t.0 t.1.leads.links t.1.journal t.1.recovers) fault.fault
  refusal_tells (refused.OldFormat directory) own refuses =
      let t = refuses.told in
      (one_meaning (files_below directory (tree_of new)) W.held t.1.held W.format 1
      (stands_now W old new has t.0.leads.version directory t.0.leads.links t.0.journal t.0.recovers) t.1.means).1
  refusal_tells (refused.BadImage file kind at) own refuses = own
  refusal_tells (refused.IllTyped key) own refuses = own

  pub tells : (result : Result Stored OpenError) → Reads result old new → TellsOf W result
  tells (Ok s) reads = read_tells s reads.done
  tells (Err e) reads = refusal_tells e reads.of_store reads.refused

pub readings_tell : ReadingsTell
readings_tell I folder W result old new disk_at reads = tells W old new disk_at.store result reads

-- ---- only what is below the data directory is touched

-- What is below a data directory is in the folder of the store.
below_in_store : (tree : Tree) (version : Version) (directory : Names) → Resolves tree (found version directory) → (path : Names) → IsBelow directory path
    → IsInStore path
below_in_store tree version directory leads path below =
    let named = dir_named tree version directory leads in
    (named.0, below.0 ∷ below.1, below.2 ∙ ap (λ (d : Names). d ++ below.0 ∷ below.1) named.1)

changes_touched : (directory : Names) (old new : History) → FromSyncOn (ChangesOnlyBelow directory) old new → Touches (IsBelow directory) old new
changes_touched directory old new (inl same) = from_sync_touched (IsBelow directory) old new (inl same)
changes_touched directory old new (inr changes) = from_sync_touched (IsBelow directory) old new (inr changes.touches)

module _ (I : Image) (events : List Event) (old new : History) where
  pub reading_own : (result : Result Stored OpenError) → Reads result old new → TouchesOwn I events old new
  reading_own (Ok s) reads = own_below I events old new s.place.version s.place.directory reads.done.links reads.done.recovers.others.touches
  reading_own (Err e) reads = λ version directory leads.
      own_from_sync I events old new version directory leads (reads.refused.others version directory leads) version directory leads

pub readings_touch_own : ReadingsTouchOwn
readings_touch_own I result old new reads = reading_own I [] old new result reads

-- ---- no event

module _ (I : Image) (good : IsGood I) (folder : Folder) (W : World) (old new : History) (disk_at : DiskAt I folder W W old) where
  -- The disk was at the world, and is.
  pub stays_on : DiskAt I folder W W new → EachSince (OnTheWay I W W []) old new → HasStayed I folder W old new
  stays_on now moments = whole I good folder W [] old new W now (Before refl refl) (none_paid I W) moments
      (none_moments I W W old new disk_at.store disk_at.etc moments) (λ calm. now)

  pub read_recovered : (s : Stored) (read : HasRead s old new) → Recovered I folder W W s.place old new
  read_recovered s read = recovered I folder W W old new disk_at s.place read.links read.journal read.recovers

  pub read_stays : (s : Stored) → HasRead s old new → HasStayed I folder W old new
  read_stays s read = let now : Recovered I folder W W s.place old new = read_recovered s read in stays_on now.disk now.moments

  -- The world of the store.
  abbrev before : stored.World
  before = record { version = W.version; directory = disk_at.store.directory; format = W.format; held = W.held }

  store_before : (c : Tree) → HasWorld before c → HasStore W c
  store_before c has = record { directory = disk_at.store.directory; resolves = has.links; holds = has.holds }

  refused_since : FromSyncOn (EachSince (HasWorld before)) old new → FromSyncOn (EachSince (HasStore W)) old new
  refused_since (inl same) = inl same
  refused_since (inr since) = inr (since_map (HasWorld before) (HasStore W) (then synced old) new store_before since)

  pub refusal_stays : (e : OpenError) → Refuses e old new → HasStayed I folder W old new
  refusal_stays e refuses = stayed I good folder W old new disk_at touched
      (since_first (HasStore W) old new disk_at.store (refused_since kept.crash_states)) where
        kept : IsNotTaken before old new
        kept = refuses.stays before (record { links = disk_at.store.resolves; holds = disk_at.store.holds })

        touched : Touches IsInStore old new
        touched = touches_more (IsBelow disk_at.store.directory) IsInStore old new
            (below_in_store (tree_of old) W.version disk_at.store.directory disk_at.store.resolves)
            (changes_touched disk_at.store.directory old new (refuses.others W.version disk_at.store.directory disk_at.store.resolves))

  pub stays : (result : Result Stored OpenError) → Reads result old new → HasStayed I folder W old new
  stays (Ok s) reads = read_stays s reads.done
  stays (Err e) reads = refusal_stays e reads.refused

pub readings_stay : ReadingsStay
readings_stay I good folder W result old new disk_at reads = stays I good folder W old new disk_at result reads
