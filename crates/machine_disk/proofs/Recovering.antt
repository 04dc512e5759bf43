-- What a recovery makes of the machine's run, as the first part of an opening and the whole of one that is refused.
use Rattle.std.proofs.Common.{◌≡◌, inl, inr, Bool, true, [], Ok, refl, sym, ◌∙◌, ap, subst}
use Rattle.std.specs.FinMap.{get}
use Rattle.outside.specs.Names.{Names}
use Rattle.outside.specs.Tree.{Tree, file_in}
use Rattle.outside.specs.History.{History, tree_of, IsSettled}
use Rattle.outside.specs.Since.{EachSince}
use Rattle.outside.proofs.Crash.{settled_state}
use Rattle.commit_journal.specs.Files.{Files as JournalFiles}
use Rattle.commit_journal.specs.Stands.{TreeStandsFor}
use Rattle.commit_journal.specs.Recovery.{IsRecovered, Recovers}
use Rattle.fs_datastore.specs.Stands.{Stands}
use Rattle.version_links.specs.Chain.{Resolves, found}
use Rattle.version_links.specs.Names.{store}
use Rattle.version_links.specs.declared.version.Version.{Version}
use Rattle.settings_machine.specs.World.{Image, World, is_etc}
use Rattle.machine_disk.specs.Store as stored
use Rattle.version_links.specs.declared.chain.Place.{Place}
use Rattle.machine_disk.specs.Store.{bytes_at, HasStore, IsReadyAt}
use Rattle.machine_disk.specs.Kept.{Folder, DiskAt}
use Rattle.machine_disk.specs.Touched.{TouchesOwn}
use Rattle.machine_disk.specs.Ran.{OnTheWay}
use Rattle.version_links.proofs.Chains.{resolves_one}
use Rattle.machine_disk.proofs.Runs.{at_start}
use Rattle.machine_disk.proofs.Settled.{SameLinks, resolves_same}
use Rattle.machine_disk.proofs.Apart.{IsApart, dir_apart}
use Rattle.machine_disk.proofs.Touched.{own_below}
use Rattle.machine_disk.proofs.FromSync.{IsThereElsewhere, from_sync}

-- After a recovery the disk is at the same world alone, and the store of one of format 2 is ready. Nothing but the data directory is touched.
pub record Recovered (I : Image) (folder : Folder) (W V : World) (place : Place) (old new : History) : Type 0 where
  pub disk : DiskAt I folder W W new
  pub ready : W.format ≡ 2 → IsReadyAt place W.held new
  pub settled : IsSettled new
  pub moments : EachSince (OnTheWay I W V []) old new
  pub touches : TouchesOwn I [] old new

module _ (I : Image) (folder : Folder) (W V : World) (old new : History) (disk : DiskAt I folder W V old) (place : Place)
    (leads : Resolves (tree_of old) (found place.version place.directory)) (there : Bool) (recovers : Recovers place.directory (Ok there) old new) where
  same_place : found W.version disk.store.directory ≡ found place.version place.directory
  same_place = resolves_one (tree_of old) _ _ disk.store.resolves leads

  version : W.version ≡ place.version
  version = let e = same_place in cc

  files : JournalFiles
  files = disk.store.holds.files

  stands_for : TreeStandsFor place.directory files (tree_of old)
  unfolding files
  stands_for =
      let e = same_place in
      let dirs : disk.store.directory ≡ place.directory = cc in
      subst (λ (d : Names). TreeStandsFor d disk.store.holds.files (tree_of old)) dirs disk.store.holds.stands_for

  stands : Stands files W.held W.format
  unfolding files
  stands = disk.store.holds.stands

  done : IsRecovered place.directory files new
  done = recovers.done files stands_for

  apart : IsApart place.directory
  apart = dir_apart (tree_of old) place.version place.directory leads

  store_of : (c : Tree) → SameLinks c (tree_of old) → TreeStandsFor place.directory files c → HasStore W c
  store_of c links is = record {
    directory = place.directory;
    resolves = subst (λ (v : Version). Resolves c (found v place.directory)) (sym version)
        (resolves_same c (tree_of old) links place.version place.directory leads);
    holds = record { files = files; stands_for = is; stands = stands };
  }

  new_links : SameLinks (tree_of new) (tree_of old)
  new_links = record { same = λ name. recovers.others.tree (store name) (apart.link name) }

  new_store : HasStore W (tree_of new)
  new_store = store_of (tree_of new) new_links (recovers.stands files stands_for)

  new_etc : (path : Names) → is_etc path ≡ true → bytes_at (tree_of new) path ≡ get W.etc path
  new_etc path e = ap file_in (recovers.others.tree path (apart.etc path e)) ∙ disk.etc.each path e

  recovers_to : (c : Tree) → TreeStandsFor place.directory files c × IsThereElsewhere place.directory old c → stored.Recovers I W c
  recovers_to c both = record {
    store = store_of c (record { same = λ name. both.1 (store name) (apart.link name) }) both.0;
    etc = λ path e. inl (ap file_in (both.1 path (apart.etc path e)) ∙ disk.etc.each path e);
  }

  pub recovered : Recovered I folder W V place old new
  recovered = record {
    disk = record {
      store = new_store;
      etc = record { each = new_etc };
      image = λ path e. ap file_in (recovers.others.tree path (apart.image path e)) ∙ disk.image path e;
      crash_states = λ c left. inl (subst (HasStore W) (sym (settled_state new recovers.settled c left)) new_store);
      same_etc = refl;
      unsettled = λ path node e left. inl (ap file_in (recovers.settled path node left) ∙ new_etc path e);
    };
    ready = λ format. record {
      settled = record { at = λ path is. recovers.settled path };
      resolves = resolves_same (tree_of new) (tree_of old) new_links place.version place.directory leads;
      ready = done.ready;
      stands = subst (λ (f : JournalFiles). Stands f W.held 2) (sym done.files_are) (subst (Stands files W.held) format stands);
    };
    settled = recovers.settled;
    moments = from_sync I folder W V [] old new disk place.directory (TreeStandsFor place.directory files)
        (λ c both. inr (at_start I W [] c (recovers_to c both)))
        recovers.sync_first (recovers.keeps files stands_for);
    touches = own_below I [] old new place.version place.directory leads recovers.others.touches;
  }
