-- What an opening, told by what it does to the store alone, makes of the machine's run.
use Rattle.std.proofs.Common.{◌≡◌, ◌⊎◌, inl, inr, Bool, true, false, List, [], ◌∷◌, Option, refl, sym, ◌∙◌, ap, subst}
use Rattle.std.specs.FinMap.{get}
use Rattle.outside.specs.Names.{Names}
use Rattle.outside.specs.Tree.{Node, Tree, node_at, file_in}
use Rattle.outside.specs.History.{synced, History, next as then, tree_of, MayLeave, IsSettled}
use Rattle.outside.specs.Since.{EachSince, Touches}
use Rattle.outside.proofs.Crash.{settled_state}
use Rattle.outside.proofs.Goes.{may_leave_untouched}
use Rattle.outside.proofs.Since.{since_start, since_now}
use Rattle.commit_journal.specs.Files.{files_below, IsBelow}
use Rattle.commit_journal.specs.Stands.{ChangesOnlyBelow, IsReady}
use Rattle.commit_journal.specs.Recovery.{FromSyncOn}
use Rattle.fs_datastore.specs.Stands.{Stands}
use Rattle.version_links.specs.Chain.{Resolves, found}
use Rattle.version_links.specs.declared.version.Version.{Version}
use Rattle.version_links.specs.declared.chain.Place.{Place}
use Rattle.version_links.proofs.Chains.{resolves_one}
use Rattle.settings_machine.specs.World.{Image, World, is_running, is_etc}
use Rattle.settings_machine.specs.Typed.{IsTypedHeld}
use Rattle.settings_machine.specs.Opening.{opened_held}
use Rattle.settings_machine.specs.Step.{opened}
use Rattle.settings_machine.specs.Events.{Event, Opened, Succeeded, Failing, next, after}
use Rattle.settings_machine.specs.Paid.{IsFit, IsGood}
use Rattle.settings_machine.proofs.PaidLaws.{openings_fit}
use Rattle.machine_disk.specs.Store.{is_image, bytes_at, HasStore, Recovers}
use Rattle.machine_disk.specs.Kept.{Folder, DiskAt}
use Rattle.machine_disk.specs.Touched.{TouchesOwn}
use Rattle.machine_disk.specs.Ran.{IsLate, Before, Within, OnTheWay, OpensTo, OpensNot}
use Rattle.machine_disk.proofs.Runs.{at_start, way_now, disk_moments}
use Rattle.machine_disk.proofs.Apart.{IsApart, dir_apart}
use Rattle.machine_disk.proofs.Touched.{own_from_sync}
use Rattle.machine_disk.proofs.FromSync.{IsThereElsewhere, from_sync}

-- The tree has the store of W, or that of the opened world.
abbrev pub HasEither : Image → World → Bool → Tree → Type 0
HasEither I W boot tree = HasStore W tree ⊎ HasStore (opened I W boot) tree

module _ (I : Image) (good : IsGood I) (folder : Folder) (W V : World) (boot : Bool) (old new : History) (disk : DiskAt I folder W V old) (place : Place)
    (leads : Resolves (tree_of old) (found place.version place.directory)) (others : FromSyncOn (ChangesOnlyBelow place.directory) old new) where
  version : W.version ≡ place.version
  version = let e : found W.version disk.store.directory ≡ found place.version place.directory = resolves_one (tree_of old) _ _ disk.store.resolves leads in cc

  apart : IsApart place.directory
  apart = dir_apart (tree_of old) place.version place.directory leads

  -- ---- elsewhere than in the data directory

  touches : FromSyncOn (ChangesOnlyBelow place.directory) old new → FromSyncOn (Touches (IsBelow place.directory)) old new
  touches (inl same) = inl same
  touches (inr changes) = inr changes.touches

  elsewhere : FromSyncOn (ChangesOnlyBelow place.directory) old new → IsThereElsewhere place.directory old (tree_of new)
  elsewhere (inl same) path not_below = ap (λ (h : History). node_at (tree_of h) path) same
  elsewhere (inr changes) path not_below = changes.tree path not_below

  etc_in : (c : Tree) → IsThereElsewhere place.directory old c → (path : Names) → is_etc path ≡ true → bytes_at c path ≡ get W.etc path
  etc_in c there path e = ap file_in (there path (apart.etc path e)) ∙ disk.etc.each path e

  etc_now : (path : Names) → is_etc path ≡ true → bytes_at (tree_of new) path ≡ get W.etc path
  etc_now = etc_in (tree_of new) (elsewhere others)

  image_now : (path : Names) → is_image path ≡ true → bytes_at (tree_of new) path ≡ folder path
  image_now path e = ap file_in (elsewhere others path (apart.image path e)) ∙ disk.image path e

  own : (e : Event) → TouchesOwn I (e ∷ []) old new
  own e = own_from_sync I (e ∷ []) old new place.version place.directory leads others

  -- Below `etc` a crash leaves what is there, once the disk was synced.
  left_of : ChangesOnlyBelow place.directory (then synced old) new → (path : Names) (node : Option Node) → is_etc path ≡ true → MayLeave new path node
      → file_in node ≡ get W.etc path
  left_of changes path node e left =
      ap file_in (may_leave_untouched (IsBelow place.directory) (then synced old) new changes.touches path (apart.etc path e) node left) ∙ disk.etc.each path e

  -- ---- the store, before the opening and after it

  before_way : (events : List Event) (c : Tree) → HasStore W c × IsThereElsewhere place.directory old c → OnTheWay I W V events c
  before_way events c (store, there) = inr (at_start I W events c (record { store = store; etc = λ path e. inl (etc_in c there path e) }))

  opened_recovers : (c : Tree) → HasStore (opened I W boot) c → IsThereElsewhere place.directory old c → Recovers I (opened I W boot) c
  unfolding opened
  opened_recovers c store there = record { store = store; etc = λ path e. inl (etc_in c there path e) }

  either_way : (e : Event) → next I W e ≡ opened I W boot → (c : Tree) → HasEither I W boot c × IsThereElsewhere place.directory old c
      → OnTheWay I W V (e ∷ []) c
  either_way e is c (inl store, there) = before_way (e ∷ []) c (store, there)
  either_way e is c (inr store, there) = inr (record {
    first = e ∷ [];
    rest = [];
    whole = refl;
    recovers = subst (λ (X : World). Recovers I X c) (sym is)
        (opened_recovers c store there);
  })

  -- ---- an opening that was not taken

  opens_not : (taken : Bool) (other : World) → IsLate I W V (Opened boot (Failing taken) ∷ []) other
      → DiskAt I folder (after I W (Opened boot (Failing taken) ∷ [])) other new → EachSince (OnTheWay I W V (Opened boot (Failing taken) ∷ [])) old new
      → OpensNot I folder W V boot old new
  opens_not taken other late now moments = record {
    taken = taken;
    other = other;
    late = late;
    disk = now;
    moments = moments;
    keeps = disk_moments I folder W V (Opened boot (Failing taken)) old new other disk now late moments;
    touches = own (Opened boot (Failing taken));
  }

  -- Nothing happened.
  not_begun : new ≡ old → OpensNot I folder W V boot old new
  not_begun same = opens_not false V (Before refl refl) (subst (DiskAt I folder W V) (sym same) disk)
      (subst (EachSince (OnTheWay I W V (Opened boot (Failing false) ∷ [])) old) (sym same)
      (since_start (OnTheWay I W V (Opened boot (Failing false) ∷ [])) old (way_now I folder W V (Opened boot (Failing false) ∷ []) old disk)))

  -- The tree has the store of W, and so has each crash state from the first sync on.
  pub opens_not_taken : HasStore W (tree_of new) → FromSyncOn (EachSince (HasStore W)) old new → OpensNot I folder W V boot old new
  opens_not_taken store crash_states = by others crash_states where
    by : FromSyncOn (ChangesOnlyBelow place.directory) old new → FromSyncOn (EachSince (HasStore W)) old new → OpensNot I folder W V boot old new
    by (inl same) crash_states = not_begun same
    by (inr changes) (inl same) = not_begun same
    by (inr changes) (inr since) = opens_not false W (Within [] (Opened boot (Failing false) ∷ []) refl refl refl)
        (record {
          store = store;
          etc = record { each = etc_now };
          image = image_now;
          crash_states = λ c left. inl (since_now (HasStore W) (then synced old) new since c left);
          same_etc = refl;
          unsettled = λ path node e left. inl (left_of changes path node e left);
        })
        (from_sync I folder W V (Opened boot (Failing false) ∷ []) old new disk place.directory (HasStore W)
        (before_way (Opened boot (Failing false) ∷ [])) (touches others) crash_states)

  -- ---- one that was taken, of a typed world

  module _ (typed : IsTypedHeld I.types W.held) (idle : is_running W.job ≡ false) where
    fit_opened : IsFit I (opened I W boot)
    fit_opened = openings_fit I good W boot typed idle

    -- The directory represents the opened held state, a crash leaves the tree, and from the first sync on one left the store of W or that of the opened world.
    pub opens_to : W.format ≡ 2 → FromSyncOn (EachSince (HasEither I W boot)) old new → Resolves (tree_of new) (found place.version place.directory)
        → Stands (files_below place.directory (tree_of new)) (opened_held I W.held boot) 2 → IsReady place.directory new → IsSettled new
        → OpensTo I folder W V boot place (opened_held I W.held boot) old new
    unfolding opened
    opens_to format either resolves stands ready settled = record {
      fit = fit_opened;
      format = format;
      disk = now;
      ready = record { settled = record { at = λ path is. settled path }; resolves = resolves; ready = ready; stands = stands };
      moments = moments;
      keeps = disk_moments I folder W V (Opened boot Succeeded) old new (opened I W boot) disk now (Within (Opened boot Succeeded ∷ []) [] refl refl refl)
          moments;
      touches = own (Opened boot Succeeded);
    } where
      store : HasStore (opened I W boot) (tree_of new)
      store = record {
        directory = place.directory;
        resolves = subst (λ (v : Version). Resolves (tree_of new) (found v place.directory)) (sym version) resolves;
        holds = record {
          files = files_below place.directory (tree_of new);
          stands_for = inl (ready.no_journal, refl);
          stands = subst (Stands (files_below place.directory (tree_of new)) (opened_held I W.held boot)) (sym format) stands;
        };
      }

      now : DiskAt I folder (opened I W boot) (opened I W boot) new
      now = record {
        store = store;
        etc = record { each = etc_now };
        image = image_now;
        crash_states = λ c left. inl (subst (HasStore (opened I W boot)) (sym (settled_state new settled c left)) store);
        same_etc = refl;
        unsettled = λ path node e left. inl (ap file_in (settled path node left) ∙ etc_now path e);
      }

      moments : EachSince (OnTheWay I W V (Opened boot Succeeded ∷ [])) old new
      moments = from_sync I folder W V (Opened boot Succeeded ∷ []) old new disk place.directory (HasEither I W boot) (either_way (Opened boot Succeeded) refl)
          (touches others) either

    -- The tree has the store of the opened world, and each crash state from the first sync on that of W or of the opened world.
    pub opens_taken : HasStore (opened I W boot) (tree_of new) → FromSyncOn (EachSince (HasEither I W boot)) old new → OpensNot I folder W V boot old new
    unfolding opened
    opens_taken store either = by others either where
      swapped : (c : Tree) → HasEither I W boot c → HasStore (opened I W boot) c ⊎ HasStore W c
      swapped c (inl before) = inr before
      swapped c (inr after') = inl after'

      by : FromSyncOn (ChangesOnlyBelow place.directory) old new → FromSyncOn (EachSince (HasEither I W boot)) old new → OpensNot I folder W V boot old new
      by (inl same) either = not_begun same
      by (inr changes) (inl same) = not_begun same
      by (inr changes) (inr since) = opens_not true W (Within [] (Opened boot (Failing true) ∷ []) refl refl refl)
          (record {
            store = store;
            etc = record { each = etc_now };
            image = image_now;
            crash_states = λ c left. swapped c (since_now (HasEither I W boot) (then synced old) new since c left);
            same_etc = refl;
            unsettled = λ path node e left. inl (left_of changes path node e left);
          })
          (from_sync I folder W V (Opened boot (Failing true) ∷ []) old new disk place.directory (HasEither I W boot)
          (either_way (Opened boot (Failing true)) refl) (touches others) either)
