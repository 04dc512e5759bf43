-- Where the disk is when a run has ended, was followed by a sync, or was cut by a crash.
use Rattle.std.proofs.Common.{◌≡◌, ◌≢◌, inl, inr, ⊎_elim, ℕ, Bool, true, false, List, [], ◌∷◌, codes, get_or, nat_eq, true≢false, refl, sym, ◌∙◌, ap, subst}
use Rattle.outside.specs.Names.{Names, is_below}
use Rattle.outside.specs.Tree.{Tree, node_at, file_in}
use Rattle.outside.specs.History.{History, tree_of, MayLeave, IsCrashState, IsSettled, IsSettledOn}
use Rattle.outside.proofs.Crash.{settled_state, tree_is_crash_state}
use Rattle.outside.proofs.Goes.{may_leave_untouched}
use Rattle.settings_tree.specs.declared.held.Held.{Held}
use Rattle.version_links.specs.Chain.{Resolves, found}
use Rattle.version_links.specs.declared.version.Version.{Version}
use Rattle.settings_machine.specs.World.{Image, World, is_etc}
use Rattle.settings_machine.specs.Events.{Event}
use Rattle.settings_machine.specs.Paid.{IsDuePath}
use Rattle.machine_disk.specs.Kept.{Folder, DiskAt}
use Rattle.machine_disk.specs.Laws.{IsSameStore}
use Rattle.machine_disk.specs.Store.{is_store, is_image, bytes_at, HasFiles, HoldsIn, HasStore}
use Rattle.machine_disk.proofs.Apart.{first_name}
use Rattle.machine_disk.proofs.Meanings.{one_store}
use Rattle.command_words.specs.Orders.{Order}
use Rattle.settings_run.specs.Touched.{ChangesOnly, MayTouch}
use Rattle.settings_run.specs.Life.{Ending, Left, Synced, Killed, Crashed, disk_after, IsLater, IsAtOne}
use Rattle.settings_run.proofs.Instants.{clock_later, since_at}
use Rattle.settings_run.proofs.Touched.{touches_within}

-- ---- the world of a tree

-- A tree that has the store of a world has that of each other with the same stored parts.
store_alike : (X Y : World) (c : Tree) → IsSameStore Y X → HasStore Y c → HasStore X c
store_alike X Y c same has = record {
  directory = has.directory;
  resolves = subst (λ (v : Version). Resolves c (found v has.directory)) (sym same.version) has.resolves;
  holds = subst (λ (n : ℕ). HoldsIn has.directory X.held n c) (sym same.format)
      (subst (λ (held : Held). HoldsIn has.directory held Y.format c) (sym same.held) has.holds);
}

module _ (I : Image) (folder : Folder) (X : World) (h : History) (store : HasStore X (tree_of h)) (files : HasFiles X.etc (tree_of h)) where
  -- Where the disk is at one world alone, it is at that of its tree.
  pub same_at : (Y : World) → DiskAt I folder Y Y h → DiskAt I folder X X h
  same_at Y disk =
      let same : IsSameStore Y X = one_store Y X (tree_of h) disk.store store in
      record {
        store = store;
        etc = files;
        image = disk.image;
        crash_states = λ c left. inl (store_alike X Y c same (⊎_elim (λ has. has) (λ has. has) (disk.crash_states c left)));
        same_etc = refl;
        unsettled = λ path node e left. ⊎_elim
            (λ is. inl (is ∙ sym (disk.etc.each path e) ∙ files.each path e))
            (λ due. let here : IsDuePath I X.held path = subst (λ (held : Held). IsDuePath I held path) (sym same.held) due.0 in inr (here, here))
            (disk.unsettled path node e left);
      }

  -- So it is where a crash leaves it as it is.
  pub settled_at : IsSettled h → ((path : Names) → is_image path ≡ true → bytes_at (tree_of h) path ≡ folder path) → DiskAt I folder X X h
  settled_at settled image = record {
    store = store;
    etc = files;
    image = image;
    crash_states = λ c left. inl (subst (HasStore X) (sym (settled_state h settled c left)) store);
    same_etc = refl;
    unsettled = λ path node e left. inl (ap file_in (settled path node left) ∙ files.each path e);
  }

-- ---- the files of the image

-- A path is in one folder at the top.
one_folder : (one other : List ℕ) (path : Names) → is_below (one ∷ []) path ≡ true → is_below (other ∷ []) path ≡ true → one ≡ other
one_folder one other path here there =
    let first = first_name one path here in
    let second = first_name other path there in
    let same : one ∷ first.0 ≡ other ∷ second.0 = sym first.1 ∙ second.1 in
    cc same

image_is_not_store : codes "image" ≢ codes "store"
image_is_not_store same = true≢false (ap (λ (name : List ℕ). nat_eq (get_or name 0 0) 105) same)

image_is_not_etc : codes "image" ≢ codes "etc"
image_is_not_etc same = cc

etc_is_not_store : codes "etc" ≢ codes "store"
etc_is_not_store same = cc

pub image_in_store : (path : Names) → is_image path ≡ true → is_store path ≡ true → ⊥
image_in_store path e there = image_is_not_store (one_folder (codes "image") (codes "store") path e there)

image_in_etc : (path : Names) → is_image path ≡ true → is_etc path ≡ true → ⊥
image_in_etc path e there = image_is_not_etc (one_folder (codes "image") (codes "etc") path e there)

pub etc_in_store : (path : Names) → is_etc path ≡ true → is_store path ≡ true → ⊥
etc_in_store path e there = etc_is_not_store (one_folder (codes "etc") (codes "store") path e there)

not_true : (b : Bool) → (b ≡ true → ⊥) → b ≡ false
not_true true is = absurd (is refl)
not_true false is = refl

-- A path of the store, or of a configuration file, is none of the image.
pub store_elsewhere : (path : Names) → is_store path ≡ true → is_image path ≡ false
store_elsewhere path e = not_true (is_image path) (λ there. image_in_store path there e)

pub etc_elsewhere : (path : Names) → is_etc path ≡ true → is_image path ≡ false
etc_elsewhere path e = not_true (is_image path) (λ there. image_in_etc path there e)

-- ---- how a run ends

-- How it ends, where the disk is left at one world alone if it is left as it is.
abbrev pub Ends : Image → Folder → History → History → Ending → Type 0
Ends I folder old new Left = IsAtOne I folder new
Ends I folder old new Synced = Unit {0}
Ends I folder old new (Killed at) = IsLater old at × IsLater at new
Ends I folder old new (Crashed at crashed) = IsLater old at × IsLater at new × IsCrashState at crashed

-- ---- a part of the paths that a run leaves alone

module _ (part : Names → Bool) (P : Names → Type 0) (apart : (path : Names) → part path ≡ true → P path → ⊥) (I : Image) (folder : Folder)
    (old new : History) (only : ChangesOnly P old new) (settled : IsSettledOn part old) where
  left_at : (at : History) (crashed : Tree) → IsLater old at → IsLater at new → IsCrashState at crashed → (path : Names) → part path ≡ true
      → bytes_at crashed path ≡ bytes_at (tree_of old) path
  left_at at crashed before now left path e =
      ap file_in (settled.at path e (node_at crashed path)
      (since_at (λ (c : Tree). MayLeave old path (node_at c path)) (λ c. Unit {0}) old at new (only.crash_states path (apart path e))
      (clock_later (λ c. Unit {0}) old at before) now crashed left))

  -- Its files are as they were, however the run ended,
  pub part_stays : (ending : Ending) → Ends I folder old new ending → (path : Names) → part path ≡ true
      → bytes_at (tree_of (disk_after new ending)) path ≡ bytes_at (tree_of old) path
  part_stays Left ends path e = ap file_in (only.tree path (apart path e))
  part_stays Synced ends path e = ap file_in (only.tree path (apart path e))
  part_stays (Killed at) ends path e = left_at at (tree_of at) ends.0 ends.1 (tree_is_crash_state at) path e
  part_stays (Crashed at crashed) ends path e = left_at at crashed ends.0 ends.1 ends.2 path e

  -- and a crash leaves them so.
  pub part_settled : (ending : Ending) → IsSettledOn part (disk_after new ending)
  part_settled Left = record {
    at = λ path e node may.
        settled.at path e node (may_leave_untouched P old new only.touches path (apart path e) node may) ∙ sym (only.tree path (apart path e));
  }
  part_settled Synced = record { at = λ path e node may. may }
  part_settled (Killed at) = record { at = λ path e node may. may }
  part_settled (Crashed at crashed) = record { at = λ path e node may. may }

-- A run touches no file of the image.
pub run_apart : (order : Order) (I : Image) (events : List Event) (W : World) (tree : Tree) (store : HasStore W tree) (path : Names)
    → is_image path ≡ true → MayTouch order I events store.directory path → ⊥
run_apart order I events W tree store path e may =
    ⊎_elim (λ there. image_in_store path e there) (λ there. image_in_etc path e there.below)
    (touches_within order I events tree W.version store.directory store.resolves path may)
