-- What changes in the store leave elsewhere.
use Rattle.std.proofs.Common.{◌≡◌, ◌≢◌, ◌⊎◌, inl, inr, ⊎_elim, ◌∙◌, ℕ, true, List, ◌∷◌, [], codes, refl, ap, sym, subst}
use Rattle.std.specs.FinMap.{get}
use Rattle.outside.specs.Names.{Names, is_below}
use Rattle.outside.specs.Tree.{Tree, node_at, file_in}
use Rattle.outside.specs.History.{synced, History, next as then, tree_of, EachCrashState, IsSettled}
use Rattle.outside.specs.Since.{EachSince, IsAtOrSync, Touches}
use Rattle.outside.proofs.Goes.{goes_stay, goes_next, goes_joined, since_goes, may_leave_untouched, tree_untouched}
use Rattle.commit_journal.specs.Files.{IsBelow}
use Rattle.commit_journal.specs.Recovery.{FromSyncOn}
use Rattle.settings_machine.specs.World.{Image, World, Files, is_etc}
use Rattle.settings_machine.specs.Paid.{IsDuePath}
use Rattle.machine_disk.specs.Store.{is_image, bytes_at, HasFiles, HasStore}
use Rattle.machine_disk.specs.Kept.{Folder, DiskAt}
use Rattle.machine_disk.proofs.Apart.{first_name}

-- The path is strictly below the folder of the store.
abbrev pub IsInStore : Names → Type 0
IsInStore = IsBelow (codes "store" ∷ [])

-- What was touched after a sync was touched since the start.
pub from_sync_touched : (P : Names → Type 0) (old new : History) → FromSyncOn (Touches P) old new → Touches P old new
from_sync_touched P old new (inl same) = subst (Touches P old) (sym same) (goes_stay (IsAtOrSync P) old)
from_sync_touched P old new (inr touches) = goes_joined (IsAtOrSync P) old (then synced old) new
    (goes_next (IsAtOrSync P) old old synced (goes_stay (IsAtOrSync P) old) tt) touches

-- A path in another folder is not.
folder_apart : (folder : List ℕ) (path : Names) → is_below (folder ∷ []) path ≡ true → folder ≢ codes "store" → IsInStore path → ⊥
folder_apart folder path e other below =
    let named = first_name folder path e in
    let same : folder ∷ named.0 ≡ codes "store" ∷ (below.0 ∷ below.1) = sym named.1 ∙ below.2 in
    other (cc same)

-- So the path of a configuration file is not, nor is that of a file of the image.
etc_apart : (path : Names) → is_etc path ≡ true → IsInStore path → ⊥
etc_apart path e below = folder_apart (codes "etc") path e (λ same. cc) below

image_apart : (path : Names) → is_image path ≡ true → IsInStore path → ⊥
image_apart path e below = folder_apart (codes "image") path e (λ same. cc) below

-- The files of the image are as they were.
pub image_kept : (old new : History) → Touches IsInStore old new → (path : Names) → is_image path ≡ true
    → bytes_at (tree_of new) path ≡ bytes_at (tree_of old) path
image_kept old new touches path e = ap file_in (tree_untouched IsInStore old new touches path (image_apart path e))

module _ (etc : Files) (old new : History) (touches : Touches IsInStore old new) (here : HasFiles etc (tree_of old)) where
  -- The configuration files are as they were,
  pub files_stand : HasFiles etc (tree_of new)
  files_stand = record { each = λ path e. ap file_in (tree_untouched IsInStore old new touches path (etc_apart path e)) ∙ here.each path e }

  -- and so is what a crash leaves.
  pub files_left : IsSettled old → EachSince (HasFiles etc) old new
  files_left settled = since_goes (HasFiles etc) (IsAtOrSync IsInStore) old new
      (λ h goes crashed is. record {
        each = λ path e.
            ap file_in (settled path (node_at crashed path) (may_leave_untouched IsInStore old h goes path (etc_apart path e) (node_at crashed path) (is path)))
            ∙ here.each path e;
      })
      touches

-- ---- where the disk is at a world

-- The configuration files of the tree are those of W, but for some that are due.
abbrev pub HasLeft : Image → World → Tree → Type 0
HasLeft I W c = (path : Names) → is_etc path ≡ true → (bytes_at c path ≡ get W.etc path) ⊎ IsDuePath I W.held path

module _ (I : Image) (folder : Folder) (W : World) (old new : History) (touches : Touches IsInStore old new) (disk : DiskAt I folder W W old) where
  -- A crash at any moment leaves such,
  pub due_left : EachSince (HasLeft I W) old new
  due_left = since_goes (HasLeft I W) (IsAtOrSync IsInStore) old new
      (λ h goes crashed is path e. ⊎_elim (λ same. inl same) (λ due. inr due.0)
      (disk.unsettled path (node_at crashed path) e (may_leave_untouched IsInStore old h goes path (etc_apart path e) (node_at crashed path) (is path))))
      touches

  pub image_stands : (path : Names) → is_image path ≡ true → bytes_at (tree_of new) path ≡ folder path
  image_stands path e = image_kept old new touches path e ∙ disk.image path e

  -- and where it leaves the store as it was, the disk is at the world still.
  pub stays_at : HasStore W (tree_of new) → EachCrashState (HasStore W) new → DiskAt I folder W W new
  stays_at store crash_states = record {
    store = store;
    etc = files_stand W.etc old new touches disk.etc;
    image = image_stands;
    crash_states = λ c left. inl (crash_states c left);
    same_etc = refl;
    unsettled = λ path node e left. disk.unsettled path node e (may_leave_untouched IsInStore old new touches path (etc_apart path e) node left);
  }
