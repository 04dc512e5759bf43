-- What is touched says what stays.
use Rattle.std.proofs.Common.{◌≡◌, ◌⊎◌, inl, inr, ℕ, true, List, ◌∷◌, ◌++◌, codes, sym, ◌∙◌, ap}
use Rattle.outside.specs.Names.{Names}
use Rattle.outside.specs.Tree.{Tree}
use Rattle.outside.specs.History.{History}
use Rattle.outside.specs.Since.{IsAtOrSync, Touches}
use Rattle.outside.proofs.Goes.{goes_stay, tree_untouched, since_untouched_at}
use Rattle.settings_machine.specs.World.{Image}
use Rattle.settings_machine.specs.Events.{Event}
use Rattle.machine_disk.specs.Store.{is_store}
use Rattle.machine_disk.specs.Touched.{IsFilePath, MayChange, TouchesOwn}
use Rattle.machine_disk.proofs.Apart.{first_name}
use Rattle.machine_disk.proofs.Settled.{in_store, dir_named}
use Rattle.machine_disk.proofs.Touched.{touches_more}
use Rattle.version_links.specs.Chain.{Resolves, found}
use Rattle.version_links.specs.Names.{store, name_of, numbers}
use Rattle.version_links.specs.declared.version.Version.{Version}
use Rattle.migrate_chain.specs.Store.{IsInOther}
use Rattle.command_words.specs.Orders.{Order, init, serve, set, get, apply, verify, check, migrate, prune, load, generate, user_data}
use Rattle.command_words.specs.Orders.{dump, restore, forget}
use Rattle.settings_run.specs.Touched.{ChangesOnly, MayTouch, StaysElsewhere, TouchesWithin, OtherStoresStay}

pub changes_only : (P : Names → Type 0) (old new : History) → Touches P old new → ChangesOnly P old new
changes_only P old new touches = record {
  touches = touches;
  tree = λ path apart. tree_untouched P old new touches path apart;
  crash_states = λ path apart. since_untouched_at P path apart old new touches;
}

-- Nothing happened.
pub changes_none : (P : Names → Type 0) (h : History) → ChangesOnly P h h
changes_none P h = changes_only P h h (goes_stay (IsAtOrSync P) h)

module _ (order : Order) (I : Image) (events : List Event) where
  pub none_elsewhere : (h : History) → StaysElsewhere order I events h h
  none_elsewhere h version directory leads = changes_none (MayTouch order I events directory) h

  -- A run of the machine that touches its own paths, by an order that may.
  pub own_elsewhere : (old new : History) → ((directory path : Names) → MayChange I events directory path → MayTouch order I events directory path)
      → TouchesOwn I events old new → StaysElsewhere order I events old new
  own_elsewhere old new may touches version directory leads = changes_only (MayTouch order I events directory) old new
      (touches_more (MayChange I events directory) (MayTouch order I events directory) old new (may directory) (touches version directory leads))

-- ---- where it is

-- What is below a data directory is in the folder `store`.
below_in_store : (n name : List ℕ) (rest path : Names) → path ≡ store n ++ name ∷ rest → is_store path ≡ true
below_in_store n name rest path is = ap is_store is ∙ in_store n (name ∷ rest)

other_in_store : (directory path : Names) → IsInOther directory path → is_store path ≡ true
other_in_store directory path is = below_in_store (name_of (numbers is.target)) is.below.0 is.below.1 path is.below.2

module _ (I : Image) (events : List Event) (tree : Tree) (version : Version) (directory : Names) (leads : Resolves tree (found version directory))
    (path : Names) where
  change_within : MayChange I events directory path → (is_store path ≡ true) ⊎ IsFilePath I path
  change_within (inl below) =
      let named = dir_named tree version directory leads in
      inl (below_in_store named.0 below.0 below.1 path (below.2 ∙ ap (λ (d : Names). d ++ below.0 ∷ below.1) named.1))
  change_within (inr (turn, is)) = inr is

  other_stays : IsInOther directory path → MayChange I events directory path → ⊥
  other_stays other (inl below) =
      let named = dir_named tree version directory leads in
      let same : codes "store" ∷ name_of (numbers other.target) ∷ other.below.0 ∷ other.below.1 ≡ codes "store" ∷ named.0 ∷ below.0 ∷ below.1 =
      sym other.below.2 ∙ below.2 ∙ ap (λ (d : Names). d ++ below.0 ∷ below.1) named.1 in
      let names : name_of (numbers other.target) ≡ named.0 = cc same in
      other.other (ap store names ∙ sym named.1)
  other_stays other (inr (turn, is)) =
      let named = first_name (codes "etc") path is.below in
      let same : codes "etc" ∷ named.0 ≡ codes "store" ∷ name_of (numbers other.target) ∷ other.below.0 ∷ other.below.1 =
      sym named.1 ∙ other.below.2 in
      absurd (cc same)

pub touches_within : TouchesWithin
touches_within (init to) I events tree version directory leads path may = absurd may
touches_within (serve boot slice while_idle connections quiet) I events tree version directory leads path may =
    change_within I events tree version directory leads path may
touches_within (set pairs) I events tree version directory leads path may = change_within I events tree version directory leads path may
touches_within (get keys) I events tree version directory leads path may = change_within I events tree version directory leads path may
touches_within (apply all) I events tree version directory leads path may = change_within I events tree version directory leads path may
touches_within verify I events tree version directory leads path may = change_within I events tree version directory leads path may
touches_within (check store) I events tree version directory leads path may = absurd may
touches_within (migrate to) I events tree version directory leads path may = inl may
touches_within prune I events tree version directory leads path may = inl (other_in_store directory path may)
touches_within (load count) I events tree version directory leads path may = absurd may
touches_within generate I events tree version directory leads path may = change_within I events tree version directory leads path may
touches_within (user_data from) I events tree version directory leads path may = change_within I events tree version directory leads path may
touches_within dump I events tree version directory leads path may = change_within I events tree version directory leads path may
touches_within (restore from) I events tree version directory leads path may = absurd may
touches_within (forget keys) I events tree version directory leads path may = change_within I events tree version directory leads path may

pub other_stores_stay : OtherStoresStay
other_stores_stay = other_stays
