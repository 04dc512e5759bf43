-- What a move leaves alone: the links, and the data directory to which they lead.
use Rattle.std.proofs.Common.{◌≡◌, inl, inr, ◌⊎◌, ℕ, List, [], ◌∷◌, ◌++◌, true, refl, sym, ◌∙◌, ap, subst, Result}
use Rattle.std.proofs.lemmas.Bool.{false≢true}
use Rattle.outside.specs.Names.{Names}
use Rattle.outside.specs.Tree.{Tree, node_at}
use Rattle.outside.specs.History.{History, tree_of, IsSettledAt, IsSettled}
use Rattle.outside.specs.Since.{EachSince, IsAtOrSync, Touches}
use Rattle.outside.proofs.Goes.{since_goes, may_leave_untouched, tree_untouched, goes_stay, goes_joined}
use Rattle.outside.proofs.Since.{since_map, since_both}
use Rattle.commit_journal.specs.Files.{files_below, IsBelow}
use Rattle.settings_tree.specs.declared.held.Held.{Held}
use Rattle.fs_datastore.specs.Stands.{Stands}
use Rattle.fs_datastore.proofs.Alike.{stand_alike, stands_without_journal}
use Rattle.version_links.specs.declared.chain.Place.{Place}
use Rattle.version_links.specs.Names.{Target, directory, name_of, numbers, store, is_in_store}
use Rattle.version_links.specs.Chain.{Resolves}
use Rattle.version_links.specs.Flip.{ResolvesToEither, IsLinkTo, Flips}
use Rattle.version_links.proofs.Turns.{same_outcome}
use Rattle.migrate_chain.specs.Store.{StandsIn, at_place, HasStore, IsInOther, HasEither, TouchesOthers}

-- ---- paths that are not touched

-- At paths that are not touched each crash state has what the tree had.
pub paths_kept : (Q R : Names → Type 0) → ((p : Names) → R p → Q p → ⊥) → (old new : History) → Touches Q old new → ((p : Names) → R p → IsSettledAt old p)
    → EachSince (λ crashed. (p : Names) → R p → node_at crashed p ≡ node_at (tree_of old) p) old new
paths_kept Q R apart old new touches settled =
    since_goes (λ crashed. (p : Names) → R p → node_at crashed p ≡ node_at (tree_of old) p) (IsAtOrSync Q) old new
    (λ h goes crashed is. λ p at. settled p at (node_at crashed p) (may_leave_untouched Q old h goes p (apart p at) (node_at crashed p) (is p))) touches

-- The first name of a path, and the second.
first : Names → List ℕ
first [] = []
first (a ∷ rest) = a

second : Names → List ℕ
second [] = []
second (a ∷ []) = []
second (a ∷ b ∷ rest) = b

seconds_same : (p q : Names) → p ≡ q → second p ≡ second q
seconds_same p q e = ap second e

second_is : (x name : List ℕ) (rest : Names) → second (store x ++ name ∷ rest) ≡ x
unfolding second
second_is x name rest = refl

-- The path is that of a link, or below the data directory.
abbrev pub Matters : Names → Names → Type 0
Matters dir p = (is_in_store p ≡ true) ⊎ IsBelow dir p

-- A path below a data directory is no link's.
pub below_no_link : (target : Target) (p : Names) → IsBelow (directory target) p → is_in_store p ≡ true → ⊥
below_no_link target p (name, rest, is) link = false≢true (ap is_in_store (sym is) ∙ link)

-- A path below another data directory does not matter to this one.
pub other_apart : (target : Target) (p : Names) → Matters (directory target) p → IsInOther (directory target) p → ⊥
other_apart target p (inl link) other = below_no_link other.target p other.below link
other_apart target p (inr (name, rest, is)) other =
    let same : name_of (numbers other.target) ≡ name_of (numbers target) =
    sym (second_is (name_of (numbers other.target)) other.below.0 other.below.1) ∙ seconds_same _ _ (sym other.below.2 ∙ is)
    ∙ second_is (name_of (numbers target)) name rest in
    other.other (ap store same)

-- A link's path is below no data directory.
pub link_apart : (target there : Target) (p : Names) → IsBelow (directory there) p → IsLinkTo target p → ⊥
link_apart target there p below (inl is) = below_no_link there p below (ap is_in_store is)
link_apart target there p below (inr (inl is)) = below_no_link there p below (ap is_in_store is)
link_apart target there p below (inr (inr (inl is))) = below_no_link there p below (ap is_in_store is)
link_apart target there p below (inr (inr (inr is))) = below_no_link there p below (ap is_in_store is)

-- ---- what files represent

-- What files represent, those that are alike below the directory represent.
pub stands_alike : (dir : Names) (held : Held) (format : ℕ) (one other : Tree) → ((p : Names) → IsBelow dir p → node_at one p ≡ node_at other p)
    → Stands (files_below dir other) held format → Stands (files_below dir one) held format
stands_alike dir held format one other same stands =
    stand_alike (files_below dir other) (files_below dir one) held format (λ name rest. sym (same (dir ++ name ∷ rest) (name, rest, refl))) stands

-- What represents something without a journal is found so where the files below are alike.
pub standing : (dir : Names) (held : Held) (format : ℕ) (one other : Tree) → ((p : Names) → IsBelow dir p → node_at one p ≡ node_at other p)
    → Stands (files_below dir other) held format → StandsIn dir held format one
standing dir held format one other same stands =
    let here = stands_alike dir held format one other same stands in
    record { files = files_below dir one; found = inl (stands_without_journal (files_below dir one) held format here, refl); stands = here }

-- ---- the store

module _ (place : Place) (held : Held) (format : ℕ) where
  -- Trees with the same links and the same files below the directory have the same store.
  store_alike : (one other : Tree) → ((p : Names) → Matters place.directory p → node_at one p ≡ node_at other p) → Resolves other (at_place place)
      → Stands (files_below place.directory other) held format → HasStore place held format one
  store_alike one other same led stands = record {
    led = same_outcome one other (record { same = λ p pass. same p (inl pass) }) (at_place place) led;
    stands = standing place.directory held format one other (λ p below. same p (inr below)) stands;
  }

  -- Changes below other data directories leave the store as it is, at every moment.
  pub store_kept : (old new : History) → IsSettled old → Resolves (tree_of old) (at_place place)
      → Stands (files_below place.directory (tree_of old)) held format → Touches (IsInOther place.directory) old new
      → EachSince (HasStore place held format) old new
  store_kept old new settled (id, led, at) stands touches =
      let there : Target = record { version = place.version; id = id } in
      since_map (λ crashed. (p : Names) → Matters place.directory p → node_at crashed p ≡ node_at (tree_of old) p) (HasStore place held format) old new
      (λ crashed same. store_alike crashed (tree_of old) same (id, led, at) stands)
      (paths_kept (IsInOther place.directory) (Matters place.directory)
      (λ p matters other. other_apart there p (subst (λ d. Matters d p) at matters) (subst (λ d. IsInOther d p) at other)) old new touches
      (λ p matters. settled p))

-- ---- the links are pointed to a copy

module _ (place : Place) (held : Held) (format : ℕ) (target : Target) (made : Held) where
  abbrev Below : Names → Type 0
  Below p = IsBelow place.directory p ⊎ IsBelow (directory target) p

  either : (crashed tree : Tree) → ResolvesToEither (at_place place) target crashed → ((p : Names) → Below p → node_at crashed p ≡ node_at tree p)
      → Stands (files_below place.directory tree) held format → Stands (files_below (directory target) tree) made 2
      → HasEither place held format target made crashed
  either crashed tree (inl led) same old new = inl (record {
    led = led;
    stands =
        standing place.directory held format crashed tree (λ p below. same p (inl below)) old;
  })
  either crashed tree (inr led) same old new = inr (record {
    led = (target.id, led, refl);
    stands =
        standing (directory target) made 2 crashed tree (λ p below. same p (inr below)) new;
  })

  -- At every moment the store is at its old place or at the new one, complete.
  pub flipped : {E : Type 0} (result : Result Unit E) (old new : History) → IsSettled old → Resolves (tree_of old) (at_place place)
      → Stands (files_below place.directory (tree_of old)) held format → Stands (files_below (directory target) (tree_of old)) made 2
      → Flips target result old new → EachSince (HasEither place held format target made) old new
  flipped result old new settled (id, led, at) before after flips =
      let there : Target = record { version = place.version; id = id } in
      since_map (λ crashed. ResolvesToEither (at_place place) target crashed × ((p : Names) → Below p → node_at crashed p ≡ node_at (tree_of old) p))
      (HasEither place held format target made) old new
      (λ crashed both. either crashed (tree_of old) both.0 both.1 before after)
      (since_both (ResolvesToEither (at_place place) target) (λ crashed. (p : Names) → Below p → node_at crashed p ≡ node_at (tree_of old) p) old new
      (flips.any_moment (at_place place) (record { at = λ p pass. settled p }) (id, led, at))
      (paths_kept (IsLinkTo target) Below (λ p below link. elim below [
        | inl here ↦ link_apart target there p (subst (λ d. IsBelow d p) at here) link
        | inr here
            ↦ link_apart target target p here link
      ]) old new flips.others.touches (λ p below. settled p)))

-- ---- changes below other data directories, one after another

module _ (place : Place) (old new : History) (led : Resolves (tree_of old) (at_place place)) (touches : Touches (IsInOther place.directory) old new) where
  there : Target
  there = record { version = place.version; id = led.0 }

  untouched : (p : Names) → Matters place.directory p → node_at (tree_of new) p ≡ node_at (tree_of old) p
  unfolding there
  untouched p matters = tree_untouched (IsInOther place.directory) old new touches p
      (λ other. other_apart there p (subst (λ d. Matters d p) led.2 matters) (subst (λ d. IsInOther d p) led.2 other))

  -- The links lead where they led.
  pub led_on : Resolves (tree_of new) (at_place place)
  led_on = same_outcome (tree_of new) (tree_of old) (record { same = λ p pass. untouched p (inl pass) }) (at_place place) led

  -- The files represent what they represented.
  pub stands_on : (held : Held) (format : ℕ) → Stands (files_below place.directory (tree_of old)) held format
      → Stands (files_below place.directory (tree_of new)) held format
  stands_on held format stands = stands_alike place.directory held format (tree_of new) (tree_of old) (λ p below. untouched p (inr below)) stands

pub others_stay : (h : History) → TouchesOthers h h
others_stay h = record { touches = λ place led. goes_stay (IsAtOrSync (IsInOther place.directory)) h }

pub others_joined : (a b c : History) → TouchesOthers a b → TouchesOthers b c → TouchesOthers a c
others_joined a b c one two = record {
  touches = λ place led. goes_joined (IsAtOrSync (IsInOther place.directory)) a b c (one.touches place led)
      (two.touches place (led_on place a b led (one.touches place led)));
}
