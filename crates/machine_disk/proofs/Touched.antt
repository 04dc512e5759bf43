-- Calls touch what is their own, one after another too.
use Rattle.std.proofs.Common.{◌≡◌, inl, inr, true, ℕ, List, [], ◌∷◌, ◌++◌, codes, Option, sym, subst}
use Rattle.outside.specs.Names.{Names}
use Rattle.outside.specs.Tree.{Node, Tree}
use Rattle.outside.specs.History.{Change, replaced, scribbled, synced, History, next as then, tree_of}
use Rattle.outside.specs.Since.{IsAtOrSync, Touches}
use Rattle.outside.proofs.Goes.{goes_stay, goes_next, goes_joined, goes_map, tree_untouched}
use Rattle.commit_journal.specs.Files.{IsBelow}
use Rattle.commit_journal.specs.Stands.{ChangesOnlyBelow}
use Rattle.commit_journal.specs.Recovery.{FromSyncOn}
use Rattle.version_links.specs.Chain.{Resolves, found}
use Rattle.version_links.specs.Names.{store}
use Rattle.version_links.specs.declared.version.Version.{Version}
use Rattle.version_links.proofs.Chains.{resolves_one}
use Rattle.settings_machine.specs.World.{Image, is_etc}
use Rattle.settings_machine.specs.Events.{Event, Turned}
use Rattle.settings_machine.proofs.Elements.{among_left, among_right}
use Rattle.machine_disk.specs.Store.{is_store}
use Rattle.machine_disk.specs.Touched.{IsFilePath, HasTurn, MayChange, TouchesOwn}
use Rattle.machine_disk.proofs.Settled.{in_store, SameLinks, resolves_same}
use Rattle.machine_disk.proofs.Apart.{dir_apart}

-- ---- more paths

at_more : (P Q : Names → Type 0) → ((path : Names) → P path → Q path) → (change : Change) → IsAtOrSync P change → IsAtOrSync Q change
at_more P Q more (replaced path now) at = more path at
at_more P Q more (scribbled path now) at = more path at
at_more P Q more synced at = tt

-- Where no path is touched but these, none is but these and more.
pub touches_more : (P Q : Names → Type 0) (old new : History) → ((path : Names) → P path → Q path) → Touches P old new → Touches Q old new
touches_more P Q old new more = goes_map (IsAtOrSync P) (IsAtOrSync Q) old new (at_more P Q more)

-- What is strictly below the folder of the store is in it.
pub in_store_touched : (old new : History) → Touches (IsBelow (codes "store" ∷ [])) old new → Touches (λ path. is_store path ≡ true) old new
in_store_touched old new = touches_more (IsBelow (codes "store" ∷ [])) (λ path. is_store path ≡ true) old new
    (λ path below. subst (λ (p : Names). is_store p ≡ true) (sym below.2) (in_store below.0 below.1))

module _ (I : Image) where
  -- ---- one call

  -- Nothing is changed,
  pub own_none : (es : List Event) (h : History) → TouchesOwn I es h h
  own_none es h version directory leads = goes_stay (IsAtOrSync (MayChange I es directory)) h

  -- or the disk is synced,
  pub own_synced : (es : List Event) (h : History) → TouchesOwn I es h (then synced h)
  own_synced es h version directory leads =
      goes_next (IsAtOrSync (MayChange I es directory)) h h synced (goes_stay (IsAtOrSync (MayChange I es directory)) h) tt

  -- or a turn writes a file of the manifest,
  pub own_written : (es : List Event) → HasTurn es → (path : Names) (node : Option Node) (h : History) → IsFilePath I path
      → TouchesOwn I es h (then (scribbled path node) h)
  own_written es turn path node h is version directory leads =
      goes_next (IsAtOrSync (MayChange I es directory)) h h (scribbled path node) (goes_stay (IsAtOrSync (MayChange I es directory)) h) (inr (turn, is))

  module _ (es : List Event) (old new : History) (version : Version) (directory : Names) (leads : Resolves (tree_of old) (found version directory)) where
    -- or only the data directory is changed,
    pub own_below : Touches (IsBelow directory) old new → TouchesOwn I es old new
    own_below touches v d led =
        let one : found version directory ≡ found v d = resolves_one (tree_of old) _ _ leads led in
        let same : directory ≡ d = cc in
        subst (λ (dir : Names). Touches (MayChange I es dir) old new) same
        (touches_more (IsBelow directory) (MayChange I es directory) old new (λ path below. inl below) touches)

    -- once the disk was synced.
    pub own_from_sync : FromSyncOn (ChangesOnlyBelow directory) old new → TouchesOwn I es old new
    own_from_sync (inl same) = subst (TouchesOwn I es old) (sym same) (own_none es old)
    own_from_sync (inr changes) = own_below (goes_joined (IsAtOrSync (IsBelow directory)) old (then synced old) new
        (goes_next (IsAtOrSync (IsBelow directory)) old old synced (goes_stay (IsAtOrSync (IsBelow directory)) old) tt) changes.touches)

  -- ---- one call after another

  no_link : (es : List Event) (tree : Tree) (version : Version) (directory : Names) → Resolves tree (found version directory) → (name : List ℕ)
      → MayChange I es directory (store name) → ⊥
  no_link es tree version directory leads name (inl below) = (dir_apart tree version directory leads).link name below
  no_link es tree version directory leads name (inr (turn, is)) = by is.below where
    by : is_etc (store name) ≡ true → ⊥
    by e = absurd (cc e)

  -- The links lead where they led.
  own_leads : (es : List Event) (old new : History) → TouchesOwn I es old new → (version : Version) (directory : Names)
      → Resolves (tree_of old) (found version directory)
      → Resolves (tree_of new) (found version directory)
  own_leads es old new touches version directory leads = resolves_same (tree_of new) (tree_of old) links version directory leads where
    links : SameLinks (tree_of new) (tree_of old)
    links = record {
      same = λ name. tree_untouched (MayChange I es directory) old new (touches version directory leads) (store name)
          (no_link es (tree_of old) version directory leads name);
    }

  -- What the first events may change all may,
  change_left : (es fs : List Event) (directory path : Names) → MayChange I es directory path → MayChange I (es ++ fs) directory path
  change_left es fs directory path (inl below) = inl below
  change_left es fs directory path (inr ((answer, at), is)) = inr ((answer, among_left es fs (Turned answer) at), is)

  -- and so with the later ones.
  change_right : (es fs : List Event) (directory path : Names) → MayChange I fs directory path → MayChange I (es ++ fs) directory path
  change_right es fs directory path (inl below) = inl below
  change_right es fs directory path (inr ((answer, at), is)) = inr ((answer, among_right es fs (Turned answer) at), is)

  -- A call that touches the data directory alone may be one of any events.
  pub own_of_any : (es : List Event) (old new : History) → TouchesOwn I [] old new → TouchesOwn I es old new
  own_of_any es old new touches version directory leads =
      touches_more (MayChange I [] directory) (MayChange I es directory) old new (change_left [] es directory) (touches version directory leads)

  -- One call after another.
  pub own_more : (es fs : List Event) (old mid new : History) → TouchesOwn I es old mid → TouchesOwn I fs mid new → TouchesOwn I (es ++ fs) old new
  own_more es fs old mid new one two version directory leads = goes_joined (IsAtOrSync (MayChange I (es ++ fs) directory)) old mid new
      (touches_more (MayChange I es directory) (MayChange I (es ++ fs) directory) old mid (change_left es fs directory) (one version directory leads))
      (touches_more (MayChange I fs directory) (MayChange I (es ++ fs) directory) mid new (change_right es fs directory)
      (two version directory (own_leads es old mid one version directory leads)))
