-- Data directories to which the links don't lead are emptied.
use Rattle.std.specs.Prelude.{◌≡◌, ◌⊎◌, ◌+◌, ◌∷◌, [], codes, ℕ, List, None, Result, OnOk, IfOk, IsErrOf}
use Rattle.outside.specs.Names.{Names}
use Rattle.outside.specs.Tree.{node_at, paths_below}
use Rattle.outside.specs.History.{History, tree_of, IsSettled}
use Rattle.outside.specs.Since.{EachSince, Touches}
use Rattle.commit_journal.specs.Recovery.{FromSyncOn}
use Rattle.settings_tree.specs.declared.held.Held.{Held}
use Rattle.version_links.specs.declared.chain.Place.{Place}
use Rattle.version_links.specs.Chain.{nowhere, bad, Resolves}
use Rattle.migrate_chain.specs.Store.{at_place, HasStore, IsInOther, IsLeftOver}
use Rattle.migrate_chain.specs.declared.prune_error.PruneError.{PruneError}
use Rattle.migrate_chain.specs.declared.prune_error.PruneError.TheVariants.{NoStore, BadLink}

-- So many of the paths have P.
abbrev pub SoMany : (Names → Type 0) → List Names → ℕ → Type 0
SoMany P [] count = count ≡ 0
SoMany P (path ∷ paths) count = ((before : ℕ) × P path × (count ≡ before + 1) × SoMany P paths before) ⊎ ((P path → ⊥) × SoMany P paths count)

-- The paths of all nodes in the folder of all stores.
abbrev pub paths_in_store : History → List Names
paths_in_store history = paths_below (codes "store" ∷ []) (tree_of history)

-- Files below other data directories are removed than the one to which the links lead.
pub record Prunes (result : Result ℕ PruneError) (old new : History) : Type 0 where
  -- Before the first sync nothing is written, and after it only below other data directories.
  pub sync_first : (place : Place) → Resolves (tree_of old) (at_place place) → FromSyncOn (Touches (IsInOther place.directory)) old new
  -- From that sync on each crash state has the store where it was and as it was, with the journal that may be in it.
  pub keeps : (place : Place) (held : Held) (format : ℕ) → HasStore place held format (tree_of old)
      → FromSyncOn (EachSince (HasStore place held format)) old new
  -- On a settled disk this is so from the start.
  pub kept : (place : Place) (held : Held) (format : ℕ) → IsSettled old → HasStore place held format (tree_of old)
      → EachSince (HasStore place held format) old new
  -- After Ok nothing is left below another data directory.
  pub emptied : OnOk result ((place : Place) → Resolves (tree_of old) (at_place place)
      → (path : Names) → IsLeftOver place.directory path → node_at (tree_of new) path ≡ None)
  -- The answer is how many nodes were there.
  pub counted : IfOk result (λ count. (place : Place) → Resolves (tree_of old) (at_place place)
      → SoMany (IsLeftOver place.directory) (paths_in_store old) count)
  -- Ok comes only where the links lead to a data directory.
  pub led : OnOk result ((place : Place) × Resolves (tree_of old) (at_place place))
  -- Where no store or a bad link is, nothing is changed.
  pub no_store : IsErrOf result NoStore → Resolves (tree_of old) nowhere × (new ≡ old)
  pub bad_link : (path : Names) → IsErrOf result (BadLink path) → Resolves (tree_of old) (bad path) × (new ≡ old)
