-- What it does to a disk to begin a store.
use Rattle.std.specs.Prelude.{◌≡◌, ◌⊎◌, [], ◌∷◌, codes, Result, OnOk, IfErr, IsErrOf}
use Rattle.outside.specs.Names.{Names}
use Rattle.outside.specs.Tree.{Tree}
use Rattle.outside.specs.History.{History, tree_of, IsSettledOn}
use Rattle.outside.specs.Since.{EachSince, Touches}
use Rattle.commit_journal.specs.Files.{IsBelow}
use Rattle.commit_journal.specs.Stands.{ChangesOnlyBelow}
use Rattle.settings_tree.specs.declared.held.Held.{Held}
use Rattle.version_links.specs.Fresh.{IsFree}
use Rattle.version_links.specs.Chain.{nowhere, found, bad, Resolves}
use Rattle.version_links.specs.Names.{Target, directory, is_in_store}
use Rattle.version_links.specs.declared.version.Version.{Version}
use Rattle.store_open.specs.World.{World, HasWorld, IsAtRest}
use Rattle.store_open.specs.declared.begin_error.InitError.{InitError}
use Rattle.store_open.specs.declared.begin_error.InitError.TheVariants as refused

-- The world in which a store that holds this begins, in the data directory of the target.
abbrev pub first_world : Target → Held → World
first_world target held = record { version = target.version; directory = directory target; format = 2; held = held }

-- The tree holds the first world of a store of this version that holds this.
pub record HasBegun (version : Version) (held : Held) (tree : Tree) : Type 0 where
  pub target : Target
  pub version_is : target.version ≡ version
  pub world : HasWorld (first_world target held) tree

-- The disk is at rest in the first world of such a store.
pub record IsBegun (version : Version) (held : Held) (history : History) : Type 0 where
  pub target : Target
  pub version_is : target.version ≡ version
  pub rest : IsAtRest (first_world target held) history

-- A store of this version that holds this is begun.
pub record Begins (version : Version) (held : Held) (result : Result (Unit {0}) InitError) (old new : History) : Type 0 where
  -- Where no store is there and the links are settled, a crash leaves no store, or the first world of one, whole.
  pub any_moment : IsSettledOn is_in_store old → Resolves (tree_of old) nowhere
      → EachSince (λ crashed. Resolves crashed nowhere ⊎ HasBegun version held crashed) old new
  -- After Ok no store was there, and its first world is on the disk.
  pub done : OnOk result (Resolves (tree_of old) nowhere × IsBegun version held new)
  -- Nothing changes but in the store, and nothing at all where a store is there already.
  pub others : ChangesOnlyBelow (codes "store" ∷ []) old new
  pub still : (other : Version) (path : Names) → Resolves (tree_of old) (found other path) → new ≡ old
  -- A store is there, of this version.
  pub there : (other : Version) → IsErrOf result (refused.AlreadyThere other) → (path : Names) × Resolves (tree_of old) (found other path) × (new ≡ old)
  -- A link is bad.
  pub bad_link : (path : Names) → IsErrOf result (refused.BadLink path) → Resolves (tree_of old) (bad path) × (new ≡ old)

-- For private clauses: the first world of a store is saved into a free directory, and the links are pointed there.
pub record Places (target : Target) (held : Held) (result : Result (Unit {0}) InitError) (old new : History) : Type 0 where
  pub any_moment : IsSettledOn is_in_store old → IsFree (tree_of old) target → Resolves (tree_of old) nowhere
      → EachSince (λ crashed. Resolves crashed nowhere ⊎ HasWorld (first_world target held) crashed) old new
  pub done : OnOk result (IsFree (tree_of old) target → IsAtRest (first_world target held) new)
  pub touches : Touches (IsBelow (codes "store" ∷ [])) old new
  pub plain : IfErr result (λ e. (e ≡ refused.Failed) ⊎ (e ≡ refused.Memory))
