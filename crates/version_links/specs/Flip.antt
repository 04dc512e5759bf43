-- What it does to a disk to point the links to another data directory.
use Rattle.std.specs.Prelude.{◌≡◌, ◌⊎◌, ℕ, List, [], ◌∷◌, ◌++◌, codes, Some, Result, Ok, Err, OnOk}
use Rattle.outside.specs.Names.{Names}
use Rattle.outside.specs.Tree.{link, Tree, node_at, set_node}
use Rattle.outside.specs.History.{replaced, synced, History, next, tree_of, MayLeave, IsSettled, IsSettledOn}
use Rattle.outside.specs.Since.{EachSince, Touches}
use Rattle.version_links.specs.Names.{Target, major_name, minor_name, patch_name, directory_name, store, is_in_store}
use Rattle.version_links.specs.Chain.{LeadsTo, Outcome, Resolves}

-- A relink is the path of a link and its new text.
abbrev pub Relink : Type 0
Relink = Names × List ℕ

-- The relinks that lead to a data directory, the link next to it first and `current` last.
abbrev pub relinks_to : Target → List Relink
relinks_to target = let v = target.version in
    (store (patch_name v.major v.minor v.patch), directory_name v.major v.minor v.patch target.id)
    ∷ (store (minor_name v.major v.minor), patch_name v.major v.minor v.patch)
    ∷ (store (major_name v.major), minor_name v.major v.minor)
    ∷ (store (codes "current"), major_name v.major) ∷ []

-- The disk after a relink.
abbrev pub relinked : Relink → History → History
relinked relink old = next (replaced relink.0 (Some (link relink.1))) old

-- The disk after a relink and a sync.
abbrev pub kept : Relink → History → History
kept relink old = next synced (relinked relink old)

-- A relink is made and synced, or at an error made at most.
abbrev pub Keeps : {E : Type 0} → Relink → Result Unit E → History → History → Type 0
Keeps relink (Ok done) old new = new ≡ kept relink old
Keeps relink (Err e) old new = (new ≡ old) ⊎ (new ≡ relinked relink old)

-- Relinks are made in this order, each with its sync, and at an error up to one that isn't kept.
abbrev pub KeepsAll : {E : Type 0} → List Relink → Result Unit E → History → History → Type 0
KeepsAll [] (Ok done) old new = new ≡ old
KeepsAll [] (Err e) old new = ⊥
KeepsAll {E = E} (relink ∷ relinks) (Ok done) old new = KeepsAll {E = E} relinks (Ok done) (kept relink old) new
KeepsAll {E = E} (relink ∷ relinks) (Err e) old new = Keeps relink (Err e) old new ⊎ KeepsAll {E = E} relinks (Err e) (kept relink old) new

-- The trees after each of the relinks.
abbrev pub trees_after : List Relink → Tree → List Tree
trees_after [] tree = []
trees_after (relink ∷ relinks) tree = let then = set_node tree relink.0 (Some (link relink.1)) in then ∷ trees_after relinks then

-- Each of the trees has P.
abbrev pub EachTree : (Tree → Type 0) → List Tree → Type 0
EachTree P [] = Unit {0}
EachTree P (tree ∷ trees) = P tree × EachTree P trees

-- The first of the trees, or none of them, resolve as before, and the others lead to the data directory: one step alone changes where the links lead.
pub record TurnsOnce (before : Outcome) (target : Target) (trees : List Tree) : Type 0 where
  pub first : List Tree
  pub others : List Tree
  pub are : trees ≡ first ++ others
  pub same : EachTree (λ tree. Resolves tree before) first
  pub turned : EachTree (λ tree. LeadsTo tree target) others

-- The links lead where they led before, or to the data directory.
abbrev pub ResolvesToEither : Outcome → Target → Tree → Type 0
ResolvesToEither before target tree = Resolves tree before ⊎ LeadsTo tree target

-- The path is that of one of the links that lead to a data directory.
abbrev pub IsLinkTo : Target → Names → Type 0
IsLinkTo target path = let v = target.version in
    (path ≡ store (patch_name v.major v.minor v.patch)) ⊎ (path ≡ store (minor_name v.major v.minor)) ⊎ (path ≡ store (major_name v.major))
    ⊎ (path ≡ store (codes "current"))

-- Only the links that lead to a data directory change: each other path keeps its node, and a crash since the start leaves there what it might have left at
-- the start.
pub record ChangesOnlyLinks (target : Target) (old new : History) : Type 0 where
  pub touches : Touches (IsLinkTo target) old new
  pub tree : (path : Names) → (IsLinkTo target path → ⊥) → node_at (tree_of new) path ≡ node_at (tree_of old) path
  pub crash_states : (path : Names) → (IsLinkTo target path → ⊥) → EachSince (λ crashed. MayLeave old path (node_at crashed path)) old new

-- The links are pointed to a data directory.
pub record Flips {E : Type 0} (target : Target) (result : Result Unit E) (old new : History) : Type 0 where
  -- The relinks are made from the data directory up to `current`, each with its sync.
  pub order : KeepsAll (relinks_to target) result old new
  -- Where the links are settled at the start, they lead in every crash state since then where they led at the start, or to the data directory.
  pub any_moment : (before : Outcome) → IsSettledOn is_in_store old → Resolves (tree_of old) before → EachSince (ResolvesToEither before target) old new
  -- They lead so in the tree too, whatever a crash may leave.
  pub tree : (before : Outcome) → Resolves (tree_of old) before → ResolvesToEither before target (tree_of new)
  -- One relink alone changes where they lead, or none where they led to the data directory already.
  pub once : (before : Outcome) → Resolves (tree_of old) before → TurnsOnce before target (trees_after (relinks_to target) (tree_of old))
  -- After Ok they lead to the data directory, and this is on the disk.
  pub done : OnOk result (LeadsTo (tree_of new) target × IsSettled new)
  -- Elsewhere all stays as it was.
  pub others : ChangesOnlyLinks target old new
