-- The chain of links from `current` to a data directory.
use Rattle.std.specs.Prelude.{◌≡◌, ◌≢◌, ℕ, ◌^◌, ◌<◌, List, [], ◌∷◌, ◌++◌, length, codes, Option, Some, None}
use Rattle.outside.specs.Names.{Names}
use Rattle.outside.specs.Tree.{Tree, node_at, link_in}
use Rattle.version_links.specs.declared.version.Version.{Version}
use Rattle.version_links.specs.Names.{name_of, store, Target, numbers, directory}

-- The text of the link with this name in the store, if it is one.
abbrev pub link_at : Tree → List ℕ → Option (List ℕ)
link_at tree name = link_in (node_at tree (store name))

-- The link whose name has these numbers is there, and its text is the name with one number more.
pub record HasStep (tree : Tree) (from : List ℕ) (n : ℕ) : Type 0 where
  pub text : link_at tree (name_of from) ≡ Some (name_of (from ++ n ∷ []))
  pub fits : n < 2 ^ 64

-- The links lead on from a name, by one number more each.
abbrev pub Leads : Tree → List ℕ → List ℕ → Type 0
Leads tree from [] = Unit {0}
Leads tree from (n ∷ ns) = HasStep tree from n × Leads tree (from ++ n ∷ []) ns

-- The links lead from `current` to this data directory.
abbrev pub LeadsTo : Tree → Target → Type 0
LeadsTo tree target = Leads tree [] (numbers target)

-- The links lead from `current` to this path, where no link is that goes on as it should, and there is no data directory yet.
pub record IsBadAt (tree : Tree) (path : Names) : Type 0 where
  pub from : List ℕ
  pub short : length from < 4
  pub led : Leads tree [] from
  pub path_is : path ≡ store (name_of from)
  pub ends : (n : ℕ) → HasStep tree from n → ⊥

-- Where the links of a tree lead: nowhere, to the data directory of a version, or to a bad link.
pub data Outcome : Type 0 where
  nowhere : Outcome
  found : Version → Names → Outcome
  bad : Names → Outcome

-- They lead nowhere where `current` is no link, and else to a data directory or to the first bad link.
abbrev pub Resolves : Tree → Outcome → Type 0
Resolves tree nowhere = link_at tree (codes "current") ≡ None
Resolves tree (found version path) = (id : ℕ) × LeadsTo tree (record { version = version; id = id })
    × (path ≡ directory (record { version = version; id = id }))
Resolves tree (bad path) = (link_at tree (codes "current") ≢ None) × IsBadAt tree path

-- The outcome that is this data directory.
abbrev pub at : Target → Outcome
at target = found target.version (directory target)
