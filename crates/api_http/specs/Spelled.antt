-- Which query and body spell a request of the machine.
use Rattle.std.specs.Prelude.{◌≡◌, ◌⊎◌, ℕ, Bool, true, false, IsTrue, List, [], ◌∷◌, Option, Some, None, Ok, codes}
use Rattle.key_names.specs.Spelling.{SpellsKey}
use Rattle.key_names.specs.Listing.{Lists}
use Rattle.json_trees.specs.Tree.{pending_leaf, flattened}
use Rattle.json_trees.specs.declared.pending.Pending.{Pending}
use Rattle.settings_maps.specs.TxName.{is_tx_name, is_meta_name}
use Rattle.settings_tree.specs.Content.{settings_key}
use Rattle.settings_machine.specs.World.{Key}
use Rattle.settings_machine.specs.Requests as machine
use Rattle.settings_machine.specs.Asked.{guarded_by}
use Rattle.settings_machine.specs.declared.request.Guard.{Guard}
use Rattle.settings_machine.specs.declared.request.Guard.TheVariants as guard
use Rattle.api_http.specs.declared.route.Route.{Route}
use Rattle.api_http.specs.declared.route.Route.TheVariants as route
use Rattle.api_http.specs.Query.{Pair, named as with_name, others, ListsNames}

-- The transaction that a query names: `default` where it names none.
pub data NamesTx (pairs : List Pair) (tx : List ℕ) : Type 0 where
  named : pairs ≡ (codes "tx", tx) ∷ [] → IsTrue (is_tx_name tx) → NamesTx pairs tx
  unnamed : pairs ≡ [] → tx ≡ codes "default" → NamesTx pairs tx

-- The transaction that a query names, if any.
pub data MayNameTx (pairs : List Pair) : Option (List ℕ) → Type 0 where
  by_tx : (tx : List ℕ) → pairs ≡ (codes "tx", tx) ∷ [] → IsTrue (is_tx_name tx) → MayNameTx pairs (Some tx)
  without_tx : pairs ≡ [] → MayNameTx pairs None

-- What a change is refused for by a query: by `check=render` where a template refuses, and else for nothing more.
pub data NamesGuard (pairs : List Pair) : Guard → Type 0 where
  checked : pairs ≡ (codes "check", codes "render") ∷ [] → NamesGuard pairs guard.Render
  unchecked : pairs ≡ [] → NamesGuard pairs guard.Off

-- Whether a query means all, by the name `all` with an empty value.
pub data MayGiveAll (pairs : List Pair) : Bool → Type 0 where
  by_all : pairs ≡ (codes "all", []) ∷ [] → MayGiveAll pairs true
  without_all : pairs ≡ [] → MayGiveAll pairs false

-- The name that a query gives.
pub record GivesName (pairs : List Pair) (name : List ℕ) : Type 0 where
  pub given : pairs ≡ (codes "name", name) ∷ []
  pub valid : IsTrue (is_meta_name name)

-- The names that a query lists, if any.
pub data GivesNames (pairs : List Pair) : Option (List (List ℕ)) → Type 0 where
  by_names : (value : List ℕ) (names : List (List ℕ)) → pairs ≡ (codes "names", value) ∷ [] → ListsNames value names → GivesNames pairs (Some names)
  without_names : pairs ≡ [] → GivesNames pairs None

-- The keys that a query lists.
pub record GivesKeys (pairs : List Pair) (keys : List Key) : Type 0 where
  pub value : List ℕ
  pub given : pairs ≡ (codes "keys", value) ∷ []
  pub lists : Lists value keys

-- The settings that a query asks for: those at the keys that it lists, those below the prefix that it gives, or all.
pub data GivesKeysOrPrefix (pairs : List Pair) : machine.Request → Type 0 where
  by_keys : (listed : List Key) → GivesKeys pairs listed → GivesKeysOrPrefix pairs (machine.SettingsAt listed)
  by_prefix : (value : List ℕ) (key : Key) → pairs ≡ (codes "prefix", value) ∷ [] → SpellsKey value key → GivesKeysOrPrefix pairs (machine.SettingsBelow key)
  by_neither : pairs ≡ [] → GivesKeysOrPrefix pairs machine.Settings

-- The query and the body of a request of this route spell the machine's. Only a patch and what is set at once look at the body. Names
-- may come in any order.
pub data Spells (pairs : List Pair) (body : List ℕ) : Route → machine.Request → Type 0 where
  at_root : pairs ≡ [] → Spells pairs body route.Root machine.Root
  at_os : pairs ≡ [] → Spells pairs body route.OsNames machine.OsNames
  at_settings : (q : machine.Request) → GivesKeysOrPrefix pairs q → Spells pairs body route.Settings q
  at_patch : (tx : List ℕ) (changes : List (Key × Pending)) → NamesTx pairs tx → flattened pending_leaf settings_key body ≡ Ok changes
      → Spells pairs body route.Patch (machine.Patch tx changes)
  at_services : (names : Option (List (List ℕ))) → GivesNames pairs names → Spells pairs body route.Services (machine.Services names)
  at_files : (names : Option (List (List ℕ))) → GivesNames pairs names → Spells pairs body route.Files (machine.ConfigurationFiles names)
  at_affected : (keys : List Key) → GivesKeys pairs keys → Spells pairs body route.Affected (machine.Affected keys)
  at_pending : (tx : List ℕ) → NamesTx pairs tx → Spells pairs body route.Pending (machine.Pends tx)
  at_drop : (tx : List ℕ) → NamesTx pairs tx → Spells pairs body route.DropTx (machine.DropTx tx)
  at_list : pairs ≡ [] → Spells pairs body route.TxList machine.TxList
  at_commit : (tx : List ℕ) (g : Guard) → NamesTx (others (codes "check") pairs) tx → NamesGuard (with_name (codes "check") pairs) g
      → Spells pairs body route.Commit (guarded_by g (machine.Commit tx))
  at_apply : MayGiveAll pairs false → Spells pairs body route.Apply machine.Apply
  at_apply_all : MayGiveAll pairs true → Spells pairs body route.Apply machine.ApplyAll
  at_commit_and_apply : (tx : List ℕ) (g : Guard) → NamesTx (others (codes "check") pairs) tx → NamesGuard (with_name (codes "check") pairs) g
      → Spells pairs body route.CommitAndApply (guarded_by g (machine.CommitAndApply tx))
  at_job : pairs ≡ [] → Spells pairs body route.JobNow machine.JobNow
  at_set : (g : Guard) (changes : List (Key × Pending)) → NamesGuard pairs g → flattened pending_leaf settings_key body ≡ Ok changes
      → Spells pairs body route.Set (guarded_by g (machine.Set changes))
  at_plan : (tx : Option (List ℕ)) → MayNameTx pairs tx → Spells pairs body route.Plan (machine.Plan tx)
  at_plan_file : (file : List ℕ) (tx : Option (List ℕ)) → GivesName (with_name (codes "name") pairs) file → MayNameTx (others (codes "name") pairs) tx
      → Spells pairs body route.PlanFile (machine.PlanFile file tx)
  at_store : pairs ≡ [] → Spells pairs body route.Store machine.Store
  at_verify : pairs ≡ [] → Spells pairs body route.Verify machine.Verify

-- ---- for private clauses

-- The name and the value give the keys or the prefix of the settings that are asked for.
abbrev pub IsGivenEither : List ℕ → List ℕ → machine.Request → Type 0
IsGivenEither name value q =
    ((listed : List Key) × (name ≡ codes "keys") × Lists value listed × (q ≡ machine.SettingsAt listed))
    ⊎ ((key : Key) × (name ≡ codes "prefix") × SpellsKey value key × (q ≡ machine.SettingsBelow key))

-- The request patches the transaction by the pairs that the body is.
abbrev pub IsPatchOf : List ℕ → List ℕ → machine.Request → Type 0
IsPatchOf tx body q = (changes : List (Key × Pending)) × (q ≡ machine.Patch tx changes) × (flattened pending_leaf settings_key body ≡ Ok changes)

-- The request sets the pairs that the body is at once.
abbrev pub IsSetOf : Guard → List ℕ → machine.Request → Type 0
IsSetOf g body q = (changes : List (Key × Pending)) × (q ≡ guarded_by g (machine.Set changes)) × (flattened pending_leaf settings_key body ≡ Ok changes)
