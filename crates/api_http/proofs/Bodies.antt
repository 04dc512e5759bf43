-- Bodies that are trees.
use Rattle.std.proofs.Common.{ℕ, List, codes, inr, refl}
use Rattle.key_names.specs.Joined.{Joins}
use Rattle.key_names.specs.Key.{printed}
use Rattle.key_names.specs.Segment.{file_name}
use Rattle.key_names.specs.Spelling.{SpellsKey}
use Rattle.settings_tree.specs.Content.{settings_key}
use Rattle.api_http.specs.declared.route.Route.TheVariants.{Patch, Set}
use Rattle.api_http.specs.Query.{Pair}
use Rattle.settings_machine.specs.Requests as machine
use Rattle.settings_machine.specs.declared.request.Guard.{Guard}
use Rattle.api_http.specs.Spelled.{NamesTx, NamesGuard, Spells, at_patch, at_set, IsPatchOf, IsSetOf}

-- the word `settings` spells the key of all settings
pub settings_spelled : SpellsKey (codes "settings") settings_key
unfolding Joins printed file_name
settings_spelled = record { spells = record { valid = refl; form = inr (refl, refl) }; within = refl }

-- a patch of a transaction is spelled by its query and its body
pub patch_spelled : (pairs : List Pair) (tx body : List ℕ) (q : machine.Request) → NamesTx pairs tx → IsPatchOf tx body q → Spells pairs body Patch q
patch_spelled pairs tx body q names (changes, is, flat) = rw is (at_patch tx changes names flat)

-- what is set at once is too
pub set_spelled : (pairs : List Pair) (g : Guard) (body : List ℕ) (q : machine.Request) → NamesGuard pairs g → IsSetOf g body q → Spells pairs body Set q
set_spelled pairs g body q guards (changes, is, flat) = rw is (at_set g changes guards flat)
