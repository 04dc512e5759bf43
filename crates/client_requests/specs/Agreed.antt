-- What the server reads of a question of the client. The byte 63 is `?`.
use Rattle.std.specs.Prelude.{◌≡◌, ◌==◌, ℕ, IsTrue, false, List, [], Option, None, Err, MatchOption}
use Rattle.std.specs.List.{before_first, after_first}
use Rattle.std.specs.Option.{unwrap_or}
use Rattle.json_trees.specs.Tree.{pending_leaf, flattened}
use Rattle.json_trees.specs.declared.tree_error.TreeError.{TreeError}
use Rattle.settings_tree.specs.Content.{settings_key}
use Rattle.api_http.specs.declared.refusal.Refusal.{Refusal}
use Rattle.api_http.specs.declared.refusal.Refusal.TheVariants.{NoPath, Method, Query, Body}
use Rattle.api_http.specs.Routes.{has_path, route_of, has_tree}
use Rattle.api_http.specs.Query.{Pair, query_pairs, HasQueryFault}
use Rattle.settings_machine.specs.Requests.{Request}
use Rattle.api_http.specs.Spelled.{Spells}

-- The target up to its first `?`.
abbrev pub path_in : List ℕ → List ℕ
path_in target = before_first (λ b. b == 63) target

-- The names and values after it.
abbrev pub pairs_in : List ℕ → List Pair
pairs_in target = query_pairs (after_first (λ b. b == 63) target)

-- The method and the target name a route, whose query and body spell the request; no body is an empty one.
abbrev pub SpellsQuestion : List ℕ → List ℕ → Option (List ℕ) → Request → Type 0
SpellsQuestion method target body q = MatchOption (route_of (path_in target) method) ⊥ (λ route. Spells (pairs_in target) (unwrap_or body []) route q)

-- The method and the target name a route, and the query is at fault.
abbrev pub HasBadQuery : List ℕ → List ℕ → Type 0
HasBadQuery method target = MatchOption (route_of (path_in target) method) ⊥ (λ route. HasQueryFault route (pairs_in target))

-- The method and the target name a route whose body is to be a tree of settings.
abbrev pub WantsTree : List ℕ → List ℕ → Type 0
WantsTree method target = MatchOption (route_of (path_in target) method) ⊥ (λ route. IsTrue (has_tree route))

-- What is at fault first: the path, then the method, then the query, and then a body that is to be a tree.
pub data IsRefusedFor (method target : List ℕ) (body : Option (List ℕ)) : Refusal → Type 0 where
  no_path : has_path (path_in target) ≡ false → IsRefusedFor method target body NoPath
  no_method : IsTrue (has_path (path_in target)) → route_of (path_in target) method ≡ None → IsRefusedFor method target body (Method (path_in target))
  bad_query : HasBadQuery method target → IsRefusedFor method target body Query
  bad_body : (e : TreeError) → WantsTree method target → ¬ HasBadQuery method target
      → flattened pending_leaf settings_key (unwrap_or body []) ≡ Err e → IsRefusedFor method target body Body
