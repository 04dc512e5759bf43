-- Which bytes are one whole request, why others are refused, and where more bytes are waited for. The byte 63 is `?`.
use Rattle.std.specs.Prelude.{◌≡◌, ◌≤◌, ◌<◌, ◌+◌, ◌==◌, ◌⊎◌, ⊤, ℕ, IsTrue, false, List, ◌++◌, length, take, map, Option, Some, None, Err, codes}
use Rattle.std.specs.List.{before_first, after_first}
use Rattle.httparse.specs.Grammar.{RequestHead, print_request}
use Rattle.httparse.specs.Spans.{name_and_value}
use Rattle.json_trees.specs.Tree.{pending_leaf, flattened}
use Rattle.json_trees.specs.declared.tree_error.TreeError.{TreeError}
use Rattle.settings_tree.specs.Content.{settings_key}
use Rattle.api_http.specs.declared.reading.Reading.{Reading}
use Rattle.api_http.specs.declared.reading.Reading.TheVariants as reading
use Rattle.api_http.specs.declared.refusal.Refusal.{Refusal}
use Rattle.api_http.specs.declared.refusal.Refusal.TheVariants.{HeadTooLong, Head, NoPath, Method, Query, Length, BodyTooLong, Body}
use Rattle.api_http.specs.declared.route.Route.{Route}
use Rattle.api_http.specs.Heads.{IsWholeHead, HoldsNoHead, HasManyLines, HasFewLines, IsHopeless}
use Rattle.api_http.specs.Fields.{Field, has_field, has_bad_length, body_length, IsBodyWithin}
use Rattle.api_http.specs.Routes.{has_path, route_of, has_tree}
use Rattle.api_http.specs.Query.{Pair, query_pairs, HasQueryFault}
use Rattle.settings_machine.specs.Requests as machine
use Rattle.settings_machine.specs.Asked.{request_of}
use Rattle.api_http.specs.Spelled.{Spells}

-- What a whole head says: its method, its target, and its fields with the white space around their values left out.
pub record Told : Type 0 where
  pub method : List ℕ
  pub target : List ℕ
  pub fields : List Field

-- What this head says.
abbrev pub told : RequestHead → Told
told head = record { method = head.method; target = head.target; fields = map name_and_value head.fields }

-- The target up to its first `?`.
abbrev pub path_of : Told → List ℕ
path_of t = before_first (λ b. b == 63) t.target

-- The names and values after it.
abbrev pub pairs_of : Told → List Pair
pairs_of t = query_pairs (after_first (λ b. b == 63) t.target)

-- The route of the path and the method.
abbrev pub route_told : Told → Option Route
route_told t = route_of (path_of t) t.method

-- The refusals that a whole head shows.
pub data Shows (t : Told) : Refusal → Type 0 where
  bad_length : IsTrue (has_bad_length t.fields) → Shows t Head
  no_path : has_path (path_of t) ≡ false → Shows t NoPath
  no_method : IsTrue (has_path (path_of t)) → route_told t ≡ None → Shows t (Method (path_of t))
  bad_query : (r : Route) → route_told t ≡ Some r → HasQueryFault r (pairs_of t) → Shows t Query
  transfer_coded : IsTrue (has_field (codes "Transfer-Encoding") t.fields) → Shows t Length
  long_body : 1048576 < body_length t.fields → Shows t BodyTooLong

-- The place of a refusal in the order of refusals.
abbrev pub place : Refusal → ℕ
place HeadTooLong = 0
place Head = 1
place NoPath = 2
place (Method path) = 3
place Query = 4
place Length = 5
place BodyTooLong = 6
place Body = 7
place _ = 8

-- The first refusal that a whole head shows.
pub record ShowsFirst (t : Told) (refusal : Refusal) : Type 0 where
  pub shows : Shows t refusal
  pub first : (other : Refusal) → Shows t other → place refusal ≤ place other

-- A whole head that shows no refusal.
abbrev pub IsClean : Told → Type 0
IsClean t = (refusal : Refusal) → ¬ Shows t refusal

-- The bytes begin with a clean whole head.
pub record IsCleanHead (bytes : List ℕ) (head : RequestHead) (rest : List ℕ) : Type 0 where
  pub whole : IsWholeHead bytes head rest
  pub clean : IsClean (told head)

-- The body of a clean head is there.
abbrev pub HasBody : RequestHead → List ℕ → Type 0
HasBody head rest = body_length (told head).fields ≤ length rest

-- The body.
abbrev pub body_of : RequestHead → List ℕ → List ℕ
body_of head rest = take (body_length (told head).fields) rest

-- The bytes begin with a whole message, whether or not it is refused: a whole head that says how long its body is, and all of that body.
pub record HoldsMessage (bytes : List ℕ) : Type 0 where
  pub head : RequestHead
  pub rest : List ℕ
  pub whole : IsWholeHead bytes head rest
  pub body : IsBodyWithin (told head).fields (length rest)

-- The first n bytes are a whole head and its body, no refusal holds, and they spell the request of the machine.
pub record Asks (bytes : List ℕ) (q : machine.Request) (n : ℕ) : Type 0 where
  pub head : RequestHead
  pub rest : List ℕ
  pub clean : IsCleanHead bytes head rest
  pub body : HasBody head rest
  pub length_is : n ≡ length (print_request head) + body_length (told head).fields
  pub route : Route
  pub route_is : route_told (told head) ≡ Some route
  pub spells : Spells (pairs_of (told head)) (body_of head rest) route q

-- The first refusal that the bytes show.
pub data Refuses (bytes : List ℕ) : Refusal → Type 0 where
  -- The first 16,384 bytes hold no whole head and few lines.
  too_long : HoldsNoHead bytes → HasFewLines bytes → 16384 ≤ length bytes → Refuses bytes HeadTooLong
  -- The head is not whole at its 66th line feed.
  many_lines : HoldsNoHead bytes → HasManyLines bytes → Refuses bytes Head
  -- The whole head shows it.
  in_head : (head : RequestHead) (rest : List ℕ) (refusal : Refusal) → IsWholeHead bytes head rest → ShowsFirst (told head) refusal → Refuses bytes refusal
  -- The body is to be a tree of settings, and is none.
  in_body : (head : RequestHead) (rest : List ℕ) (r : Route) (e : TreeError) → IsCleanHead bytes head rest → HasBody head rest
      → route_told (told head) ≡ Some r → IsTrue (has_tree r) → flattened pending_leaf settings_key (body_of head rest) ≡ Err e
      → Refuses bytes Body

-- The head is refused, or it is hopeless.
abbrev pub MayRefuse : List ℕ → Refusal → Type 0
MayRefuse bytes refusal = Refuses bytes refusal ⊎ ((refusal ≡ Head) × IsHopeless bytes)

-- More bytes are wanted.
pub data Waits (bytes : List ℕ) : Type 0 where
  -- For the head.
  for_head : HoldsNoHead bytes → HasFewLines bytes → length bytes < 16384 → Waits bytes
  -- For the body of a head that shows no refusal.
  for_body : (head : RequestHead) (rest : List ℕ) → IsCleanHead bytes head rest → length rest < body_length (told head).fields → Waits bytes

-- With fewer than n bytes more are wanted, whatever they are.
abbrev pub WaitsUntil : List ℕ → ℕ → Type 0
WaitsUntil bytes n = (more : List ℕ) → length (bytes ++ more) < n → Waits (bytes ++ more)

-- The fact holds of the whole request, if the reading is one.
abbrev pub IfWhole : Reading → (machine.Request → ℕ → Type 0) → Type 0
IfWhole (reading.Whole request n) P = P (request_of request) n
IfWhole _ P = ⊤

-- The fact holds of the refusal, if the reading is one.
abbrev pub IfRefused : Reading → (Refusal → Type 0) → Type 0
IfRefused (reading.Refused r) P = P r
IfRefused _ P = ⊤

-- The reading is this whole request.
abbrev pub IsWhole : Reading → machine.Request → ℕ → Type 0
IsWhole (reading.Whole request n) q m = (request_of request ≡ q) × (n ≡ m)
IsWhole _ q m = ⊥
