-- What the server reads of a question.
use Rattle.std.proofs.Common.{arith, ◌≡◌, ◌+◌, inl, inr, ℕ, Bool, true, false, ◌&&◌, ◌||◌, List, []}
use Rattle.std.proofs.Common.{◌∷◌, length, IsTrue, MatchOption, Option, Some, None, Err, refl, sym, ap, ◌∙◌, subst, length-append}
use Rattle.std.specs.Option.{unwrap_or}
use Rattle.std.specs.Prelude.{find, option_map, if◌then◌else◌, Result, Ok, IfOk}
use Rattle.std.specs.Str.{bytes_eq}
use Rattle.std.proofs.lemmas.List.{take_all}
use Rattle.httparse.specs.Grammar.{RequestHead, print_request}
use Rattle.json_trees.specs.Tree.{pending_leaf, flattened}
use Rattle.settings_tree.specs.Content.{settings_key}
use Rattle.host_client.specs.Question.{ask_text}
use Rattle.api_http.specs.declared.reading.Reading.{Reading}
use Rattle.api_http.specs.declared.reading.Reading.TheVariants.{Whole, NotYet, Refused}
use Rattle.api_http.specs.declared.refusal.Refusal.{Refusal}
use Rattle.api_http.specs.declared.refusal.Refusal.TheVariants.{NoPath, Method, Query}
use Rattle.api_http.specs.Fields.{body_length}
use Rattle.api_http.specs.Routes.{Row, rows, has_path, has_path_in, has_tree, route_of, route_in}
use Rattle.api_http.specs.Query.{HasQueryFault}
use Rattle.settings_machine.specs.Requests.{Request}
use Rattle.api_http.specs.Spelled.{Spells}
use Rattle.api_http.specs.Requests.{told, pairs_of, route_told, body_of, HasBody, Shows}
use Rattle.api_http.specs.Requests.{bad_length, no_path, no_method, bad_query, transfer_coded, long_body, IsClean}
use Rattle.api_http.specs.Requests.{IsCleanHead, Asks, Refuses, too_long, many_lines, in_head}
use Rattle.api_http.specs.Requests.{in_body, MayRefuse, Waits, for_head, for_body, IfWhole, IfRefused}
use Rattle.api_http.proofs.Firsts.{first_no_path, first_no_method, first_query, none_shown}
use Rattle.api_http.proofs.Sound.{spells_sound}
use Rattle.api_http.proofs.OneAnswer.{same_head}
use Rattle.client_requests.specs.Agreed as agreed
use Rattle.client_requests.specs.Agreed.{path_in, pairs_in, SpellsQuestion, IsRefusedFor}
use Rattle.client_requests.proofs.Heads.{IsSound, head_of, text_is}
use Rattle.client_requests.proofs.Wholes.{whole, sound_length, length_is, plain}

-- ---- the table

abbrev item_of : {T : Type 0} → Option T → Type 0
item_of {T = T} o = T

-- what requests ask for, by the table
abbrev Route : Type 0
Route = item_of (route_of [] [])

known_in : (table : List Row) (path method : List ℕ) → (route_in table path method ≡ None → ⊥) → has_path_in table path ≡ true
known_in [] path method h = absurd (h refl)
known_in (row ∷ table) path method h = by (known_in table path method) (bytes_eq row.0 path) refl
  where
    by : ((route_in table path method ≡ None → ⊥) → has_path_in table path ≡ true) → (same : Bool) → bytes_eq row.0 path ≡ same
        → has_path_in (row ∷ table) path ≡ true
    by later true is = ap (λ x. x || has_path_in table path) is
    by later false is =
        let next : route_in (row ∷ table) path method ≡ route_in table path method =
        ap (λ (x : Bool). option_map (λ (k : Row). k.2) (if x && bytes_eq row.1 method then Some row else find
        (λ (k : Row). bytes_eq k.0 path && bytes_eq k.1 method) table)) is in
        ap (λ x. x || has_path_in table path) is ∙ later (λ none. h (next ∙ none))

-- a path with a route is known
known : (path method : List ℕ) (r : Route) → route_of path method ≡ Some r → has_path path ≡ true
known path method r h = known_in rows path method (λ none. let never = sym h ∙ none in cc)

some_of : {T : Type 0} (o : Option T) (P : T → Type 0) → MatchOption o ⊥ P → (r : T) × (o ≡ Some r) × P r
some_of (Some r) P h = (r, refl, h)
some_of None P h = absurd h

some_has : {T : Type 0} (o : Option T) (P : T → Type 0) (r : T) → o ≡ Some r → P r → MatchOption o ⊥ P
some_has o P r is h = subst (λ o. MatchOption o ⊥ P) (sym is) h

-- ---- both ways

module _ (m t : List ℕ) (b : Option (List ℕ)) (s : IsSound m t b) where
  all_body : body_of (head_of m t b) (unwrap_or b []) ≡ unwrap_or b []
  all_body = take_all _ (unwrap_or b []) (omega (arith, length_is m t b s))

  there : HasBody (head_of m t b) (unwrap_or b [])
  there = omega (arith, length_is m t b s)

  clean : (r : Route) → route_of (path_in t) m ≡ Some r → ¬ HasQueryFault r (pairs_in t) → IsCleanHead (ask_text m t b) (head_of m t b) (unwrap_or b [])
  clean r is sound_query = record {
    whole = whole m t b s;
    clean = none_shown (told (head_of m t b)) (sound_length m t b s) (known (path_in t) m r is) r is sound_query (plain m t b)
        (omega (arith, length_is m t b s, s.body_short));
  }

  size : length (ask_text m t b) ≡ length (print_request (head_of m t b)) + body_length (told (head_of m t b)).fields
  size = omega (arith, ap length (text_is m t b), length-append (print_request (head_of m t b)) (unwrap_or b []), length_is m t b s)

  -- a question that is spelled is asked
  pub asked : (q : Request) (n : ℕ) → SpellsQuestion m t b q × (n ≡ length (ask_text m t b)) → Asks (ask_text m t b) q n
  asked q n (spells, n_is) =
      let found = some_of (route_of (path_in t) m) (λ r. Spells (pairs_in t) (unwrap_or b []) r q) spells in record {
        head = head_of m t b;
        rest = unwrap_or b [];
        clean = clean found.0 found.1 (spells_sound (pairs_in t) (unwrap_or b []) found.0 q found.2);
        body = there;
        length_is = n_is ∙ size;
        route = found.0;
        route_is = found.1;
        spells = subst (λ (l : List ℕ). Spells (pairs_in t) l found.0 q) (sym all_body) found.2;
      }

  -- what is asked is spelled by the whole text
  pub spelled : (q : Request) (n : ℕ) → Asks (ask_text m t b) q n → SpellsQuestion m t b q × (n ≡ length (ask_text m t b))
  spelled q n a =
      let same = same_head (ask_text m t b) a.head (head_of m t b) a.rest (unwrap_or b []) a.clean.whole (whole m t b s) in
      let spells = subst (λ (h : RequestHead). Spells (pairs_of (told h)) (body_of h a.rest) a.route q) same.head a.spells in
      let spells' = subst (λ (l : List ℕ). Spells (pairs_in t) (body_of (head_of m t b) l) a.route q) same.behind spells in (
        some_has (route_of (path_in t) m) (λ r. Spells (pairs_in t) (unwrap_or b []) r q) a.route
            (subst (λ (h : RequestHead). route_told (told h) ≡ Some a.route) same.head a.route_is)
            (subst (λ (l : List ℕ). Spells (pairs_in t) l a.route q) all_body spells'),
        a.length_is ∙ ap (λ (h : RequestHead). length (print_request h) + body_length (told h).fields) same.head ∙ sym size,
      )

  shown_in_head : (r : Refusal) → Shows (told (head_of m t b)) r → IsRefusedFor m t b r
  shown_in_head _ (bad_length bad) = let never = sym bad ∙ sound_length m t b s in cc
  shown_in_head _ (no_path none) = agreed.no_path none
  shown_in_head _ (no_method there none) = agreed.no_method there none
  shown_in_head _ (bad_query r is fault) = agreed.bad_query (some_has (route_of (path_in t) m) (λ r. HasQueryFault r (pairs_in t)) r is fault)
  shown_in_head _ (transfer_coded coded) = let never = sym coded ∙ plain m t b in cc
  shown_in_head _ (long_body long) = absurd (omega (arith, long, length_is m t b s, s.body_short))

  -- what is refused has one of these faults
  pub faulty : (r : Refusal) → Refuses (ask_text m t b) r → IsRefusedFor m t b r
  faulty _ (too_long none few long) = absurd (none _ _ (whole m t b s))
  faulty _ (many_lines none many) = absurd (none _ _ (whole m t b s))
  faulty _ (in_head head rest r has first) =
      let same = same_head (ask_text m t b) head (head_of m t b) rest (unwrap_or b []) has (whole m t b s) in
      shown_in_head r (subst (λ (h : RequestHead). Shows (told h) r) same.head first.shows)
  faulty _ (in_body head rest r e is_clean has is treed flat) =
      let same = same_head (ask_text m t b) head (head_of m t b) rest (unwrap_or b []) is_clean.whole (whole m t b s) in
      let flat' = subst (λ (h : RequestHead). flattened pending_leaf settings_key (body_of h rest) ≡ Err e) same.head flat in
      let flat'' = subst (λ (l : List ℕ). flattened pending_leaf settings_key (body_of (head_of m t b) l) ≡ Err e) same.behind flat' in
      let is' = subst (λ (h : RequestHead). route_told (told h) ≡ Some r) same.head is in
      let clean' = subst (λ (h : RequestHead). IsClean (told h)) same.head is_clean.clean in
      agreed.bad_body e (some_has (route_of (path_in t) m) (λ r. IsTrue (has_tree r)) r is' treed)
      (λ bad. let found = some_of (route_of (path_in t) m) (λ r. HasQueryFault r (pairs_in t)) bad in clean' Query (bad_query found.0 found.1 found.2))
      (subst (λ (l : List ℕ). flattened pending_leaf settings_key l ≡ Err e) all_body flat'')

  -- each of these faults is refused
  pub refused : (r : Refusal) → IsRefusedFor m t b r → Refuses (ask_text m t b) r
  refused _ (agreed.no_path none) = in_head (head_of m t b) (unwrap_or b []) NoPath (whole m t b s)
      (first_no_path (told (head_of m t b)) (sound_length m t b s) none)
  refused _ (agreed.no_method has none) =
      in_head (head_of m t b) (unwrap_or b []) (Method (path_in t)) (whole m t b s) (first_no_method (told (head_of m t b)) (sound_length m t b s) has none)
  refused _ (agreed.bad_query bad) =
      let found = some_of (route_of (path_in t) m) (λ r. HasQueryFault r (pairs_in t)) bad in
      in_head (head_of m t b) (unwrap_or b []) Query (whole m t b s)
      (first_query (told (head_of m t b)) (sound_length m t b s) (known (path_in t) m found.0 found.1) found.0 found.1 found.2)
  refused _ (agreed.bad_body e tree sound_query flat) =
      let found = some_of (route_of (path_in t) m) (λ r. IsTrue (has_tree r)) tree in
      in_body (head_of m t b) (unwrap_or b []) found.0 e (clean found.0 found.1 (λ fault. sound_query
      (some_has (route_of (path_in t) m) (λ r. HasQueryFault r (pairs_in t)) found.0 found.1 fault))) there found.1 found.2
      (subst (λ (l : List ℕ). flattened pending_leaf settings_key l ≡ Err e) (sym all_body) flat)

  waits : Waits (ask_text m t b) → ⊥
  waits (for_head none few short) = none _ _ (whole m t b s)
  waits (for_body head rest is_clean short) =
      let same = same_head (ask_text m t b) head (head_of m t b) rest (unwrap_or b []) is_clean.whole (whole m t b s) in
      omega (arith, length_is m t b s, ap length same.behind, ap (λ (h : RequestHead). body_length (told h).fields) same.head, short)

  may_refuse : (r : Refusal) → MayRefuse (ask_text m t b) r → IsRefusedFor m t b r
  may_refuse r (inl refuses) = faulty r refuses
  may_refuse r (inr hopeless) = absurd (hopeless.1.no_head _ _ (whole m t b s))

  -- what is read of the text
  pub whole_is : (reading : Reading) → IfWhole reading (Asks (ask_text m t b)) → IfWhole reading (λ q n. SpellsQuestion m t b q × (n ≡ length (ask_text m t b)))
  whole_is (Whole request n) h = spelled _ n h
  whole_is NotYet h = tt
  whole_is (Refused r) h = tt

  pub refused_is : (reading : Reading) → IfRefused reading (MayRefuse (ask_text m t b)) → IfRefused reading (IsRefusedFor m t b)
  refused_is (Whole request n) h = tt
  refused_is NotYet h = tt
  refused_is (Refused r) h = may_refuse r h

  pub never_waits : (reading : Reading) → (reading ≡ NotYet → Waits (ask_text m t b)) → reading ≡ NotYet → ⊥
  never_waits reading h is = waits (h is)

  -- and so of the call that reads it
  module _ {E : Type 0} (text : List ℕ) (text_is : text ≡ ask_text m t b) where
    pub read_whole : (r : Result Reading E) → IfOk r (λ reading. IfWhole reading (Asks text))
        → IfOk r (λ reading. IfWhole reading (λ q n. SpellsQuestion m t b q × (n ≡ length (ask_text m t b))))
    read_whole (Ok reading) h = whole_is reading (subst (λ (l : List ℕ). IfWhole reading (Asks l)) text_is h)
    read_whole (Err e) h = tt

    pub read_refused : (r : Result Reading E) → IfOk r (λ reading. IfRefused reading (MayRefuse text))
        → IfOk r (λ reading. IfRefused reading (IsRefusedFor m t b))
    read_refused (Ok reading) h = refused_is reading (subst (λ (l : List ℕ). IfRefused reading (MayRefuse l)) text_is h)
    read_refused (Err e) h = tt

    pub read_no_wait : (r : Result Reading E) → IfOk r (λ reading. reading ≡ NotYet → Waits text) → IfOk r (λ reading. reading ≡ NotYet → ⊥)
    read_no_wait (Ok reading) h = never_waits reading (subst (λ (l : List ℕ). reading ≡ NotYet → Waits l) text_is h)
    read_no_wait (Err e) h = tt
