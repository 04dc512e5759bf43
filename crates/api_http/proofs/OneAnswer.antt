-- The bytes have one answer at most, but for a hopeless head.
use Rattle.std.proofs.Common.{◌≡◌, ◌+◌, ℕ, IsTrue, List, take, length, Err, inl, inr, refl, sym, ap, ◌∙◌, subst, arith}
use Rattle.httparse.specs.Grammar.{RequestHead, print_request}
use Rattle.httparse.proofs.GrammarLemmas.{request_unique}
use Rattle.json_trees.specs.Tree.{pending_leaf, flattened}
use Rattle.json_trees.specs.declared.tree_error.TreeError.{TreeError}
use Rattle.settings_tree.specs.Content.{settings_key}
use Rattle.api_http.specs.declared.reading.Reading.{Reading}
use Rattle.api_http.specs.declared.reading.Reading.TheVariants.{Whole, NotYet, Refused}
use Rattle.api_http.specs.declared.refusal.Refusal.{Refusal}
use Rattle.api_http.specs.declared.route.Route.{Route}
use Rattle.api_http.specs.Heads.{IsWholeHead, IsHopeless}
use Rattle.api_http.specs.Fields.{body_length}
use Rattle.api_http.specs.Query.{Pair}
use Rattle.api_http.specs.Routes.{has_tree}
use Rattle.settings_machine.specs.Asked.{request_of}
use Rattle.settings_machine.specs.Requests as machine
use Rattle.api_http.specs.Spelled.{Spells, at_patch, at_set}
use Rattle.api_http.specs.Requests.{Told, told, pairs_of, route_told, Shows, bad_length}
use Rattle.api_http.specs.Requests.{no_path, no_method, bad_query, transfer_coded, long_body, place, ShowsFirst}
use Rattle.api_http.specs.Requests.{Asks, Refuses, too_long, many_lines, in_head, in_body, MayRefuse, Waits, for_head, for_body, IfWhole, IfRefused, IsWhole}
use Rattle.api_http.proofs.OneRequest.{one_request}

-- ---- one head

pub record SameHead (h k : RequestHead) (rest more : List ℕ) : Type 0 where
  pub head : h ≡ k
  pub behind : rest ≡ more

-- bytes have one whole head at most
pub same_head : (bytes : List ℕ) (h k : RequestHead) (rest more : List ℕ) → IsWholeHead bytes h rest → IsWholeHead bytes k more → SameHead h k rest more
same_head bytes h k rest more a b = let same = request_unique bytes h k rest more a.reads b.reads in record { head = same.0; behind = same.1 }

-- a body that is to be a tree and is none spells nothing
pub no_tree_asked : (pairs : List Pair) (body : List ℕ) (e : TreeError) (r : Route) (q : machine.Request) → IsTrue (has_tree r)
    → flattened pending_leaf settings_key body ≡ Err e → Spells pairs body r q → ⊥
no_tree_asked pairs body e _ _ is wrong (at_patch tx changes _ flat) = let never = sym flat ∙ wrong in cc
no_tree_asked pairs body e _ _ is wrong (at_set g changes _ flat) = let never = sym flat ∙ wrong in cc
no_tree_asked pairs body e _ _ is wrong _ = cc

-- ---- refusals of one head

same_place : (t : Told) (r s : Refusal) → Shows t r → Shows t s → place r ≡ place s → r ≡ s
same_place t _ _ (bad_length _) (bad_length _) e = refl
same_place t _ _ (no_path _) (no_path _) e = refl
same_place t _ _ (no_method _ _) (no_method _ _) e = refl
same_place t _ _ (bad_query _ _ _) (bad_query _ _ _) e = refl
same_place t _ _ (transfer_coded _) (transfer_coded _) e = refl
same_place t _ _ (long_body _) (long_body _) e = refl
same_place t _ _ _ _ e = absurd (omega (arith, e))

-- a head has one first refusal
pub one_first : (t : Told) (r s : Refusal) → ShowsFirst t r → ShowsFirst t s → r ≡ s
one_first t r s a b = same_place t r s a.shows b.shows (omega (arith, a.first s b.shows, b.first r a.shows))

-- ---- answers

module _ (bytes : List ℕ) where
  -- bytes are one request at most
  pub one_asked : (q q' : machine.Request) (n n' : ℕ) → Asks bytes q n → Asks bytes q' n' → (q ≡ q') × (n ≡ n')
  one_asked q q' n n' a b =
      let same = same_head bytes a.head b.head a.rest b.rest a.clean.whole b.clean.whole in
      let route_is : a.route ≡ b.route = let e = sym a.route_is ∙ ap (λ h. route_told (told h)) same.head ∙ b.route_is in cc in
      let told_is = ap told same.head in
      let first : Spells (pairs_of (told b.head)) (take (body_length (told b.head).fields) a.rest) a.route q =
      subst (λ h. Spells (pairs_of (told h)) (take (body_length (told h).fields) a.rest) a.route q) same.head a.spells in
      let second : Spells (pairs_of (told b.head)) (take (body_length (told b.head).fields) b.rest) a.route q =
      subst (λ l. Spells (pairs_of (told b.head)) (take (body_length (told b.head).fields) l) a.route q) same.behind first in
      let third : Spells (pairs_of (told b.head)) (take (body_length (told b.head).fields) b.rest) b.route q =
      subst (λ r. Spells (pairs_of (told b.head)) (take (body_length (told b.head).fields) b.rest) r q) route_is second in (
        one_request _ _ b.route q q' third b.spells,
        a.length_is ∙ ap (λ h. length (print_request h) + body_length (told h).fields) same.head ∙ sym b.length_is,
      )

  -- what is asked is not refused
  pub asked_not_refused : (q : machine.Request) (n : ℕ) (r : Refusal) → Asks bytes q n → Refuses bytes r → ⊥
  asked_not_refused q n _ a (too_long none _ _) = none a.head a.rest a.clean.whole
  asked_not_refused q n _ a (many_lines none _) = none a.head a.rest a.clean.whole
  asked_not_refused q n _ a (in_head h rest r whole first) =
      let same = same_head bytes h a.head rest a.rest whole a.clean.whole in
      a.clean.clean r (subst (λ k. Shows (told k) r) same.head first.shows)
  asked_not_refused q n _ a (in_body h rest r e clean body route_is treed wrong) =
      let same = same_head bytes a.head h a.rest rest a.clean.whole clean.whole in
      let route_same : a.route ≡ r = let e = sym a.route_is ∙ ap (λ k. route_told (told k)) same.head ∙ route_is in cc in
      let first : Spells (pairs_of (told h)) (take (body_length (told h).fields) a.rest) a.route q =
      subst (λ k. Spells (pairs_of (told k)) (take (body_length (told k).fields) a.rest) a.route q) same.head a.spells in
      let second : Spells (pairs_of (told h)) (take (body_length (told h).fields) rest) a.route q =
      subst (λ l. Spells (pairs_of (told h)) (take (body_length (told h).fields) l) a.route q) same.behind first in
      no_tree_asked _ _ e a.route q (ap has_tree route_same ∙ treed) wrong second

  -- and its head is not hopeless
  pub asked_not_hopeless : (q : machine.Request) (n : ℕ) → Asks bytes q n → IsHopeless bytes → ⊥
  asked_not_hopeless q n a hopeless = hopeless.no_head a.head a.rest a.clean.whole

  -- and nothing is waited for
  pub asked_not_waiting : (q : machine.Request) (n : ℕ) → Asks bytes q n → Waits bytes → ⊥
  asked_not_waiting q n a (for_head none _ _) = none a.head a.rest a.clean.whole
  asked_not_waiting q n a (for_body h rest clean short) =
      let same = same_head bytes a.head h a.rest rest a.clean.whole clean.whole in
      omega (arith, short, a.body, ap (λ k. body_length (told k).fields) same.head, ap length same.behind)

  -- for what is refused nothing is waited for
  pub refused_not_waiting : (r : Refusal) → Refuses bytes r → Waits bytes → ⊥
  refused_not_waiting _ (too_long none few long) (for_head _ _ short) = omega (arith, long, short)
  refused_not_waiting _ (too_long none few long) (for_body h rest clean _) = none h rest clean.whole
  refused_not_waiting _ (many_lines none many) (for_head _ few _) = omega (arith, many, few)
  refused_not_waiting _ (many_lines none many) (for_body h rest clean _) = none h rest clean.whole
  refused_not_waiting _ (in_head h rest r whole first) (for_head none _ _) = none h rest whole
  refused_not_waiting _ (in_head h rest r whole first) (for_body k more clean _) =
      clean.clean r (subst (λ x. Shows (told x) r) (same_head bytes h k rest more whole clean.whole).head first.shows)
  refused_not_waiting _ (in_body h rest s e clean body _ _ _) (for_head none _ _) = none h rest clean.whole
  refused_not_waiting _ (in_body h rest s e clean body _ _ _) (for_body k more clean' short) =
      let same = same_head bytes h k rest more clean.whole clean'.whole in
      omega (arith, short, body, ap (λ x. body_length (told x).fields) same.head, ap length same.behind)

  -- bytes are refused for one cause
  pub one_refusal : (r s : Refusal) → Refuses bytes r → Refuses bytes s → r ≡ s
  one_refusal _ _ (too_long none few long) (too_long _ _ _) = refl
  one_refusal _ _ (too_long none few long) (many_lines _ many) = absurd (omega (arith, few, many))
  one_refusal _ _ (too_long none few long) (in_head h rest r whole _) = absurd (none h rest whole)
  one_refusal _ _ (too_long none few long) (in_body h rest x e clean _ _ _ _) = absurd (none h rest clean.whole)
  one_refusal _ _ (many_lines none many) (too_long _ few _) = absurd (omega (arith, few, many))
  one_refusal _ _ (many_lines none many) (many_lines _ _) = refl
  one_refusal _ _ (many_lines none many) (in_head h rest r whole _) = absurd (none h rest whole)
  one_refusal _ _ (many_lines none many) (in_body h rest x e clean _ _ _ _) = absurd (none h rest clean.whole)
  one_refusal _ _ (in_head h rest r whole first) (too_long none _ _) = absurd (none h rest whole)
  one_refusal _ _ (in_head h rest r whole first) (many_lines none _) = absurd (none h rest whole)
  one_refusal _ _ (in_head h rest r whole first) (in_head k more s whole' first') =
      one_first (told k) r s (subst (λ x. ShowsFirst (told x) r) (same_head bytes h k rest more whole whole').head first) first'
  one_refusal _ _ (in_head h rest r whole first) (in_body k more x e clean _ _ _ _) =
      absurd (clean.clean r (subst (λ x. Shows (told x) r) (same_head bytes h k rest more whole clean.whole).head first.shows))
  one_refusal _ _ (in_body h rest x e clean _ _ _ _) (too_long none _ _) = absurd (none h rest clean.whole)
  one_refusal _ _ (in_body h rest x e clean _ _ _ _) (many_lines none _) = absurd (none h rest clean.whole)
  one_refusal _ _ (in_body h rest x e clean _ _ _ _) (in_head k more s whole first) =
      absurd (clean.clean s (subst (λ x. Shows (told x) s) (same_head bytes k h more rest whole clean.whole).head first.shows))
  one_refusal _ _ (in_body h rest x e clean _ _ _ _) (in_body _ _ _ _ _ _ _ _ _) = refl

  -- ---- a reading with its evidence is the one answer

  pub record IsRead (reading : Reading) : Type 0 where
    pub whole : IfWhole reading (Asks bytes)
    pub refused : IfRefused reading (MayRefuse bytes)
    pub not_yet : reading ≡ NotYet → Waits bytes

  -- so each whole request is read as it is
  pub every_whole : (reading : Reading) → IsRead reading → (q : machine.Request) (n : ℕ) → Asks bytes q n → IsWhole reading q n
  every_whole (Whole request m) read q n a = one_asked (request_of request) q m n read.whole a
  every_whole NotYet read q n a = asked_not_waiting q n a (read.not_yet refl)
  every_whole (Refused r) read q n a = by read.refused
    where
      by : MayRefuse bytes r → ⊥
      by (inl refuses) = asked_not_refused q n r a refuses
      by (inr (_, hopeless)) = asked_not_hopeless q n a hopeless

  -- so each refusal is answered, but for a hopeless head
  pub every_refused : (reading : Reading) → IsRead reading → ¬ IsHopeless bytes → (r : Refusal) → Refuses bytes r → reading ≡ Refused r
  every_refused (Whole request m) read sound r refuses = absurd (asked_not_refused (request_of request) m r read.whole refuses)
  every_refused NotYet read sound r refuses = absurd (refused_not_waiting r refuses (read.not_yet refl))
  every_refused (Refused s) read sound r refuses = by read.refused
    where
      by : MayRefuse bytes s → Refused s ≡ Refused r
      by (inl refuses') = ap Refused (one_refusal s r refuses' refuses)
      by (inr (_, hopeless)) = absurd (sound hopeless)

  -- so is each wait
  pub every_wait : (reading : Reading) → IsRead reading → ¬ IsHopeless bytes → Waits bytes → reading ≡ NotYet
  every_wait (Whole request m) read sound waits = absurd (asked_not_waiting (request_of request) m read.whole waits)
  every_wait NotYet read sound waits = refl
  every_wait (Refused s) read sound waits = by read.refused
    where
      by : MayRefuse bytes s → Refused s ≡ NotYet
      by (inl refuses) = absurd (refused_not_waiting s refuses waits)
      by (inr (_, hopeless)) = absurd (sound hopeless)
