-- What is known of the bytes that have come stays true when more come.
use Rattle.std.proofs.Common.{◌≡◌, ◌≤◌, ◌<◌, ◌++◌, ◌⊎◌, ℕ, List, [], ◌∷◌, length, take, inl, inr, refl, sym, ap, ◌∙◌, subst, arith, length-append, append_assoc}
use Rattle.std.proofs.lemmas.Bool.{cases_lt}
use Rattle.std.proofs.lemmas.List.{take-append-le, append-nil}
use Rattle.json_trees.specs.Tree.{pending_leaf, flattened}
use Rattle.settings_tree.specs.Content.{settings_key}
use Rattle.httparse.specs.Grammar.{RequestHead, print_request, ReadsRequest}
use Rattle.httparse.proofs.GrammarLemmas.{ReadsRequest-append}
use Rattle.api_http.specs.declared.refusal.Refusal.{Refusal}
use Rattle.api_http.specs.declared.reading.Reading.{Reading}
use Rattle.api_http.specs.declared.reading.Reading.TheVariants.{Whole, NotYet, Refused}
use Rattle.api_http.specs.Heads.{line_feeds, shown, IsWholeHead, HoldsNoHead, HasManyLines, IsNeverHead, IsHopeless}
use Rattle.api_http.specs.Fields.{body_length}
use Rattle.settings_machine.specs.Requests as machine
use Rattle.settings_machine.specs.Asked.{request_of}
use Rattle.api_http.specs.Spelled.{Spells}
use Rattle.api_http.specs.Requests.{told, pairs_of, Shows, Asks, IsCleanHead, too_long, many_lines, in_head, in_body, MayRefuse, IfWhole, IfRefused}
use Rattle.api_http.proofs.Lines.{line_feeds-append}
use Rattle.api_http.proofs.Shown.{head_in_shown, head_from_shown}
use Rattle.api_http.proofs.Cut.{near_grows, full_stays, long_stays}
use Rattle.api_http.proofs.Begins.{spelled_proper}
use Rattle.api_http.proofs.Hopeless.{end_lines}
use Rattle.api_http.proofs.OneAnswer.{asked_not_refused, one_asked, same_head}

-- a whole head stays
pub head_stays : (bytes more : List ℕ) (h : RequestHead) (rest : List ℕ) → IsWholeHead bytes h rest → IsWholeHead (bytes ++ more) h (rest ++ more)
head_stays bytes more h rest w = record { reads = ReadsRequest-append bytes h rest more w.reads; fields = w.fields; lines = w.lines; size = w.size }

-- so does a clean one
pub clean_stays : (bytes more : List ℕ) (h : RequestHead) (rest : List ℕ) → IsCleanHead bytes h rest → IsCleanHead (bytes ++ more) h (rest ++ more)
clean_stays bytes more h rest c = record { whole = head_stays bytes more h rest c.whole; clean = c.clean }

-- a whole request stays the same
pub asked_stays : (bytes more : List ℕ) (q : machine.Request) (n : ℕ) → Asks bytes q n → Asks (bytes ++ more) q n
asked_stays bytes more q n a = record {
  head = a.head;
  rest = a.rest ++ more;
  clean = clean_stays bytes more a.head a.rest a.clean;
  body = omega (arith, a.body, length-append a.rest more);
  length_is = a.length_is;
  route = a.route;
  route_is = a.route_is;
  spells = subst (λ l. Spells (pairs_of (told a.head)) l a.route q) (sym (take-append-le (body_length (told a.head).fields) a.rest more a.body)) a.spells;
}

-- where the bytes that are looked at stay, no head comes
no_head_comes : (bytes more : List ℕ) → shown (bytes ++ more) ≡ shown bytes → HoldsNoHead bytes → HoldsNoHead (bytes ++ more)
no_head_comes bytes more same none h rest w =
    let there = head_in_shown (bytes ++ more) h rest w.reads w.size w.lines in
    let back = head_from_shown bytes h there.0 (subst (λ b. ReadsRequest b h there.0) same there.1) in
    none h back.0.0 (record { reads = back.0.1; fields = w.fields; lines = w.lines; size = w.size })

cons_same : (a b : ℕ) (xs ys : List ℕ) → a ∷ xs ≡ b ∷ ys → (a ≡ b) × (xs ≡ ys)
cons_same a b xs ys e = (cc, cc)

-- of two texts with the same bytes from the front, one goes on from the other
one_longer : (a b xs ys : List ℕ) → a ++ xs ≡ b ++ ys → ((m : List ℕ) × (a ++ m ≡ b)) ⊎ ((m : List ℕ) × (a ≡ b ++ m))
one_longer [] b xs ys e = inl (b, refl)
one_longer (c ∷ a) [] xs ys e = inr (c ∷ a, refl)
one_longer (c ∷ a) (d ∷ b) xs ys e =
    let same = cons_same c d (a ++ xs) (b ++ ys) e in
    elim (one_longer a b xs ys same.1) [
      | inl (m, is) ↦ inl (m, ap (λ l. c ∷ l) is ∙ ap (λ x. x ∷ b) same.0)
      | inr (m, is) ↦ inr (m, ap (λ l. c ∷ l) is ∙ ap (λ x. x ∷ (b ++ m)) same.0)
    ]

-- after a hopeless head none comes
hopeless_stays : (bytes more : List ℕ) → IsHopeless bytes → HoldsNoHead (bytes ++ more)
hopeless_stays bytes more hopeless h rest w = by (one_longer bytes (print_request h) more rest w.reads.1)
  where
    by : ((m : List ℕ) × (bytes ++ m ≡ print_request h)) ⊎ ((m : List ℕ) × (bytes ≡ print_request h ++ m)) → ⊥
    by (inl (m, is)) = hopeless.never m h (w.reads.0, is ∙ sym (append-nil (print_request h)))
    by (inr (m, is)) = hopeless.no_head h m (record { reads = (w.reads.0, is); fields = w.fields; lines = w.lines; size = w.size })

lines_full : (bytes : List ℕ) → HasManyLines bytes → line_feeds (shown bytes) ≡ 66
lines_full bytes many = omega (arith, many, end_lines 66 (take 16384 bytes))

-- what is refused is never whole
pub refused_stays : (bytes more : List ℕ) (r : Refusal) → MayRefuse bytes r → (q : machine.Request) (n : ℕ) → ¬ Asks (bytes ++ more) q n
refused_stays bytes more _ (inl (too_long none few long)) q n a = no_head_comes bytes more (long_stays bytes more long) none a.head a.rest a.clean.whole
refused_stays bytes more _ (inl (many_lines none many)) q n a = no_head_comes bytes more (full_stays bytes more (lines_full bytes many)) none a.head a.rest
    a.clean.whole
refused_stays bytes more _ (inl (in_head h rest r whole first)) q n a =
    a.clean.clean r (subst (λ k. Shows (told k) r) (same_head (bytes ++ more) h a.head (rest ++ more) a.rest (head_stays bytes more h rest whole)
    a.clean.whole).head first.shows)
refused_stays bytes more r (inl (in_body h rest s e clean body route_is treed wrong)) q n a =
    asked_not_refused (bytes ++ more) q n _ a
    (in_body h (rest ++ more) s e (clean_stays bytes more h rest clean) (omega (arith, body, length-append rest more)) route_is treed
    (ap (λ l. flattened pending_leaf settings_key l) (take-append-le (body_length (told h).fields) rest more body) ∙ wrong))
refused_stays bytes more r (inr (_, hopeless)) q n a = hopeless_stays bytes more hopeless a.head a.rest a.clean.whole

-- a whole request lies within the bytes
pub asked_within : (bytes : List ℕ) (q : machine.Request) (n : ℕ) → Asks bytes q n → n ≤ length bytes
asked_within bytes q n a = omega (arith, a.length_is, a.body, ap length a.clean.whole.reads.1, length-append (print_request a.head) a.rest)

many_stay : (bytes more : List ℕ) → HasManyLines bytes → HasManyLines (bytes ++ more)
many_stay bytes more many =
    let near = near_grows 16384 bytes more in
    omega (arith, many, ap line_feeds near.1, line_feeds-append (take 16384 bytes) near.0)

-- what is refused stays refused for the same cause
pub refusal_stays : (bytes more : List ℕ) (r : Refusal) → MayRefuse bytes r → MayRefuse (bytes ++ more) r
refusal_stays bytes more _ (inl (too_long none few long)) =
    let same : take 16384 (bytes ++ more) ≡ take 16384 bytes = take-append-le 16384 bytes more long in
    inl (too_long (no_head_comes bytes more (long_stays bytes more long) none) (omega (arith, few, ap line_feeds same))
    (omega (arith, long, length-append bytes more)))
refusal_stays bytes more _ (inl (many_lines none many)) = inl (many_lines (no_head_comes bytes more (full_stays bytes more (lines_full bytes many)) none)
    (many_stay bytes more many))
refusal_stays bytes more _ (inl (in_head h rest r whole first)) = inl (in_head h (rest ++ more) r (head_stays bytes more h rest whole) first)
refusal_stays bytes more _ (inl (in_body h rest s e clean body route_is treed wrong)) =
    inl (in_body h (rest ++ more) s e (clean_stays bytes more h rest clean) (omega (arith, body, length-append rest more)) route_is treed
    (ap (λ l. flattened pending_leaf settings_key l) (take-append-le (body_length (told h).fields) rest more body) ∙ wrong))
refusal_stays bytes more r (inr (is, hopeless)) = by (cases_lt (line_feeds (take 16384 (bytes ++ more))) 66)
  where
    none : HoldsNoHead (bytes ++ more)
    none = hopeless_stays bytes more hopeless

    never : IsNeverHead (bytes ++ more)
    never later h reads = hopeless.never (more ++ later) h (reads.0, sym (append_assoc bytes more later) ∙ reads.1)

    by : ((line_feeds (take 16384 (bytes ++ more)) < 66) ⊎ (66 ≤ line_feeds (take 16384 (bytes ++ more)))) → MayRefuse (bytes ++ more) r
    by (inl few) = inr (is, record { no_head = none; few = few; never = never })
    by (inr many) = rw is (inl (many_lines none many))

-- a part of a whole request waits for the rest
pub cut_waits : (bytes : List ℕ) (reading : Reading) → IfWhole reading (Asks bytes) → IfRefused reading (MayRefuse bytes)
    → (more : List ℕ) (q : machine.Request) (n : ℕ) → Asks (bytes ++ more) q n → length bytes < n → reading ≡ NotYet
cut_waits bytes (Whole request m) whole may more q n a short =
    let same = one_asked (bytes ++ more) (request_of request) q m n (asked_stays bytes more (request_of request) m whole) a in
    absurd (omega (arith, asked_within bytes (request_of request) m whole, same.1, short))
cut_waits bytes NotYet whole may more q n a short = refl
cut_waits bytes (Refused r) whole may more q n a short = absurd (refused_stays bytes more r may q n a)

-- a reading that is whole lies within the bytes
pub whole_within : (bytes : List ℕ) (reading : Reading) → IfWhole reading (Asks bytes) → IfWhole reading (λ _ n. n ≤ length bytes)
whole_within bytes (Whole request n) a = asked_within bytes (request_of request) n a
whole_within bytes NotYet a = tt
whole_within bytes (Refused r) a = tt

-- a reading that is refused stays refused for the same cause
pub refusal_kept : (bytes : List ℕ) (reading : Reading) → IfRefused reading (MayRefuse bytes)
    → IfRefused reading (λ r. (more : List ℕ) → MayRefuse (bytes ++ more) r)
refusal_kept bytes (Whole request n) may = tt
refusal_kept bytes NotYet may = tt
refusal_kept bytes (Refused r) may = λ more. refusal_stays bytes more r may

-- a reading that is whole stays so
pub whole_stays : (bytes : List ℕ) (reading : Reading) → IfWhole reading (Asks bytes) → IfWhole reading (λ q n. (more : List ℕ) → Asks (bytes ++ more) q n)
whole_stays bytes (Whole request n) a = λ more. asked_stays bytes more (request_of request) n a
whole_stays bytes NotYet a = tt
whole_stays bytes (Refused r) a = tt

-- a reading that is refused is never whole
pub never_whole : (bytes : List ℕ) (reading : Reading) → IfRefused reading (MayRefuse bytes)
    → IfRefused reading (λ _. (more : List ℕ) (q : machine.Request) (n : ℕ) → ¬ Asks (bytes ++ more) q n)
never_whole bytes (Whole request n) a = tt
never_whole bytes NotYet a = tt
never_whole bytes (Refused r) may = λ more. refused_stays bytes more r may

-- what is asked meets what the core asks of its requests
pub whole_proper : (bytes : List ℕ) (reading : Reading) → IfWhole reading (Asks bytes) → IfWhole reading (λ q _. machine.IsProper q)
whole_proper bytes (Whole request n) a = spelled_proper _ _ a.route (request_of request) a.spells
whole_proper bytes NotYet a = tt
whole_proper bytes (Refused r) a = tt
