-- The piece at the head of a text, up to the first comma outside quotes, is determined; the text of a key is one.
use Rattle.std.proofs.Common.{zero-add, cond, ◌≡◌, ◌≢◌, ◌<◌, ◌+◌, ◌%◌, ◌⊎◌, ℕ, suc, List, [], ◌∷◌, ◌++◌, Bool, true, false}
use Rattle.std.proofs.Common.{not, nat_lt, ◌&&◌, ◌==◌, if◌then◌else◌, length, get_or, length-take, take, drop, refl, sym, ◌∙◌, ap, arith, inl, inr}
use Rattle.std.specs.Prelude.{IsTrue, count_by}
use Rattle.std.specs.List.{list_all}
use Rattle.std.proofs.Math.Seq.{drop-cons}
use Rattle.std.proofs.lemmas.Bool.{cases_eq, ne_eqb, and_parts, false≢true}
use Rattle.std.proofs.lemmas.Bool.Decides.{nat_tests}
use Rattle.std.proofs.lemmas.List.Sums.{sum_by-cons}
use Rattle.std.proofs.lemmas.List.{take-append-drop, take-append-le, get_or-take, append_assoc, append-nil}
use Rattle.key_names.specs.Segment.{is_bare, is_quotable, quoted}
use Rattle.key_names.specs.Joined.{Ends, Joins}
use Rattle.key_names.specs.Spelling.{IsSpelling, Spells}
use Rattle.key_names.specs.Listing.{is_closed, IsPiece}

-- the part before a comma outside quotes is a piece
pub IsPiece-at : (text : List ℕ) (i : ℕ) → i < length text → get_or text i 0 ≡ 44 → IsTrue (is_closed (take i text))
    → ((k : ℕ) → k < i → get_or text k 0 ≡ 44 → is_closed (take k text) ≡ false) → IsPiece text (take i text)
IsPiece-at text i within comma closed commas = record {
  rest = drop i text;
  text_is = sym (take-append-drop i text);
  commas = λ k before here.
      let below : k < i = omega (arith, length-take i text, before) in
      let taken : take k (take i text) ≡ take k text = sym (take-append-le k (take i text) (drop i text) (omega (arith, length-take i text)))
      ∙ ap (take k) (take-append-drop i text) in
      ap is_closed taken ∙ commas k below (sym (get_or-take i text k 0 below) ∙ here);
  ends = inr (drop (suc i) text, drop-cons text i 0 within ∙ ap (λ b. b ∷ drop (suc i) text) comma);
  closed = λ _. closed;
}

-- whether a byte is outside quotes, after a text that begins outside or inside them
abbrev outside : Bool → List ℕ → Bool
outside now [] = now
outside now (b ∷ text) = outside (if b == 34 then not now else now) text

-- a quote more changes between even and odd
parity : (n : ℕ) → ((1 + n) % 2 == 0) ≡ not (n % 2 == 0)
parity n = grind (arith, nat_tests)

-- a byte more keeps the quotes closed or not, but for a quote
is_closed-cons : (b : ℕ) (text : List ℕ) → is_closed (b ∷ text) ≡ (if b == 34 then not (is_closed text) else is_closed text)
is_closed-cons b text =
    ap (λ n. n % 2 == 0) (sum_by-cons (λ c. cond (c == 34) 1 0) b text)
    ∙ elim (b == 34) as (λ t. ((cond t 1 0 + count_by (λ c. c == 34) text) % 2 == 0) ≡ (if t then not (is_closed text) else is_closed text)) [
      | true ↦ parity (count_by (λ c. c == 34) text)
      | false ↦ ap (λ n. n % 2 == 0) (zero-add (count_by (λ c. c == 34) text))
    ]

-- two choices by tests are one
choices : (quote closed now : Bool) → (if closed then (if quote then not now else now) else not (if quote then not now else now)) ≡
    (if (if quote then not closed else closed) then now else not now)
choices true true true = refl
choices true true false = refl
choices true false true = refl
choices true false false = refl
choices false true now = refl
choices false false now = refl

-- after a text that begins outside quotes a byte is outside where the text's quotes are closed
outside-is : (now : Bool) (text : List ℕ) → outside now text ≡ (if is_closed text then now else not now)
outside-is now [] = refl
outside-is now (b ∷ text) =
    outside-is (if b == 34 then not now else now) text
    ∙ choices (b == 34) (is_closed text) now
    ∙ ap (λ closed. if closed then now else not now) (sym (is_closed-cons b text))

-- so at the beginning
closed_outside : (text : List ℕ) → outside true text ≡ is_closed text
closed_outside text = outside-is true text ∙ itself (is_closed text)
  where
    itself : (closed : Bool) → (if closed then true else not true) ≡ closed
    itself true = refl
    itself false = refl

-- a text cut at its first comma outside quotes
abbrev pub cut : Bool → List ℕ → List ℕ × List ℕ
cut now [] = ([], [])
cut now (b ∷ text) = if now && b == 44 then ([], b ∷ text) else (
  b ∷ (cut (if b == 34 then not now else now) text).0,
  (cut (if b == 34 then not now else now) text).1,
)

-- what is not also false is false
and_false : (t : Bool) → (t && false) ≡ false
and_false true = refl
and_false false = refl

-- a piece is cut off
cut-piece : (piece rest : List ℕ) (now : Bool) → ((i : ℕ) → i < length piece → get_or piece i 0 ≡ 44 → outside now (take i piece) ≡ false) → Ends 44 rest
    → (rest ≢ [] → outside now piece ≡ true) → cut now (piece ++ rest) ≡ (piece, rest)
cut-piece [] rest now commas (inl none) closed = rw none refl
cut-piece [] rest now commas (inr (more, comma)) closed = rw (comma, closed (λ none. cc)) refl
cut-piece (b ∷ piece) rest now commas ends closed =
    let here : (now && b == 44) ≡ false = goes_on (cases_eq b 44) in
    let tails = cut-piece piece rest (if b == 34 then not now else now) (λ i within comma. commas (suc i) (omega (arith, within)) comma) ends closed in
    rw here (ap (λ (p : List ℕ × List ℕ). (b ∷ p.0, p.1)) tails)
  where
    goes_on : (b ≡ 44) ⊎ (b ≢ 44) → (now && b == 44) ≡ false
    goes_on (inl comma) = ap (λ t. t && b == 44) (commas 0 (omega arith) comma)
    goes_on (inr other) = ap (λ t. now && t) (ne_eqb b 44 other) ∙ and_false now

-- a byte other than a quote and a comma is passed over, outside quotes
passes_byte : (b : ℕ) (text : List ℕ) → b ≢ 34 → b ≢ 44 → cut true (b ∷ text) ≡ (b ∷ (cut true text).0, (cut true text).1)
passes_byte b text unquoted other = rw (ne_eqb b 44 other, ne_eqb b 34 unquoted) refl

-- so are bare characters
passes_bare : (s text : List ℕ) → IsTrue (list_all is_bare s) → cut true (s ++ text) ≡ (s ++ (cut true text).0, (cut true text).1)
passes_bare [] text bare = refl
passes_bare (b ∷ s) text bare =
    let parts = and_parts (is_bare b) (list_all is_bare s) bare in
    passes_byte b (s ++ text) (λ quote. false≢true (ap is_bare (sym quote) ∙ parts.0)) (λ comma. false≢true (ap is_bare (sym comma) ∙ parts.0))
    ∙ ap (λ (p : List ℕ × List ℕ). (b ∷ p.0, p.1)) (passes_bare s text parts.1)

-- so is what is allowed in quotes, inside them
passes_inside : (s text : List ℕ) → IsTrue (list_all is_quotable s) → cut false (s ++ text) ≡ (s ++ (cut false text).0, (cut false text).1)
passes_inside [] text good = refl
passes_inside (b ∷ s) text good =
    let parts = and_parts (is_quotable b) (list_all is_quotable s) good in
    rw (ne_eqb b 34 (λ quote. false≢true (ap is_quotable (sym quote) ∙ parts.0)))
    (ap (λ (p : List ℕ × List ℕ). (b ∷ p.0, p.1)) (passes_inside s text parts.1))

-- so is a segment in quotes
passes_quoted : (s text : List ℕ) → IsTrue (list_all is_quotable s) → cut true (quoted s ++ text) ≡ (quoted s ++ (cut true text).0, (cut true text).1)
passes_quoted s text good =
    ap (λ t. (34 ∷ (cut false t).0, (cut false t).1)) (append_assoc s (34 ∷ []) text)
    ∙ ap (λ (p : List ℕ × List ℕ). (34 ∷ p.0, p.1)) (passes_inside s (34 ∷ text) good)
    ∙ ap (λ (t : List ℕ). (34 ∷ t, (cut true text).1)) (sym (append_assoc s (34 ∷ []) (cut true text).0))

-- so is a spelling
passes_spelling : (spelling segment text : List ℕ) → IsSpelling spelling segment
    → cut true (spelling ++ text) ≡ (spelling ++ (cut true text).0, (cut true text).1)
passes_spelling spelling segment text spelled = by_form spelled.form
  where
    by_form : (spelling ≡ quoted segment) ⊎ ((spelling ≡ segment) × IsTrue (list_all is_bare segment))
        → cut true (spelling ++ text) ≡ (spelling ++ (cut true text).0, (cut true text).1)
    by_form (inl is) = rw is (passes_quoted segment text (and_parts (nat_lt 0 (length segment)) (list_all is_quotable segment) spelled.valid).1)
    by_form (inr (is, bare)) = rw is (passes_bare segment text bare)

-- so is what a text spells
passes_spelled : (key : List (List ℕ)) (front text : List ℕ) → Spells front key → cut true (front ++ text) ≡ (front ++ (cut true text).0, (cut true text).1)
unfolding Joins
passes_spelled [] front text none = absurd none
passes_spelled (segment ∷ []) front text spelled = passes_spelling front segment text spelled
passes_spelled (segment ∷ next ∷ key) front text (spelling, rest, is, spelled, spells) =
    ap (λ s. cut true (s ++ text)) is
    ∙ ap (cut true) (append_assoc spelling (46 ∷ rest) text)
    ∙ passes_spelling spelling segment (46 ∷ (rest ++ text)) spelled
    ∙ ap (λ (p : List ℕ × List ℕ). (spelling ++ 46 ∷ p.0, p.1)) (passes_spelled (next ∷ key) rest text spells)
    ∙ ap (λ (t : List ℕ). (t, (cut true text).1)) (sym (append_assoc spelling (46 ∷ rest) (cut true text).0) ∙ ap (λ s. s ++ (cut true text).0) (sym is))

-- the text of a key is cut off
pub cut-key : (key : List (List ℕ)) (front rest : List ℕ) → Spells front key → Ends 44 rest → cut true (front ++ rest) ≡ (front, rest)
cut-key key front rest spells ends = passes_spelled key front rest spells ∙ at_end rest ends
  where
    at_end : (s : List ℕ) → Ends 44 s → ◌≡◌ {A = List ℕ × List ℕ} (front ++ (cut true s).0, (cut true s).1) (front, s)
    at_end s (inl none) = rw none (ap (λ (t : List ℕ). (t, [])) (append-nil front))
    at_end s (inr (more, comma)) = rw comma (ap (λ (t : List ℕ). (t, 44 ∷ more)) (append-nil front))

-- so is a piece
pub cut-IsPiece : {text piece : List ℕ} → (p : IsPiece text piece) → cut true text ≡ (piece, p.rest)
cut-IsPiece {text} {piece} p =
    ap (cut true) p.text_is
    ∙ cut-piece piece p.rest true (λ i within comma. closed_outside (take i piece) ∙ p.commas i within comma) p.ends
    (λ some. closed_outside piece ∙ p.closed some)
