-- A line, as far as it is written.
use Rattle.std.proofs.Common.{◌≡◌, ℕ, List, [], ◌∷◌, ◌++◌, append_assoc, append-nil, sym, ◌∙◌, ap}
use Rattle.std.specs.List.{flat_map}
use Rattle.std.proofs.lemmas.List.Concat.{flat_map-append}
use Rattle.event_lines.specs.Logfmt.{Pair, pair_text, line}

-- Behind what was there, the text has this word and these pairs.
pub record Begun (before word : List ℕ) (pairs : List Pair) (text : List ℕ) : Type 0 where
  pub is : text ≡ before ++ (word ++ flat_map pair_text pairs)

-- It has the word.
pub worded : (before word text : List ℕ) → text ≡ before ++ word → Begun before word [] text
worded before word text is = record { is = is ∙ ap (λ (w : List ℕ). before ++ w) (sym (append-nil word)) }

-- Several pairs follow.
pub more_pairs : {before word text : List ℕ} {pairs : List Pair} (more : List Pair) (next : List ℕ) → Begun before word pairs text
    → next ≡ text ++ flat_map pair_text more → Begun before word (pairs ++ more) next
more_pairs {before = before} {word = word} {pairs = pairs} more next begun is = record {
  is =
      is ∙ ap (λ (t : List ℕ). t ++ flat_map pair_text more) begun.is
      ∙ append_assoc before (word ++ flat_map pair_text pairs) (flat_map pair_text more)
      ∙ ap (λ (t : List ℕ). before ++ t) (append_assoc word (flat_map pair_text pairs) (flat_map pair_text more))
      ∙ ap (λ (t : List ℕ). before ++ (word ++ t)) (sym (flat_map-append pair_text pairs more));
}

-- A pair follows.
pub one_pair : {before word text : List ℕ} {pairs : List Pair} (name value seen next : List ℕ) → Begun before word pairs text → seen ≡ value
    → next ≡ text ++ pair_text (name, seen) → Begun before word (pairs ++ (name, value) ∷ []) next
one_pair {text = text} name value seen next begun same is =
    more_pairs ((name, value) ∷ []) next begun
    (is ∙ ap (λ (v : List ℕ). text ++ pair_text (name, v)) same ∙ ap (λ (t : List ℕ). text ++ t) (sym (append-nil (pair_text (name, value)))))

-- The line ends.
pub ended : {before word text : List ℕ} {pairs : List Pair} (next : List ℕ) → Begun before word pairs text → next ≡ text ++ 10 ∷ []
    → next ≡ before ++ line word pairs
ended {before = before} {word = word} {pairs = pairs} next begun is =
    is ∙ ap (λ (t : List ℕ). t ++ 10 ∷ []) begun.is ∙ append_assoc before (word ++ flat_map pair_text pairs) (10 ∷ [])

-- Two pairs alone.
pub two_pairs : (before between text : List ℕ) (first second : Pair) → between ≡ before ++ pair_text first → text ≡ between ++ pair_text second
    → text ≡ before ++ flat_map pair_text (first ∷ second ∷ [])
two_pairs before between text first second one two =
    two ∙ ap (λ (t : List ℕ). t ++ pair_text second) one ∙ append_assoc before (pair_text first) (pair_text second)
    ∙ ap (λ (t : List ℕ). before ++ (pair_text first ++ t)) (sym (append-nil (pair_text second)))
