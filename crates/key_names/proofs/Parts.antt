-- Texts that are made of the texts of items, read item by item.
use Rattle.std.proofs.Common.{◌≡◌, ◌≢◌, ◌≤◌, ◌+◌, ℕ, List, [], ◌∷◌, ◌++◌, length, length-append}
use Rattle.std.proofs.Common.{length-take, length-drop, take, drop, refl, sym, ◌∙◌, ap, subst, arith, inl, inr}
use Rattle.std.proofs.Math.Seq.{take-append_seam}
use Rattle.std.proofs.lemmas.List.{take-append-drop, append_assoc, append-nil}
use Rattle.key_names.specs.Joined.{Ends, Joins, Leads}
use Rattle.key_names.proofs.Segments.{empty_list}

module _ {X : Type 0} (IsText : List ℕ → X → Type 0) (separator : ℕ) where
  -- an item and a separator more
  Leads-push : (text last : List ℕ) (xs : List X) (x : X) → Leads IsText separator text xs → IsText last x
      → Leads IsText separator (text ++ (last ++ separator ∷ [])) (xs ++ x ∷ [])
  unfolding Leads
  Leads-push text last [] x none is = (last, [], ap (λ s. s ++ (last ++ separator ∷ [])) none, is, refl)
  Leads-push text last (y ∷ xs) x (front, rest, parts, first_is, leads) is = (
    front,
    rest ++ (last ++ separator ∷ []),
    ap (λ s. s ++ (last ++ separator ∷ [])) parts
        ∙ append_assoc front (separator ∷ rest) (last ++ separator ∷ []),
    first_is,
    Leads-push rest last xs x leads is,
  )

  -- a last item
  Joins-push : (text last : List ℕ) (xs : List X) (x : X) → Leads IsText separator text xs → IsText last x
      → Joins IsText separator (text ++ last) (xs ++ x ∷ [])
  unfolding Leads Joins
  Joins-push text last [] x none is = subst (λ s. IsText s x) (ap (λ s. s ++ last) (sym none)) is
  Joins-push text last (y ∷ []) x (front, rest, parts, first_is, leads) is =
      (front, rest ++ last, ap (λ s. s ++ last) parts ∙ append_assoc front (separator ∷ rest) last, first_is, Joins-push rest last [] x leads is)
  Joins-push text last (y ∷ z ∷ xs) x (front, rest, parts, first_is, leads) is =
      (front, rest ++ last, ap (λ s. s ++ last) parts ∙ append_assoc front (separator ∷ rest) last, first_is, Joins-push rest last (z ∷ xs) x leads is)

  -- no text leads to no items
  pub Leads-none : (text : List ℕ) (xs : List X) → xs ≡ [] → Leads IsText separator (take 0 text) xs
  unfolding Leads
  Leads-none text xs none = rw none refl

  -- a text that was read up to `start` goes on with an item and what follows it
  module _ (text : List ℕ) (xs : List X) (start : ℕ) (within : start ≤ length text) (leads : Leads IsText separator (take start text) xs) (x : X)
      (front rest : List ℕ) (parts : drop start text ≡ front ++ rest) (is : IsText front x) where
    -- what was read, the item and the rest make up the text
    whole : text ≡ take start text ++ (front ++ rest)
    whole = sym (take-append-drop start text) ∙ ap (λ s. take start text ++ s) parts

    -- where the item reaches the end, it is the last
    pub joins_whole : start + length front ≡ length text → Joins IsText separator text (xs ++ x ∷ [])
    joins_whole ends =
        let none : length rest ≡ 0 = omega (arith, ap length parts, length-append front rest, length-drop start text) in
        let alone : text ≡ take start text ++ front = whole ∙ ap (λ s. take start text ++ (front ++ s)) (empty_list rest none)
        ∙ ap (λ s. take start text ++ s) (append-nil front) in
        subst (λ s. Joins IsText separator s (xs ++ x ∷ [])) (sym alone) (Joins-push (take start text) front xs x leads is)

    -- where it does not, a separator comes after it
    pub leads_more : start + length front ≢ length text → Ends separator rest → Leads IsText separator (take (start + length front + 1) text) (xs ++ x ∷ [])
    leads_more goes_on (inl none) = absurd (goes_on (omega (arith, ap length none, ap length parts, length-append front rest, length-drop start text)))
    leads_more goes_on (inr (more, separated)) =
        let read : List ℕ = take start text ++ (front ++ separator ∷ []) in
        let long : length read ≡ start + length front + 1 = omega (
          arith,
          length-take start text,
          length-append (take start text) (front ++ separator ∷ []),
          length-append front (separator ∷ []),
        ) in
        let cut : text ≡ read ++ more = whole ∙ ap (λ s. take start text ++ (front ++ s)) separated
        ∙ ap (λ s. take start text ++ s) (sym (append_assoc front (separator ∷ []) more))
        ∙ sym (append_assoc (take start text) (front ++ separator ∷ []) more) in
        let taken : take (start + length front + 1) text ≡ read = ap (λ n. take n text) (sym long) ∙ ap (take (length read)) cut ∙ take-append_seam read more in
        subst (λ s. Leads IsText separator s (xs ++ x ∷ [])) (sym taken) (Leads-push (take start text) front xs x leads is)
