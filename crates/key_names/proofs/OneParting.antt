-- The items of a text that is made of their texts are determined, where each item at its head is; so is its fault.
use Rattle.std.proofs.Common.{◌≡◌, ◌+◌, ℕ, List, [], ◌∷◌, ◌++◌, length, length-append, refl, sym, ◌∙◌, ap, subst, arith, inl, inr}
use Rattle.std.proofs.lemmas.List.{append_assoc, append-nil}
use Rattle.key_names.specs.declared.key_error.KeyFault.{KeyFault}
use Rattle.key_names.specs.Joined.{Ends, Joins, Leads, FaultBehind}

-- the item at the head of a text, up to where it ends, is determined
pub record OneItem {X : Type 0} (IsText : List ℕ → X → Type 0) (separator : ℕ) : Type 0 where
  pub one : (f r g s : List ℕ) (x y : X) → IsText f x → Ends separator r → IsText g y → Ends separator s → f ++ r ≡ g ++ s → (f ≡ g) × (x ≡ y) × (r ≡ s)

-- a text has one fault at its head, and none where an item ends there
pub record OneFault {X : Type 0} (IsText : List ℕ → X → Type 0) (separator : ℕ) (Fails : List ℕ → KeyFault → ℕ → Type 0) : Type 0 where
  pub none : (f r : List ℕ) (x : X) (kind : KeyFault) (offset : ℕ) → IsText f x → Ends separator r → Fails (f ++ r) kind offset → ⊥
  pub one : (text : List ℕ) (a b : KeyFault) (i j : ℕ) → Fails text a i → Fails text b j → (a ≡ b) × (i ≡ j)

module _ {X : Type 0} (IsText : List ℕ → X → Type 0) (separator : ℕ) where
  -- the separator ends an item
  more : (rest : List ℕ) → Ends separator (separator ∷ rest)
  more rest = inr (rest, refl)

  -- what leads goes on after its first item
  behind_first : (text lead rest front tail : List ℕ) → text ≡ lead ++ rest → lead ≡ front ++ separator ∷ tail → text ≡ front ++ separator ∷ (tail ++ rest)
  behind_first text lead rest front tail is parts = is ∙ ap (λ s. s ++ rest) parts ∙ append_assoc front (separator ∷ tail) rest

  module _ (item : OneItem IsText separator) where
    -- two first items with a separator after each are one
    same_first : (text f r g s : List ℕ) (x y : X) → text ≡ f ++ separator ∷ r → IsText f x → text ≡ g ++ separator ∷ s → IsText g y
        → (f ≡ g) × (x ≡ y) × (r ≡ s)
    same_first text f r g s x y parts is parts' is' =
        let same = item.one f (separator ∷ r) g (separator ∷ s) x y is (more r) is' (more s) (sym parts ∙ parts') in
        (same.0, same.1, (let tails = same.2 in cc))

    -- a last item and one with a separator after it are two
    last_and_more : (text g s : List ℕ) (x y : X) → IsText text x → text ≡ g ++ separator ∷ s → IsText g y → ⊥
    last_and_more text g s x y is parts is' =
        let same = item.one text [] g (separator ∷ s) x y is (inl refl) is' (more s) (append-nil text ∙ parts) in
        let tails = same.2 in cc

    -- a text joins one list of items
    pub one_joined : (xs ys : List X) (text : List ℕ) → Joins IsText separator text xs → Joins IsText separator text ys → xs ≡ ys
    unfolding Joins
    one_joined [] ys text none is = absurd none
    one_joined (x ∷ []) [] text is none = absurd none
    one_joined (x ∷ x' ∷ xs) [] text is none = absurd none
    one_joined (x ∷ []) (y ∷ []) text is is' = ap (λ z. z ∷ []) (item.one text [] text [] x y is (inl refl) is' (inl refl) refl).1
    one_joined (x ∷ []) (y ∷ y' ∷ ys) text is (g, s, parts, is', after) = absurd (last_and_more text g s x y is parts is')
    one_joined (x ∷ x' ∷ xs) (y ∷ []) text (f, r, parts, is, after) is' = absurd (last_and_more text f r y x is' parts is)
    one_joined (x ∷ x' ∷ xs) (y ∷ y' ∷ ys) text (f, r, parts, is, after) (g, s, parts', is', after') =
        let same = same_first text f r g s x y parts is parts' is' in
        let tails = one_joined (x' ∷ xs) (y' ∷ ys) r after (subst (λ t. Joins IsText separator t (y' ∷ ys)) (sym same.2) after') in
        λ i. same.1 i ∷ tails i

    -- as many items lead to one place
    pub one_place : (xs ys : List X) (text f r g s : List ℕ) → length xs ≡ length ys → Leads IsText separator f xs → text ≡ f ++ r → Leads IsText separator g ys
        → text ≡ g ++ s → length f ≡ length g
    unfolding Leads
    one_place [] [] text f r g s as_many none is none' is' = ap length (none ∙ sym none')
    one_place [] (y ∷ ys) text f r g s as_many leads is leads' is' = absurd (omega (arith, as_many))
    one_place (x ∷ xs) [] text f r g s as_many leads is leads' is' = absurd (omega (arith, as_many))
    one_place (x ∷ xs) (y ∷ ys) text f r g s as_many (f', tail, parts, is_x, leads) is (g', tail', parts', is_y, leads') is' =
        let same = same_first text f' (tail ++ r) g' (tail' ++ s) x y (behind_first text f r f' tail is parts) is_x (behind_first text g s g' tail' is' parts')
        is_y in
        let fewer : length xs ≡ length ys = omega (arith, as_many) in
        let tails = one_place xs ys (tail ++ r) tail r tail' s fewer leads refl leads' same.2 in
        omega (arith, tails, ap length same.0, ap length parts, ap length parts', length-append f' (separator ∷ tail), length-append g' (separator ∷ tail'))

    module _ (Fails : List ℕ → KeyFault → ℕ → Type 0) (fault : OneFault IsText separator Fails) where
      -- a fault is not at the head of an item with a separator after it
      no_fault_before : (text f r : List ℕ) (x : X) (kind : KeyFault) (offset : ℕ) → text ≡ f ++ separator ∷ r → IsText f x → Fails text kind offset → ⊥
      no_fault_before text f r x kind offset parts is wrong = fault.none f (separator ∷ r) x kind offset is (more r)
          (subst (λ t. Fails t kind offset) parts wrong)

      -- a fault after no items is one at the head
      at_head : (text lead rest : List ℕ) (kind : KeyFault) (offset : ℕ) → lead ≡ [] → text ≡ lead ++ rest → Fails rest kind offset → Fails text kind offset
      at_head text lead rest kind offset none is wrong = subst (λ t. Fails t kind offset) (sym (is ∙ ap (λ s. s ++ rest) none)) wrong

      -- a text that joins items has no fault after some of them
      joined_faultless : (before xs : List X) (text lead rest : List ℕ) (kind : KeyFault) (offset : ℕ) → Leads IsText separator lead before
          → text ≡ lead ++ rest → Fails rest kind offset → Joins IsText separator text xs → ⊥
      unfolding Joins Leads
      joined_faultless before [] text lead rest kind offset leads is wrong none = none
      joined_faultless [] (x ∷ []) text lead rest kind offset none is wrong is_x =
          fault.none text [] x kind offset is_x (inl refl) (subst (λ t. Fails t kind offset) (sym (append-nil text))
          (at_head text lead rest kind offset none is wrong))
      joined_faultless [] (x ∷ x' ∷ xs) text lead rest kind offset none is wrong (f, r, parts, is_x, after) =
          no_fault_before text f r x kind offset parts is_x (at_head text lead rest kind offset none is wrong)
      joined_faultless (o ∷ before) (x ∷ []) text lead rest kind offset (front, tail, parts, is_o, leads) is wrong is_x =
          last_and_more text front (tail ++ rest) x o is_x (behind_first text lead rest front tail is parts) is_o
      joined_faultless (o ∷ before) (x ∷ x' ∷ xs) text lead rest kind offset (front, tail, parts, is_o, leads) is wrong (f, r, parts', is_x, after) =
          let same = same_first text f r front (tail ++ rest) x o parts' is_x (behind_first text lead rest front tail is parts) is_o in
          joined_faultless before (x' ∷ xs) r tail rest kind offset leads same.2 wrong after

      -- so it has no fault
      pub no_fault_behind : (xs : List X) (text : List ℕ) (kind : KeyFault) (place : ℕ) → Joins IsText separator text xs
          → FaultBehind IsText separator Fails text kind place → ⊥
      no_fault_behind xs text kind place joins f = joined_faultless f.items xs text f.front f.rest kind f.offset f.leads f.text_is f.fault joins

      -- two faults after items are one, at one place
      one_fault : (xs ys : List X) (text lead rest lead' rest' : List ℕ) (a b : KeyFault) (i j : ℕ) → Leads IsText separator lead xs → text ≡ lead ++ rest
          → Fails rest a i → Leads IsText separator lead' ys → text ≡ lead' ++ rest' → Fails rest' b j → (a ≡ b) × (length lead + i ≡ length lead' + j)
      unfolding Leads
      one_fault [] [] text lead rest lead' rest' a b i j none is wrong none' is' wrong' =
          let same = fault.one text a b i j (at_head text lead rest a i none is wrong) (at_head text lead' rest' b j none' is' wrong') in
          (same.0, omega (arith, ap length none, ap length none', same.1))
      one_fault [] (y ∷ ys) text lead rest lead' rest' a b i j none is wrong (front, tail, parts, is_y, leads) is' wrong' =
          absurd (no_fault_before text front (tail ++ rest') y a i (behind_first text lead' rest' front tail is' parts) is_y
          (at_head text lead rest a i none is wrong))
      one_fault (x ∷ xs) [] text lead rest lead' rest' a b i j (front, tail, parts, is_x, leads) is wrong none' is' wrong' =
          absurd (no_fault_before text front (tail ++ rest) x b j (behind_first text lead rest front tail is parts) is_x
          (at_head text lead' rest' b j none' is' wrong'))
      one_fault (x ∷ xs) (y ∷ ys) text lead rest lead' rest' a b i j (f, tail, parts, is_x, leads) is wrong (g, tail', parts', is_y, leads') is' wrong' =
          let same = same_first text f (tail ++ rest) g (tail' ++ rest') x y (behind_first text lead rest f tail is parts) is_x
          (behind_first text lead' rest' g tail' is' parts') is_y in
          let tails = one_fault xs ys (tail ++ rest) tail rest tail' rest' a b i j leads refl wrong leads' same.2 wrong' in (
            tails.0,
            omega (
              arith,
              tails.1,
              ap length same.0,
              ap length parts,
              ap length parts',
              length-append f (separator ∷ tail),
              length-append g
                  (separator ∷ tail'),
            ),
          )

      -- a text has one fault after items
      pub one_fault_behind : (text : List ℕ) (a b : KeyFault) (p q : ℕ) → FaultBehind IsText separator Fails text a p
          → FaultBehind IsText separator Fails text b q → (a ≡ b) × (p ≡ q)
      one_fault_behind text a b p q f g =
          let same = one_fault f.items g.items text f.front f.rest g.front g.rest a b f.offset g.offset f.leads f.text_is f.fault g.leads g.text_is g.fault in
          (same.0, f.place_is ∙ same.1 ∙ sym g.place_is)
