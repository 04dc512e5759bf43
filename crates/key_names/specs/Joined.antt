-- Texts that are made of the texts of items, with a separator between them.
use Rattle.std.specs.Prelude.{◌≡◌, ◌⊎◌, ◌+◌, ℕ, List, [], ◌∷◌, ◌++◌, length}
use Rattle.key_names.specs.declared.key_error.KeyFault.{KeyFault}

-- The text begins with these bytes.
abbrev pub Begins : List ℕ → List ℕ → Type 0
Begins text front = (rest : List ℕ) × (text ≡ front ++ rest)

-- An item ends here: the text ends, or the separator is here.
abbrev pub Ends : ℕ → List ℕ → Type 0
Ends separator text = (text ≡ []) ⊎ Begins text (separator ∷ [])

-- The text is made of a text of each item, joined by the separator.
unfoldable pub Joins : {X : Type 0} → (List ℕ → X → Type 0) → ℕ → List ℕ → List X → Type 0
Joins IsText separator text [] = ⊥
Joins IsText separator text (x ∷ []) = IsText text x
Joins IsText separator text (x ∷ y ∷ xs) =
    (front : List ℕ) × (rest : List ℕ) × (text ≡ front ++ separator ∷ rest)
    × IsText front x × Joins IsText separator rest (y ∷ xs)

-- The text is made of a text of each item, with the separator after each.
unfoldable pub Leads : {X : Type 0} → (List ℕ → X → Type 0) → ℕ → List ℕ → List X → Type 0
Leads IsText separator text [] = text ≡ []
Leads IsText separator text (x ∷ xs) =
    (front : List ℕ) × (rest : List ℕ) × (text ≡ front ++ separator ∷ rest)
    × IsText front x × Leads IsText separator rest xs

-- After texts of some items, with the separator after each, there is this fault.
pub record FaultBehind {X : Type 0} (IsText : List ℕ → X → Type 0) (separator : ℕ) (Fails : List ℕ → KeyFault → ℕ → Type 0)
    (text : List ℕ) (kind : KeyFault) (place : ℕ) : Type 0 where
  pub front : List ℕ
  pub items : List X
  pub rest : List ℕ
  pub offset : ℕ
  pub text_is : text ≡ front ++ rest
  pub leads : Leads IsText separator front items
  pub fault : Fails rest kind offset
  pub place_is : place ≡ length front + offset
