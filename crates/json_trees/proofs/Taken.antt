-- Lists of which some elements have been taken.
use Rattle.std.proofs.Common.{◌≡◌, List, [], ◌∷◌, ◌++◌, sym, ap, ◌∙◌, append_assoc}

-- one more has been taken
pub taken_one : {X : Type 0} (whole xs : List X) (v : X) (left rest : List X) → whole ≡ xs ++ left → left ≡ v ∷ rest → whole ≡ (xs ++ v ∷ []) ++ rest
taken_one whole xs v left rest h k = h ∙ ap (λ l. xs ++ l) k ∙ sym (append_assoc xs (v ∷ []) rest)
