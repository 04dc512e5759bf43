-- Lists of keys, merged.
use Rattle.std.proofs.Common.{◌≡◌, ◌⊎◌, inl, inr, ℕ, List, [], ◌∷◌, ◌++◌, refl, sym, ◌∙◌, ap, append-nil}
use Rattle.settings_maps.specs.KeyList.{joined}

-- A list merged with nothing.
pub joined_alone : (keys : List (List (List ℕ))) → joined keys [] ≡ keys
joined_alone [] = refl
joined_alone (key ∷ keys) = refl

-- Where one list is used up, what is left of both, one after the other, is what is left of both merged.
pub rest_merged : (all done first both one two : List (List (List ℕ))) → (one ≡ []) ⊎ (two ≡ [])
    → first ≡ done ++ one → both ≡ first ++ two → done ++ joined one two ≡ all → both ≡ all
rest_merged all done first both one two (inl none) moved more whole =
    more ∙ ap (λ (l : List (List (List ℕ))). l ++ two) (moved ∙ ap (λ (l : List (List (List ℕ))). done ++ l) none ∙ append-nil done)
    ∙ sym (ap (λ (l : List (List (List ℕ))). done ++ joined l two) none) ∙ whole
rest_merged all done first both one two (inr none) moved more whole =
    more ∙ ap (λ (l : List (List (List ℕ))). first ++ l) none ∙ append-nil first ∙ moved
    ∙ sym (ap (λ (l : List (List (List ℕ))). done ++ joined one l) none ∙ ap (λ (l : List (List (List ℕ))). done ++ l) (joined_alone one)) ∙ whole
