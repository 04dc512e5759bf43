-- Results of a list, gathered into one.
use Rattle.std.specs.Prelude.{List, [], ◌∷◌, ◌++◌, Result, Ok, Err}

-- What f gives of the value, or the refusal.
abbrev pub result_and_then : {A B E : Type 0} → (A → Result B E) → Result A E → Result B E
result_and_then f (Ok x) = f x
result_and_then f (Err e) = Err e

-- The value under f, or the refusal.
abbrev pub result_map : {A B E : Type 0} → (A → B) → Result A E → Result B E
result_map f (Ok x) = Ok (f x)
result_map f (Err e) = Err e

-- The lists that f gives of each, joined, or the first refusal.
abbrev pub gathered : {A B E : Type 0} → (A → Result (List B) E) → List A → Result (List B) E
gathered f [] = Ok []
gathered f (x ∷ xs) = result_and_then (λ ys. result_map (λ zs. ys ++ zs) (gathered f xs)) (f x)

-- What f gives of each, or the first refusal.
abbrev pub collected : {A B E : Type 0} → (A → Result B E) → List A → Result (List B) E
collected f xs = gathered (λ x. result_map (λ y. y ∷ []) (f x)) xs
