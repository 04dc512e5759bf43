-- Gathered results of a list that grows.
use Rattle.std.proofs.Common.{◌≡◌, List, [], ◌∷◌, ◌++◌, Result, Ok, Err, append_assoc, append-nil, refl, sym, ap, ◌∙◌}
use Rattle.json_trees.specs.Collected.{result_and_then, result_map, gathered, collected}

-- the results of two lists, one after the other
abbrev pub both : {B E : Type 0} → Result (List B) E → Result (List B) E → Result (List B) E
both front back = result_and_then (λ xs. result_map (λ ys. xs ++ ys) back) front

-- nothing before or after changes what is gathered
pub both-none : {B E : Type 0} (back : Result (List B) E) → back ≡ both (Ok []) back
both-none (Ok ys) = refl
both-none (Err e) = refl

pub both-nothing : {B E : Type 0} (front : Result (List B) E) → both front (Ok []) ≡ front
both-nothing (Ok xs) = ap Ok (append-nil xs)
both-nothing (Err e) = refl

-- three results gathered are the same in either order of joining
pub both-both : {B E : Type 0} (a b c : Result (List B) E) → both a (both b c) ≡ both (both a b) c
both-both (Err e) b c = refl
both-both (Ok xs) (Err e) c = refl
both-both (Ok xs) (Ok ys) (Err e) = refl
both-both (Ok xs) (Ok ys) (Ok zs) = ap Ok (sym (append_assoc xs ys zs))

-- what is gathered of two lists, one after the other
pub gathered-append : {A B E : Type 0} (f : A → Result (List B) E) (xs ys : List A) → gathered f (xs ++ ys) ≡ both (gathered f xs) (gathered f ys)
gathered-append f [] ys = both-none (gathered f ys)
gathered-append f (x ∷ xs) ys = ap (both (f x)) (gathered-append f xs ys) ∙ both-both (f x) (gathered f xs) (gathered f ys)

-- one more that gives a value
pub collected-push : {A B E : Type 0} (f : A → Result B E) (xs : List A) (x : A) (ys : List B) (y : B) → collected f xs ≡ Ok ys → f x ≡ Ok y
    → collected f (xs ++ x ∷ []) ≡ Ok (ys ++ y ∷ [])
collected-push f xs x ys y h k = gathered-append (λ x. result_map (λ y. y ∷ []) (f x)) xs (x ∷ []) ∙ rw (h, k) refl

-- one more that is refused
pub collected-refused : {A B E : Type 0} (f : A → Result B E) (xs : List A) (x : A) (rest : List A) (ys : List B) (e : E) → collected f xs ≡ Ok ys → f x ≡ Err e
    → collected f (xs ++ x ∷ rest) ≡ Err e
collected-refused f xs x rest ys e h k = gathered-append (λ x. result_map (λ y. y ∷ []) (f x)) xs (x ∷ rest) ∙ rw (h, k) refl
