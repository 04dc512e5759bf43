-- Lists whose last element is the next one.
use Rattle.std.proofs.Common.{◌≡◌, ℕ, ◌+◌, ◌-◌, ◌<◌, ◌==◌, true, List, [], ◌∷◌, ◌++◌, length, take, reverse, get_or, sym, ◌∙◌, ap, subst, arith, eqb→eq}
use lib.Dec.{T}
use Rattle.std.specs.Prelude.{All, Vec, string_bytes}
use Rattle.std.specs.Vec.{vec_len}
use Rattle.std.proofs.lemmas.List.{reverse-append, length-reverse, get_or-reverse, length-map, take_all, take_more, nil_from_length}
use Rattle.metadata_links.specs.Commands.{seen}
use Rattle.metadata_links.specs.declared.command.Command.{Command}
use Rattle.affected_apply.specs.Work.{HasWord}

-- A list that isn't empty is its front and its last element.
pub last_of : {X : Type 0} (xs : List X) (d : X) → 0 < length xs → xs ≡ take (length xs - 1) xs ++ get_or xs (length xs - 1) d ∷ []
last_of xs d some =
    let n : length xs - 1 + 1 ≡ length xs = omega arith in
    sym (take_all (length xs - 1 + 1) xs (omega arith)) ∙ take_more xs (length xs - 1) d (omega arith)

-- Read from its end it begins with its last element.
end_first : {X : Type 0} (xs : List X) (d x : X) → 0 < length xs → x ≡ get_or xs (length xs - 1) d → reverse xs ≡ x ∷ reverse (take (length xs - 1) xs)
end_first xs d x some is = ap reverse (last_of xs d some) ∙ reverse-append (take (length xs - 1) xs) (get_or xs (length xs - 1) d ∷ [])
    ∙ ap (λ z. z ∷ reverse (take (length xs - 1) xs)) (sym is)

-- The same of a list that is kept, of which the last element was read.
pub next_first : {X Z : Type 0} (v : Vec X Z) (x : X) (n : ℕ) → 0 < vec_len v → n ≡ vec_len v → x ≡ get_or v.items (n - 1) x
    → reverse v.items ≡ x ∷ reverse (take (length v.items - 1) v.items)
next_first v x n some len is = end_first v.items x x (subst (λ (m : ℕ). 0 < m) v.ok.0 some) (is ∙ ap (λ (m : ℕ). get_or v.items (m - 1) x) (len ∙ v.ok.0))

-- A command of which some word is kept has a word.
has_word : (c : Command) → 0 < length c.words.items → HasWord (seen c)
has_word c some = subst (λ (n : ℕ). 0 < n) (sym (length-map c.words.items (λ w. string_bytes w))) some

-- Commands of which each has a word, read from the end.
pub words_reversed : (xs : List Command) → All (λ c. 0 < length c.words.items) xs → All (λ c. HasWord (seen c)) (reverse xs)
words_reversed xs has = λ k d below. by k d below where
  by : (k : ℕ) (d : Command) → k < length (reverse xs) → HasWord (seen (get_or (reverse xs) k d))
  by k d below =
      let short : k < length xs = subst (λ (m : ℕ). k < m) (length-reverse xs) below in
      subst (λ (c : Command). HasWord (seen c)) (sym (get_or-reverse xs k d short))
      (has_word (get_or xs (length xs - 1 - k) d) (has (length xs - 1 - k) d (omega arith)))

-- A list of no length is empty.
pub none_in : {X : Type 0} (xs : List X) → (length xs == 0) ≡ true → xs ≡ []
none_in xs is = nil_from_length xs (eqb→eq (length xs) 0 (subst T (sym is) tt))

-- The same of a list that is kept.
pub none_left : {X Z : Type 0} (v : Vec X Z) → (vec_len v == 0) ≡ true → v.items ≡ []
none_left v is = nil_from_length v.items (sym v.ok.0 ∙ eqb→eq v.len 0 (subst T (sym is) tt))

-- The same of one that is read from its end.
pub none_reversed : {X Z : Type 0} (v : Vec X Z) → (vec_len v == 0) ≡ true → reverse v.items ≡ []
none_reversed v is = ap reverse (none_left v is)
