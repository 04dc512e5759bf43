-- One byte more of the search for the line that ends the front.
use Rattle.std.proofs.Common.{◌≡◌, ℕ, ◌+◌, ◌<◌, ◌≤◌, Bool, true, false, List, ◌∷◌, length}
use Rattle.std.proofs.Common.{drop, take, get_or, Option, Some, None, refl, sym, ap, ◌∙◌, arith, if◌then◌else◌}
use Rattle.std.specs.Prelude.{◌&&◌, ◌==◌, is_some, min}
use Rattle.std.specs.Str.{IsUtf8, is_utf8}
use Rattle.std.proofs.lemmas.List.{drop_all}
use Rattle.std.proofs.lemmas.Str.{IsUtf8-from_is_utf8, is_utf8-from_IsUtf8}
use Rattle.toml.specs.Parse.{parse_document}
use Rattle.toml.specs.Data.{Members}
use Rattle.template_reader.specs.Bytes.{more}
use Rattle.template_reader.specs.Front.{is_fence, fence_in, front_length, is_toml, behind_front, body_start}
use Rattle.template_reader.proofs.Scanning.{cons_of, more-more}

-- The search at a byte finds the line here, or goes on after it.
fence-cons : (starts : Bool) (b : ℕ) (bs : List ℕ) (t : Bool) → (starts && is_fence (b ∷ bs)) ≡ t
    → fence_in starts (b ∷ bs) ≡ (if t then Some 0 else more 1 (fence_in (b == 10) bs))
unfolding fence_in
fence-cons starts b bs t e = ap (λ (t : Bool). if t then Some 0 else more 1 (fence_in (b == 10) bs)) e

-- What is found so far: the rest decides.
pub record Looks (source : List ℕ) (i : ℕ) (starts : Bool) : Type 0 where
  pub rest : front_length source ≡ more i (fence_in starts (drop i source))

-- No bytes more change nothing.
more-none : (o : Option ℕ) → o ≡ more 0 o
more-none None = refl
more-none (Some n) = ap (λ (n : ℕ). Some n) (omega arith)

-- At the first byte no line was passed, and a line begins.
pub looks-first : (source : List ℕ) → Looks source 0 true
unfolding front_length
looks-first source = record { rest = more-none (fence_in true source) }

-- What the search so far leaves is a search at this place.
looks-at : (source : List ℕ) (i : ℕ) (starts t : Bool) → Looks source i starts → i < length source → (starts && is_fence (drop i source)) ≡ t
    → front_length source ≡ more i (if t then Some 0 else more 1 (fence_in (get_or source i 0 == 10) (drop (i + 1) source)))
looks-at source i starts t l h e =
    let one = cons_of source i h in
    l.rest ∙ ap (more i) (ap (fence_in starts) one ∙ fence-cons starts (get_or source i 0) (drop (i + 1) source) t
    (ap (λ (l : List ℕ). starts && is_fence l) (sym one) ∙ e))

-- A line `+++` at this place is the first one.
pub looks-found : (source : List ℕ) (i : ℕ) (starts : Bool) → Looks source i starts → i < length source → (starts && is_fence (drop i source)) ≡ true
    → Some i ≡ front_length source
looks-found source i starts l h e = sym (looks-at source i starts true l h e ∙ ap (λ (n : ℕ). Some n) (omega arith))

-- Where none begins here, the search goes on at the next byte.
pub looks-more : (source : List ℕ) (i : ℕ) (starts next : Bool) → Looks source i starts → i < length source → (starts && is_fence (drop i source)) ≡ false
    → next ≡ (get_or source i 0 == 10)
    → Looks source (i + 1) next
looks-more source i starts next l h e n =
    record {
      rest = looks-at source i starts false l h e ∙ more-more i 1 (fence_in (get_or source i 0 == 10) (drop (i + 1) source))
          ∙ ap (λ s. more (i + 1) (fence_in s (drop (i + 1) source))) (sym n);
    }

-- At the end of the source there is none.
pub looks-none : (source : List ℕ) (i : ℕ) (starts : Bool) → Looks source i starts → length source ≤ i → None ≡ front_length source
unfolding fence_in
looks-none source i starts l h = sym (l.rest ∙ ap (λ s. more i (fence_in starts s)) (drop_all i source h))

-- The bytes are TOML.
pub toml-text : (b : List ℕ) (m : Members) → IsUtf8 b → parse_document b ≡ Some m → true ≡ is_toml b
unfolding is_toml
toml-text b m u e = sym (ap (λ (t : Bool). t && is_some (parse_document b)) (is_utf8-from_IsUtf8 b u) ∙ ap is_some e)

-- Bytes that are no UTF-8, or that have no parse, are no TOML.
pub toml-none : (b : List ℕ) → (IsUtf8 b → parse_document b ≡ None) → false ≡ is_toml b
unfolding is_toml
toml-none b h = by (is_utf8 b) refl
  where
    by : (t : Bool) → is_utf8 b ≡ t → false ≡ (is_utf8 b && is_some (parse_document b))
    by true e = sym (ap (λ (t : Bool). t && is_some (parse_document b)) e ∙ ap is_some (h (IsUtf8-from_is_utf8 b e)))
    by false e = sym (ap (λ (t : Bool). t && is_some (parse_document b)) e)

-- Where the body begins.
pub starts-first : (source : List ℕ) (o : Option ℕ) → o ≡ front_length source → o ≡ None → body_start source ≡ Some 0
unfolding body_start
starts-first source o is none = ap (behind_front source) (sym is ∙ none)

-- After a first line `+++` the body begins exactly where the bytes before the line are TOML.
pub starts-behind : (source front : List ℕ) (n : ℕ) (t : Bool) → Some n ≡ front_length source → front ≡ take n source → t ≡ is_toml front
    → body_start source ≡ (if t then Some (min (n + 4) (length source)) else None)
unfolding body_start
starts-behind source front n t is front_is t_is =
    ap (behind_front source) (sym is) ∙ ap (λ (t : Bool). if t then Some (min (n + 4) (length source)) else None) (sym (t_is ∙ ap is_toml front_is))
