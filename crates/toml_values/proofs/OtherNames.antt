-- The names of a table that are none of some.
use Rattle.std.proofs.Common.{◌≡◌, ◌||◌, ℕ, List, [], ◌∷◌, map, Bor, Bool, true, false, Some, if◌then◌else◌, refl, sym, ◌∙◌, ap}
use Rattle.std.specs.List.{list_any}
use Rattle.std.specs.Ordering.{eq_by_cmp}
use Rattle.key_names.specs.Order.{bytes_cmp}
use Rattle.toml.specs.Data.{Data, Members, member}
use Rattle.toml_values.specs.Document.{other_name}

-- A name among borrowed names.
pub any_mapped : (p : List ℕ → Bool) (names : List (Bor (List ℕ))) → list_any (λ n. p n.now) names ≡ list_any p (map (λ n. n.now) names)
any_mapped p [] = refl
any_mapped p (n ∷ names) = ap (λ b. p n.now || b) (any_mapped p names)

module _ (names : List (List ℕ)) (document rest left : Members) (name bytes : List ℕ) (d : Data) (so_far : other_name names document ≡ other_name names rest)
    (is : rest ≡ member name d left) (same : bytes ≡ name) where
  next : other_name names document ≡ (if list_any (eq_by_cmp bytes_cmp bytes) names then other_name names left else Some name)
  next = so_far ∙ ap (other_name names) is
      ∙ ap (λ (n : List ℕ). if list_any (eq_by_cmp bytes_cmp n) names then other_name names left else Some name) (sym same)

  -- A name that is another is the first such.
  pub other_found : false ≡ list_any (eq_by_cmp bytes_cmp bytes) names → Some bytes ≡ other_name names document
  other_found other = ap Some same ∙ sym (next ∙ ap (λ b. if b then other_name names left else Some name) (sym other))

  -- One of these is passed.
  pub known_passed : true ≡ list_any (eq_by_cmp bytes_cmp bytes) names → other_name names document ≡ other_name names left
  known_passed known = next ∙ ap (λ b. if b then other_name names left else Some name) (sym known)
