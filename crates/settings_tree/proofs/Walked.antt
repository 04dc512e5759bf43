-- A walk through all values gives those that are asked for.
use Rattle.std.proofs.Common.{arith, ◌≡◌, ◌<◌, ℕ, Bool, true, false, List, [], ◌∷◌, ◌++◌, append_assoc}
use Rattle.std.proofs.Common.{append-nil, Option, Some, None, if◌then◌else◌, filter, length, refl, sym, ◌∙◌, ap, subst}
use Rattle.std.specs.List.{All}
use Rattle.std.specs.Map.{keys_of}
use Rattle.std.proofs.lemmas.List.{map-append}
use Rattle.std.proofs.lemmas.List.Elements.{All-push}
use Rattle.json_trees.specs.Nested.{ShareFirst}
use Rattle.key_names.specs.Order.{key_total, key_cmp-IsAntisymmetric}
use Rattle.json_trees.specs.declared.scalar.Scalar.{Scalar}
use Rattle.settings_maps.specs.Maps.{IsLeastAfter, HasNoneAfter}
use Rattle.settings_tree.specs.Walks.{entries_past}
use Rattle.settings_tree.proofs.Walks.{walk_start, walk_next, walk_end}
use Rattle.settings_tree.specs.Below.{Values, is_below_one, values_below, one_value}

abbrev Key : Type 0
Key = List (List ℕ)

-- So much was given by a walk up to this key.
pub record IsWalked (values : Values) (keys : List (List (List ℕ))) (given : List (List (List ℕ) × Scalar)) (after : Option (List (List ℕ))) : Type 0 where
  pub listed : given ++ filter (λ e. is_below_one keys e.0) (entries_past values after) ≡ values_below values keys
  pub long : All (λ key. 0 < length key) (keys_of given)

module _ (values : Values) (keys : List (List (List ℕ))) where
  abbrev wanted : List (Key × Scalar) → List (Key × Scalar)
  wanted es = filter (λ e. is_below_one keys e.0) es

  -- Before the walk nothing is given yet.
  pub start : (given : List (List (List ℕ) × Scalar)) → given ≡ [] → IsWalked values keys given None
  start given none = record {
    listed = ap (λ (l : List (Key × Scalar)). l ++ wanted (entries_past values None)) none ∙ ap wanted (walk_start key_total key_cmp-IsAntisymmetric values);
    long = subst (λ (l : List (Key × Scalar)). All (λ key. 0 < length key) (keys_of l)) (sym none) (λ i d within. absurd (omega (arith, within)));
  }

  first : (b : Bool) (key : Key) (value : Scalar) (rest : List (Key × Scalar))
      → (if b then (key, value) ∷ rest else rest) ≡ (if b then (key, value) ∷ [] else []) ++ rest
  first true key value rest = refl
  first false key value rest = refl

  still_long : (b : Bool) (given : List (Key × Scalar)) (key : Key) (value : Scalar) → 0 < length key → All (λ key. 0 < length key) (keys_of given)
      → All (λ key. 0 < length key) (keys_of (given ++ (if b then (key, value) ∷ [] else [])))
  still_long true given key value one long = subst (All (λ key. 0 < length key)) (sym (map-append (λ (e : Key × Scalar). e.0) given ((key, value) ∷ [])))
      (All-push (λ key. 0 < length key) (keys_of given) key long one)
  still_long false given key value one long = subst (λ (l : List (Key × Scalar)). All (λ key. 0 < length key) (keys_of l)) (sym (append-nil given)) long

  -- Each step gives the next value, where it is asked for.
  pub next : (given more : List (List (List ℕ) × Scalar)) (after : Option (List (List ℕ))) (key : List (List ℕ)) (value : Scalar)
      → IsLeastAfter values after key value → IsWalked values keys given after
      → more ≡ given ++ one_value keys key value → 0 < length key → IsWalked values keys more (Some key)
  next given more after key value least so_far pushed one =
      let left = ap wanted (walk_next key_total key_cmp-IsAntisymmetric values after key value least)
      ∙ first (is_below_one keys key) key value (wanted (entries_past values (Some key))) in
      record {
        listed = ap (λ (l : List (Key × Scalar)). l ++ wanted (entries_past values (Some key))) pushed ∙ append_assoc given (one_value keys key value) _
            ∙ ap (λ (l : List (Key × Scalar)). given ++ l) (sym left) ∙ so_far.listed;
        long = subst (λ (l : List (Key × Scalar)). All (λ key. 0 < length key) (keys_of l)) (sym pushed)
            (still_long (is_below_one keys key) given key value one so_far.long);
      }

  -- At its end all are given.
  pub end : (given : List (List (List ℕ) × Scalar)) (after : Option (List (List ℕ))) → HasNoneAfter values after → IsWalked values keys given after
      → given ≡ values_below values keys
  end given after none so_far = sym (append-nil given) ∙ ap (λ (l : List (Key × Scalar)). given ++ l)
      (sym (ap wanted (walk_end key_total key_cmp-IsAntisymmetric values after none))) ∙ so_far.listed

  -- And they share no segment too many.
  pub share_none : (given : List (List (List ℕ) × Scalar)) (after : Option (List (List ℕ))) → IsWalked values keys given after → ShareFirst 0 (keys_of given)
  share_none given after so_far = record { longer = so_far.long; alike = λ i j d before within. refl }
