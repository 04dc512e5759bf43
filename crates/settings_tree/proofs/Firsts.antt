-- The first key without a value.
use Rattle.std.proofs.Common.{◌≡◌, ℕ, suc, ◌+◌, ◌<◌, ◌≤◌, List, [], ◌∷◌, ◌++◌, length, take, drop, None, get_or, is_some, sym, ◌∙◌, ap, subst}
use Rattle.std.specs.List.{All}
use Rattle.std.proofs.Math.Seq.{split_at}
use Rattle.std.proofs.lemmas.List.{take_more, take_all}
use Rattle.std.proofs.lemmas.List.Elements.{All-push}
use Rattle.json_trees.specs.declared.scalar.Scalar.{Scalar}
use Rattle.settings_tree.specs.Walks.{IsLeastBelow, HasNoneBelow}
use Rattle.settings_tree.specs.Below.{Values, HasBelow, IsFirstWithout}

abbrev Key : Type 0
Key = List (List ℕ)

module _ (values : Values) (keys : List (List (List ℕ))) where
  -- There is some value below each of the keys so far, and of this one too.
  pub one_more : (i : ℕ) (key k : List (List ℕ)) (value : Scalar) → i < length keys → key ≡ get_or keys i key → All (HasBelow values) (take i keys)
      → IsLeastBelow values key None k value → All (HasBelow values) (take (i + 1) keys)
  one_more i key k value within read before least =
      subst (All (HasBelow values)) (sym (take_more keys i key within ∙ ap (λ (z : Key). take i keys ++ z ∷ []) (sym read)))
      (All-push (HasBelow values) (take i keys) key before (record { key = k; begins = least.begins; there = ap is_some least.stands }))

  -- There is none below this one.
  pub first : (i : ℕ) (key : List (List ℕ)) → i < length keys → key ≡ get_or keys i key → All (HasBelow values) (take i keys) → HasNoneBelow values key None
      → IsFirstWithout values keys key
  first i key within read before none = record {
    before = take i keys;
    after = drop (suc i) keys;
    among = split_at keys i key within ∙ ap (λ (z : Key). take i keys ++ z ∷ drop (suc i) keys) (sym read);
    others = before;
    none = none;
  }

  -- At the end there is some value below each.
  pub everywhere : (i : ℕ) → length keys ≤ i → All (HasBelow values) (take i keys) → All (HasBelow values) keys
  everywhere i through before = subst (All (HasBelow values)) (take_all i keys through) before
