-- The first key that has another name below a path has the least name past the names before.
use Rattle.std.proofs.Common.{◌≡◌, ℕ, List, length, true, Option, Some, None, IsSome, refl, sym, ◌∙◌, subst}
use Rattle.std.specs.Prelude.{slice_get}
use Rattle.std.specs.FinMap.{FinMap, get}
use Rattle.key_names.specs.Order.{bytes_cmp, key_cmp}
use Rattle.key_names.specs.Key.{is_prefix}
use Rattle.settings_maps.specs.Maps.{IsPast, HasNoneAfter}
use Rattle.settings_tree.specs.Walks.{IsLeastBelow, HasNoneBelow}
use Rattle.template_eval.specs.Place.{Path}
use Rattle.template_eval.specs.Children.{name_below, names_below}
use Rattle.template_eval.specs.Steps.{IsNextChild, name_at}
use Rattle.template_eval.proofs.NameOrder.{key_later, name_later, name_le, name_below-begins, name_there, begins-name_below}
use Rattle.template_eval.proofs.NameSets.{key_of_name, name_of_key}

-- What is not there is missing.
pub nothing : {X : Type 0} (o : Option X) → (IsSome o → ⊥) → o ≡ None
nothing None never = refl
nothing (Some x) never = absurd (never refl)

-- What is missing is not there.
pub none_there : {X : Type 0} (o : Option X) → o ≡ None → IsSome o → ⊥
none_there o none has = absurd (cc (none, has))

module _ {X : Type 0} (values : FinMap key_cmp X) (p after last : Path) (begins : is_prefix p after ≡ true) (longer : is_prefix p last ≡ true)
    (same : slice_get after (length p) ≡ slice_get last (length p)) where
  same_name : name_below p last ≡ name_below p after
  same_name = name_below-begins p last longer ∙ sym same ∙ sym (name_below-begins p after begins)

  -- A key by a later name is past the last.
  past_last : (k : Path) (q : List ℕ) → name_below p k ≡ Some q → IsPast bytes_cmp (name_below p after) q → IsPast key_cmp (Some last) k
  past_last k q named past = key_later p last k q longer named (subst (λ (o : Option (List ℕ)). IsPast bytes_cmp o q) (sym same_name) past)

  -- The key that is found gives the next child.
  pub next_is : (k : Path) (x : X) → IsLeastBelow values p (Some last) k x → (slice_get after (length p) ≡ slice_get k (length p) → ⊥)
      → IsNextChild values p after k x
  next_is k x next other =
      let later = name_later p last k longer next.begins next.past (λ e. other (same ∙ e)) in
      let named = name_there p k next.begins later.0 in
      record {
        stands = next.stands;
        begins = next.begins;
        longer = later.0;
        next = record {
          stands = name_of_key p values k x (name_at p k) next.stands named;
          past = subst (λ (o : Option (List ℕ)). IsPast bytes_cmp o (name_at p k)) same_name later.1;
          least = λ q past has. let from = key_of_name p values q has in
              name_le p k from.0 (name_at p k) q named from.2 (next.least from.0 (past_last from.0 q from.2 past) (begins-name_below p from.0 q from.2) from.1);
        };
      }

  -- Where no key is found, no child is left.
  pub none_is : HasNoneBelow values p (Some last) → HasNoneAfter (names_below values p) (name_below p after)
  none_is end = record {
    none = λ q past. nothing (get (names_below values p) q)
        (λ has. let from = key_of_name p values q has in none_there (get values from.0)
        (end.none from.0 (past_last from.0 q from.2 past) (begins-name_below p from.0 q from.2)) from.1);
  }
