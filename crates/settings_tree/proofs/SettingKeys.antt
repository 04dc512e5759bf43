-- Keys that begin with `settings`, and which of them may be weak.
use Rattle.std.proofs.Common.{arith, ◌≡◌, ◌<◌, ℕ, List, [], ◌∷◌, length, Bool, true, false, slice_index_or, codes, refl, sym, ◌∙◌, ap, subst}
use Rattle.std.specs.List.Sorted.{IsStrictlySortedBy}
use Rattle.std.specs.Ordering.{eq_by_cmp, is_eq}
use Rattle.std.specs.Str.{bytes_eq}
use Rattle.std.proofs.lemmas.Cmp.{tied_itself}
use Rattle.std.proofs.lemmas.Slice.Eq.{bytes_eq-Decides}
use Rattle.std.proofs.Math.Bool.{and-true}
use Rattle.key_names.specs.Order.{bytes_cmp, bytes_total}
use Rattle.key_names.specs.Key.{is_prefix}
use Rattle.key_names.proofs.Ties.{none_equal}
use Rattle.settings_maps.specs.KeyList.{IsRising}
use Rattle.settings_tree.specs.Content.{settings_key}

-- A key begins with a segment where its first segment is that.
pub begins_with : (segment : List ℕ) (k : List (List ℕ)) (b : Bool) → 0 < length k → b ≡ bytes_eq (slice_index_or k 0 []) segment
    → b ≡ is_prefix (segment ∷ []) k
begins_with segment [] b low is = absurd (omega arith)
begins_with segment (x ∷ xs) b low is = is ∙ by (bytes_eq x segment) refl ∙ sym (and-true (eq_by_cmp bytes_cmp segment x)) where
  by : (b : Bool) → bytes_eq x segment ≡ b → b ≡ eq_by_cmp bytes_cmp segment x
  by true is =
      let one : x ≡ segment = (bytes_eq-Decides x segment).0 is in
      sym (ap (eq_by_cmp bytes_cmp segment) one ∙ ap is_eq (tied_itself bytes_total segment))
  by false is = sym (none_equal segment x (λ same. absurd (cc (is, (bytes_eq-Decides x segment).1 (sym same)))))

-- One key alone rises.
pub one_rises : (k : List (List ℕ)) (keys : List (List (List ℕ))) → keys ≡ k ∷ [] → IsRising keys
unfolding IsStrictlySortedBy
one_rises k keys is = subst IsRising (sym is) (tt, tt)
