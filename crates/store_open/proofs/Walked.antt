-- A walk in order of keys, up to the first key at which something does not hold.
use Rattle.std.proofs.Common.{◌≡◌, List, ◌∷◌, Option, Some, None, IsSome, is_some, Bool, true, false, refl, sym, ◌∙◌, ap, subst}
use Rattle.std.specs.declared.cmp.Ordering.{Ordering}
use Rattle.std.specs.declared.cmp.Ordering.TheVariants.{Less}
use Rattle.std.specs.Ordering.{is_lt, is_gt, ordering_reverse}
use Rattle.std.specs.Cmp.{IsTotalOrder}
use Rattle.std.specs.BTreeMap.Range.{IsLeBy}
use Rattle.std.specs.FinMap.{FinMap, IsAntisymmetric, entries, get}
use Rattle.settings_maps.specs.Maps.{IsPast, IsLeastAfter, HasNoneAfter}
use Rattle.settings_tree.specs.Walks.{is_past, entries_past}
use Rattle.settings_tree.proofs.Walks.{past_fact, walk_start, first_past}
use Rattle.key_names.proofs.Ties.{tied}

-- P holds of each key that is not past the given one.
pub record Fine {K X : Type 0} {R : K → K → Ordering} (P : K → Type 0) (m : FinMap R X) (after : Option K) : Type 0 where
  pub each : (q : K) → IsSome (get m q) → is_past R after q ≡ false → P q

-- P holds of each key before those of the entries that are left.
pub record FineBefore {K X : Type 0} {R : K → K → Ordering} (P : K → Type 0) (m : FinMap R X) (left : List (K × X)) : Type 0 where
  pub after : Option K
  pub rest : left ≡ entries_past m after
  pub fine : Fine P m after

module _ {K X : Type 0} {R : K → K → Ordering} (o : IsTotalOrder R) (same : IsAntisymmetric R) (P : K → Type 0) (m : FinMap R X) where
  pub fine_none : Fine P m None
  fine_none = record { each = λ q has past. absurd (cc past) }

  abbrev Least : Option K → K → Type 0
  Least after k = (q : K) → IsPast R after q → IsSome (get m q) → IsLeBy R k q

  pub fine_next : (after : Option K) (k : K) → Least after k → Fine P m after → P k → Fine P m (Some k)
  fine_next after k least fine here = record { each = λ q has low. by q has low (is_past R after q) refl } where
    by : (q : K) → IsSome (get m q) → is_lt (R k q) ≡ false → (b : Bool) → is_past R after q ≡ b → P q
    by q has low true past = subst P (same k q (tied (R k q) low (least q (past_fact R after q past) has))) here
    by q has low false past = fine.each q has past

  pub fine_all : (after : Option K) → HasNoneAfter m after → Fine P m after → (q : K) → IsSome (get m q) → P q
  fine_all after end fine q has = by (is_past R after q) refl where
    by : (b : Bool) → is_past R after q ≡ b → P q
    by true past = absurd (cc (ap is_some (end.none q (past_fact R after q past)), has))
    by false past = fine.each q has past

  pub fine_before : (after : Option K) (k : K) → Least after k → Fine P m after → (q : K) → IsSome (get m q) → R q k ≡ Less → P q
  fine_before after k least fine q has less = by (is_past R after q) refl where
    above : is_gt (R k q) ≡ true
    above = ap is_gt (o.antisymm k q ∙ ap ordering_reverse less)

    by : (b : Bool) → is_past R after q ≡ b → P q
    by true past = absurd (cc (least q (past_fact R after q past) has, above))
    by false past = fine.each q has past

  -- Where all are left, there is none before.
  pub before_all : (left : List (K × X)) → left ≡ entries m → FineBefore P m left
  before_all left all = record { after = None; rest = all ∙ sym (walk_start o same m); fine = fine_none }

  -- The first of those that are left, and the others.
  pub least_left : (left more : List (K × X)) (k : K) (x : X) → left ≡ (k, x) ∷ more → (before : FineBefore P m left)
      → IsLeastAfter m before.after k x × (more ≡ entries_past m (Some k))
  least_left left more k x is before = first_past o same m before.after k x more (sym before.rest ∙ is)
