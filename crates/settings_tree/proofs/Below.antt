-- The entries below a prefix are together, from the prefix on.
use Rattle.std.proofs.Common.{arith, ◌≡◌, ℕ, List, Option, Some, None, true, false, ◌⊎◌, inl, inr, refl, sym, ◌∙◌, ap, IsSome, IsTrue}
use Rattle.std.specs.declared.cmp.Ordering.{Ordering}
use Rattle.std.specs.declared.cmp.Ordering.TheVariants.{Less, Equal, Greater}
use Rattle.std.specs.Ordering.{is_gt, is_lt, ordering_reverse}
use Rattle.std.specs.BTreeMap.Range.{IsLeBy}
use Rattle.std.specs.FinMap.{FinMap, get}
use Rattle.std.proofs.lemmas.Bool.{both_ways}
use Rattle.std.proofs.lemmas.Cmp.{tied_itself}
use Rattle.key_names.specs.Order.{key_cmp, key_total, key_cmp-IsAntisymmetric}
use Rattle.key_names.specs.Key.{is_prefix}
use Rattle.settings_maps.specs.Maps.{IsLeastAfter, HasNoneAfter, IsLeastFrom, HasNoneFrom}
use Rattle.settings_tree.specs.Walks.{IsLeastBelow, HasNoneBelow, HasNoneUntil}
use Rattle.settings_tree.proofs.KeyOrder.{between, prefix_order}

pub not_gt : (r : Ordering) → r ≡ Less → is_gt r ≡ false
not_gt Less e = refl
not_gt Equal e = refl
not_gt Greater e = grind arith

pub greater : (r : Ordering) → is_gt r ≡ true → r ≡ Greater
greater Less gt = absurd (grind arith)
greater Equal gt = absurd (grind arith)
greater Greater gt = refl

-- A prefix is not above what begins with it.
pub prefix_le : (p q : List (List ℕ)) → IsTrue (is_prefix p q) → IsLeBy key_cmp p q
prefix_le p q begins = by (prefix_order p q begins) where
  by : (p ≡ q) ⊎ (key_cmp p q ≡ Less) → is_gt (key_cmp p q) ≡ false
  by (inl e) = ap is_gt (ap (key_cmp p) (sym e) ∙ tied_itself key_total p)
  by (inr l) = not_gt _ l

le_lt : (a b c : List (List ℕ)) → IsLeBy key_cmp a b → key_cmp b c ≡ Less → key_cmp a c ≡ Less
le_lt a b c low less = by (key_cmp a b) refl where
  by : (r : Ordering) → key_cmp a b ≡ r → key_cmp a c ≡ Less
  by Less is = key_total.trans a b c is less
  by Equal is = key_total.congr a b c is ∙ less
  by Greater is = absurd (both_ways _ low (ap is_gt is))

pub lt_le : (a b c : List (List ℕ)) → key_cmp a b ≡ Less → IsLeBy key_cmp b c → key_cmp a c ≡ Less
lt_le a b c less low = by (key_cmp b c) refl where
  by : (r : Ordering) → key_cmp b c ≡ r → key_cmp a c ≡ Less
  by Less is = key_total.trans a b c less is
  by Equal is = ap (key_cmp a) (sym (key_cmp-IsAntisymmetric b c is)) ∙ less
  by Greater is = absurd (both_ways _ low (ap is_gt is))

pub missing : {X : Type 0} (o : Option X) → (IsSome o → ⊥) → o ≡ None
missing None not = refl
missing (Some x) not = absurd (not refl)

module _ {X : Type 0} (m : FinMap key_cmp X) (p k : List (List ℕ)) (x : X) where
  -- From the prefix on.
  pub first_least : IsLeastFrom m p k x → is_prefix p k ≡ true → IsLeastBelow m p None k x
  first_least next begins = record { stands = next.stands; past = tt; begins = begins; least = λ q past longer has. next.least q (prefix_le p q longer) has }

  pub first_none : IsLeastFrom m p k x → is_prefix p k ≡ false → HasNoneBelow m p None
  first_none next ends = record {
    none = λ q past longer. missing (get m q)
        (λ has. both_ways (is_prefix p k) ends (between p k q longer next.from (next.least q (prefix_le p q longer) has)));
  }

  -- Above a key that is not below the prefix.
  pub later_least : (a : List (List ℕ)) → IsLeastAfter m (Some a) k x → is_prefix p k ≡ true → IsLeastBelow m p (Some a) k x
  later_least a next begins = record { stands = next.stands; past = next.past; begins = begins; least = λ q past longer has. next.least q past has }

  pub later_none : (a : List (List ℕ)) → IsLeBy key_cmp p a → IsLeastAfter m (Some a) k x → is_prefix p k ≡ false → HasNoneBelow m p (Some a)
  later_none a low next ends = record {
    none = λ q past longer. missing (get m q)
        (λ has. both_ways (is_prefix p k) ends (between p k q longer (not_gt _ (le_lt p a k low next.past)) (next.least q past has)));
  }

  -- The first below a prefix is past each key below the prefix.
  pub first_past : (a : List (List ℕ)) → key_cmp p a ≡ Greater → IsLeastBelow m p None k x → IsLeastBelow m p (Some a) k x
  first_past a high first = record {
    stands = first.stands;
    past = lt_le a p k (key_total.antisymm a p ∙ ap ordering_reverse high) (prefix_le p k first.begins);
    begins = first.begins;
    least = λ q past longer has. first.least q tt longer has;
  }

module _ {X : Type 0} (m : FinMap key_cmp X) (p : List (List ℕ)) where
  pub none_from_prefix : HasNoneFrom m p → HasNoneBelow m p None
  none_from_prefix end = record { none = λ q past longer. end.none q (prefix_le p q longer) }

  pub none_later : (a : List (List ℕ)) → HasNoneAfter m (Some a) → HasNoneBelow m p (Some a)
  none_later a end = record { none = λ q past longer. end.none q past }

module _ {X : Type 0} (m : FinMap key_cmp X) (p : List (List ℕ)) (a : Option (List (List ℕ))) (end : List (List ℕ)) where
  -- Where the next one is not below the end, there is none below it.
  pub none_until : (k : List (List ℕ)) (x : X) → IsLeastBelow m p a k x → is_lt (key_cmp k end) ≡ false → HasNoneUntil m p a end
  none_until k x next far = record {
    none = λ q past less begins. missing (get m q) (λ has. both_ways _ far (ap is_lt (le_lt k q end (next.least q past begins has) less)));
  }

  pub no_more_until : HasNoneBelow m p a → HasNoneUntil m p a end
  no_more_until none = record { none = λ q past less begins. none.none q past begins }

pub ruleset below_prefix = (first_least, first_none, later_least, later_none, none_from_prefix, none_later)
