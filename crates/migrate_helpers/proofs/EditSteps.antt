-- What the edits of a map leave, step by step.
use Rattle.std.proofs.Common.{arith, ◌≡◌, ◌<◌, ◌≤◌, ◌+◌, ◌-◌, ℕ, List, [], ◌∷◌, ◌++◌, length, take, get_or, map}
use Rattle.std.proofs.Common.{reverse, Option, Some, None, Bool, true, false, cond, not, fold, IsSome, IsTrue, refl, sym, ◌∙◌, ap}
use Rattle.std.specs.Option.{option_map_or}
use Rattle.std.specs.Ordering.{eq_by_cmp}
use Rattle.std.specs.FinMap.{FinMap, get, get-insert, get-remove, get-retain_keys, insert, len, len-remove, remove, same_map}
use Rattle.std.proofs.lemmas.Bool.{cond-true, eqb-false}
use Rattle.std.proofs.lemmas.List.{map-append, reverse-append, take_all}
use Rattle.std.proofs.lemmas.List.Sums.{fold_more}
use Rattle.key_names.specs.Order.{key_cmp, key_total, key_cmp-IsAntisymmetric}
use Rattle.key_names.specs.Key.{is_prefix}
use Rattle.settings_maps.proofs.NestedMaps.{not_empty, remove-absent, tied_by}
use Rattle.settings_tree.specs.Walks.{HasNoneBelow}
use Rattle.migrate_helpers.specs.Entries.{changed, moved, renamed, without_prefix}
use Rattle.migrate_helpers.specs.Step.{swapped, swapped_back}

-- A fold over the first elements goes on to the next one.
pub folded_more : {A B : Type 0} (f : B → A → B) (a m n : B) (xs : List A) (i : ℕ) (x : A) → m ≡ fold f a (take i xs) → i < length xs → x ≡ get_or xs i x
    → n ≡ f m x → n ≡ fold f a (take (i + 1) xs)
folded_more f a m n xs i x is low item step = step ∙ ap (λ b. f b x) is ∙ ap (f (fold f a (take i xs))) item ∙ sym (fold_more f a xs i x low)

-- And at the end it has gone over all of them.
pub folded_all : {A B : Type 0} (f : B → A → B) (a m : B) (xs : List A) (i : ℕ) → m ≡ fold f a (take i xs) → length xs ≤ i → m ≡ fold f a xs
folded_all f a m xs i is all = is ∙ ap (fold f a) (take_all i xs all)

-- The last pair of a list is the first one back.
back : (before : List (List (List ℕ) × List (List ℕ))) (pair : List (List ℕ) × List (List ℕ))
    → swapped_back (before ++ pair ∷ []) ≡ swapped pair ∷ swapped_back before
back before pair = ap reverse (map-append swapped before (pair ∷ [])) ∙ reverse-append (map swapped before) (swapped pair ∷ [])

module _ {X : Type 0} where
  -- Where nothing is at a key, to remove it changes nothing.
  pub moved_none : (land : List (List ℕ) → X → X) (m n : FinMap key_cmp X) (from to : List (List ℕ)) → get m from ≡ None → n ≡ remove m from
      → n ≡ moved land m (from, to)
  moved_none land m n from to none is = is ∙ remove-absent key_total key_cmp-IsAntisymmetric m from none
      ∙ ap (λ z. option_map_or (λ x. insert (remove m from) to (land to x)) z m) (sym none)

  pub changed_none : (f : X → X) (m n : FinMap key_cmp X) (k : List (List ℕ)) → get m k ≡ None → n ≡ remove m k → n ≡ changed f m k
  changed_none f m n k none is = is ∙ remove-absent key_total key_cmp-IsAntisymmetric m k none ∙ ap (λ z. option_map_or (λ x. insert m k (f x)) z m) (sym none)

  over : (b : Bool) (x y z : Option X) → cond b x (cond b y z) ≡ cond b x z
  over true x y z = refl
  over false x y z = refl

  -- What was removed is put over.
  pub insert-remove : (m : FinMap key_cmp X) (k : List (List ℕ)) (x : X) → insert (remove m k) k x ≡ insert m k x
  insert-remove m k x = same_map key_total key_cmp-IsAntisymmetric _ _
      (λ q. get-insert key_total (remove m k) k x q ∙ ap (cond (eq_by_cmp key_cmp q k) (Some x)) (get-remove key_total m k q)
      ∙ over (eq_by_cmp key_cmp q k) _ _ _ ∙ sym (get-insert key_total m k x q))

  -- What was at a key is put back changed.
  pub changed_some : (f : X → X) (m r n : FinMap key_cmp X) (k : List (List ℕ)) (x y : X) → get m k ≡ Some x → r ≡ remove m k → y ≡ f x → n ≡ insert r k y
      → n ≡ changed f m k
  changed_some f m r n k x y has taken is put = put ∙ ap (λ (w : FinMap key_cmp X). insert w k y) taken ∙ insert-remove m k y ∙ ap (insert m k) is
      ∙ ap (λ z. option_map_or (λ x. insert m k (f x)) z m) (sym has)

  -- What is where the keys below a prefix are left out.
  pub get-without : (m : FinMap key_cmp X) (p q : List (List ℕ)) → get (without_prefix m p) q ≡ cond (not (is_prefix p q)) (get m q) None
  get-without m p q = get-retain_keys m (λ k. not (is_prefix p k)) q (λ x tie. ap (λ (k : List (List ℕ)). not (is_prefix p k))
      (sym (key_cmp-IsAntisymmetric q x tie)))

  -- To remove a key that begins with the prefix leaves the same to be left.
  pub without_taken : (m now w : FinMap key_cmp X) (p k : List (List ℕ)) → IsTrue (is_prefix p k) → without_prefix m p ≡ w → now ≡ remove m k
      → without_prefix now p ≡ w
  without_taken m now w p k begins left taken = ap (λ (n : FinMap key_cmp X). without_prefix n p) taken
      ∙ same_map key_total key_cmp-IsAntisymmetric _ _ (λ q. get-without (remove m k) p q
      ∙ ap (λ z. cond (not (is_prefix p q)) z None) (get-remove key_total m k q) ∙ by q (eq_by_cmp key_cmp q k) refl ∙ sym (get-without m p q)) ∙ left
    where
      by : (q : List (List ℕ)) (b : Bool) → eq_by_cmp key_cmp q k ≡ b → cond (not (is_prefix p q)) (cond b None (get m q)) None ≡ cond (not (is_prefix p q))
          (get m q) None
      by q true is =
          let here : not (is_prefix p q) ≡ false = ap not (ap (is_prefix p) (key_cmp-IsAntisymmetric q k (tied_by _ is)) ∙ begins) in
          ap (λ b. cond b None None) here ∙ sym (ap (λ b. cond b (get m q) None) here)
      by q false is = refl

  -- And the map has a key less.
  pub without_falls : (m now : FinMap key_cmp X) (k : List (List ℕ)) → IsSome (get m k) → now ≡ remove m k → len now < len m
  without_falls m now k has taken = by (get m k) refl has where
    by : (z : Option X) → get m k ≡ z → IsSome z → len now < len m
    by None is some = absurd (cc some)
    by (Some x) is some =
        let less : len now ≡ len m - 1 = ap len taken ∙ len-remove key_total m k ∙ cond-true _ _ _ has in
        let some : len m ≡ 0 → ⊥ = eqb-false (len m) 0 (not_empty m k x is) in
        omega (arith, less, some)

  -- Where no key begins with the prefix, nothing is to be removed.
  pub without_end : (m w : FinMap key_cmp X) (p : List (List ℕ)) → HasNoneBelow m p None → without_prefix m p ≡ w → m ≡ w
  without_end m w p none left = sym (same_map key_total key_cmp-IsAntisymmetric _ _ (λ q. get-without m p q ∙ by q (is_prefix p q) refl)) ∙ left where
    by : (q : List (List ℕ)) (b : Bool) → is_prefix p q ≡ b → cond (not b) (get m q) None ≡ get m q
    by q true is = sym (none.none q tt is)
    by q false is = refl

  -- With the last pair moved back, those before it are left.
  pub back_next : (land : List (List ℕ) → X → X) (m now w : FinMap key_cmp X) (pairs before : List (List (List ℕ) × List (List ℕ)))
      (pair : List (List ℕ) × List (List ℕ)) → pairs ≡ before ++ pair ∷ []
      → renamed land m (swapped_back pairs) ≡ w → now ≡ moved land m (pair.1, pair.0) → renamed land now (swapped_back before) ≡ w
  back_next land m now w pairs before pair last left moves = ap (λ (n : FinMap key_cmp X). renamed land n (swapped_back before)) moves
      ∙ sym (ap (renamed land m) (ap swapped_back last ∙ back before pair)) ∙ left

  pub back_end : (land : List (List ℕ) → X → X) (m w : FinMap key_cmp X) (pairs : List (List (List ℕ) × List (List ℕ))) → length pairs ≡ 0
      → renamed land m (swapped_back pairs) ≡ w → m ≡ w
  back_end land m w [] none left = left
  back_end land m w (pair ∷ pairs) none left = absurd (omega arith)

pub ruleset edit_steps = (moved_none, changed_none)
