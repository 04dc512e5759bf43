-- Which values are below names.
use Rattle.std.proofs.Common.{◌≡◌, ℕ, List, [], ◌∷◌, Option, Some, None, is_some, Bool, true, false, T, cond, ◌&&◌, ◌||◌}
use Rattle.std.proofs.Common.{filter, fold, inl, inr, refl, sym, ◌∙◌, ap}
use Rattle.std.specs.List.{list_any}
use Rattle.std.specs.Ordering.{eq_by_cmp}
use Rattle.std.specs.FinMap.{empty, entries, entries_sorted, entries-from_sorted, from_sorted, get, get-empty, get-entries, get-from_sorted}
use Rattle.std.specs.FinMap.{get-insert, insert, is_sorted, same_map}
use Rattle.std.specs.FinMap.Entries.{find, find-where_key, is_sorted-where_key}
use Rattle.std.proofs.lemmas.Bool.{and_parts}
use Rattle.key_names.specs.Key.{is_prefix}
use Rattle.key_names.specs.Order.{bytes_cmp, key_cmp, key_total, key_cmp-IsAntisymmetric}
use Rattle.json_trees.specs.declared.scalar.Scalar.{Scalar}
use Rattle.settings_tree.specs.Walks.{entries_below, IsLeastBelow, HasNoneBelow}
use Rattle.settings_machine.specs.World.{Key, Among}
use Rattle.settings_machine.specs.Opening.{Values}
use Rattle.settings_machine.specs.Answers.{is_below_one}
use Rattle.settings_machine.proofs.Elements.{key_tied, key_itself, among_filter, entry_among, entry_stands}
use Rattle.api_core.specs.Gathered.{has_below, with_pairs, all_named}

-- ---- whether a value is below a key

module _ {E : Type 0} (p : E → Bool) where
  any_among : (es : List E) (e : E) → Among es e → p e ≡ true → list_any p es ≡ true
  any_among [] e among passes = absurd among
  any_among (x ∷ es) e (inl same) passes = ap (λ b. b || list_any p es) (ap p (sym same) ∙ passes)
  any_among (x ∷ es) e (inr later) passes = by (p x) (any_among es e later passes) where
    by : (b : Bool) → list_any p es ≡ true → (b || list_any p es) ≡ true
    by true rest = refl
    by false rest = rest

  any_none : (es : List E) → ((e : E) → Among es e → p e ≡ false) → list_any p es ≡ false
  any_none [] none = refl
  any_none (x ∷ es) none = ap (λ b. b || list_any p es) (none x (inl refl)) ∙ any_none es (λ e among. none e (inr among))

module _ (values : Values) (key : Key) where
  -- One that is there is found,
  pub below_some : (k : Key) (x : Scalar) → IsLeastBelow values key None k x → has_below values key ≡ true
  below_some k x least = any_among (λ e. is_prefix key e.0) (entries values) (k, x) (entry_among key_cmp-IsAntisymmetric values k x least.stands) least.begins

  -- and else none is.
  pub below_none : HasNoneBelow values key None → has_below values key ≡ false
  below_none none = any_none (λ e. is_prefix key e.0) (entries values) (λ e among. by e among (is_prefix key e.0) refl) where
    by : (e : Key × Scalar) → Among (entries values) e → (b : Bool) → is_prefix key e.0 ≡ b → is_prefix key e.0 ≡ false
    by e among false begins = begins
    by e among true begins = absurd (cc (none.none e.0 tt begins, entry_stands key_cmp-IsAntisymmetric values e.0 e.1 (key_itself e.0) among))

-- ---- what is below names

module _ (values : Values) (q : Key) where
  -- Pairs of the values that are put are there.
  get-with_pairs : (m : Values) (es : List (Key × Scalar)) → ((e : Key × Scalar) → Among es e → get values e.0 ≡ Some e.1)
      → get (with_pairs m es) q ≡ cond (is_some (find key_cmp q es)) (get values q) (get m q)
  get-with_pairs m [] agree = refl
  get-with_pairs m (e ∷ es) agree = get-with_pairs (insert m e.0 e.1) es (λ f among. agree f (inr among))
      ∙ ap (λ (o : Option Scalar). cond (is_some (find key_cmp q es)) (get values q) o) (get-insert key_total m e.0 e.1 q)
      ∙ by (eq_by_cmp key_cmp q e.0) refl (find key_cmp q es) where
        by : (b : Bool) → eq_by_cmp key_cmp q e.0 ≡ b → (o : Option Scalar) → cond (is_some o) (get values q) (cond b (Some e.1) (get m q))
            ≡ cond (is_some (cond b (Some e.1) o)) (get values q) (get m q)
        by true tied (Some x) = refl
        by true tied None = sym (agree e (inl refl)) ∙ ap (get values) (sym (key_tied q e.0 tied))
        by false tied o = refl

  get-below : (m : Values) (prefix : Key) → get (with_pairs m (entries_below values prefix)) q ≡ cond (is_prefix prefix q && is_some (get values q))
      (get values q) (get m q)
  get-below m prefix = get-with_pairs m (entries_below values prefix)
      (λ e among. entry_stands key_cmp-IsAntisymmetric values e.0 e.1 (key_itself e.0) (among_filter (λ e. is_prefix prefix e.0) (entries values) e among).0)
      ∙ ap (λ (o : Option Scalar). cond (is_some o) (get values q) (get m q))
      (find-where_key key_cmp (is_prefix prefix) q (λ x tie. ap (is_prefix prefix) (sym (key_cmp-IsAntisymmetric q x tie))) (entries values)
      ∙ ap (λ (o : Option Scalar). cond (is_prefix prefix q) o None) (sym (get-entries values q))) ∙ by (is_prefix prefix q) where
        by : (b : Bool) → cond (is_some (cond b (get values q) None)) (get values q) (get m q) ≡ cond (b && is_some (get values q)) (get values q) (get m q)
        by true = refl
        by false = refl

  module _ (first : List ℕ) where
    get-named : (m : Values) (names : List (List ℕ)) → get (fold (λ n name. with_pairs n (entries_below values (first ∷ name ∷ []))) m names) q
        ≡ cond (is_below_one first names q && is_some (get values q)) (get values q) (get m q)
    get-named m [] = refl
    get-named m (name ∷ names) = get-named (with_pairs m (entries_below values (first ∷ name ∷ []))) names
        ∙ ap (λ (o : Option Scalar). cond (is_below_one first names q && is_some (get values q)) (get values q) o) (get-below m (first ∷ name ∷ []))
        ∙ by (is_prefix (first ∷ name ∷ []) q) (is_below_one first names q) (is_some (get values q)) where
          by : (a b c : Bool) → cond (b && c) (get values q) (cond (a && c) (get values q) (get m q)) ≡ cond ((a || b) && c) (get values q) (get m q)
          by true true true = refl
          by true true false = refl
          by true false true = refl
          by true false false = refl
          by false true true = refl
          by false true false = refl
          by false false true = refl
          by false false false = refl

-- What begins with two segments begins with the first.
first_begins : (first name : List ℕ) (k : Key) → is_prefix (first ∷ name ∷ []) k ≡ true → is_prefix (first ∷ []) k ≡ true
first_begins first name [] begins = absurd (cc begins)
first_begins first name (x ∷ k) begins = ap (λ b. b && true) (and_parts (eq_by_cmp bytes_cmp first x) _ begins).0

one_begins : (first : List ℕ) (names : List (List ℕ)) (k : Key) → is_below_one first names k ≡ true → is_prefix (first ∷ []) k ≡ true
one_begins first [] k below = absurd (cc below)
one_begins first (name ∷ names) k below = by (is_prefix (first ∷ name ∷ []) k) refl below (one_begins first names k) where
  by : (b : Bool) → is_prefix (first ∷ name ∷ []) k ≡ b → (b || is_below_one first names k) ≡ true
      → (is_below_one first names k ≡ true → is_prefix (first ∷ []) k ≡ true) → is_prefix (first ∷ []) k ≡ true
  by true begins below rest = first_begins first name k begins
  by false begins below rest = rest below

same_both : (c : Bool) (o : Option Scalar) → o ≡ cond c o o
same_both true o = refl
same_both false o = refl

module _ (values : Values) (first : List ℕ) (names : List (List ℕ)) where
  -- What is below one of the names.
  abbrev named : List (Key × Scalar)
  named = filter (λ e. is_below_one first names e.0) (entries_below values (first ∷ []))

  named_rise : T (is_sorted key_cmp named)
  named_rise = is_sorted-where_key key_cmp (is_below_one first names) (entries_below values (first ∷ []))
      (is_sorted-where_key key_cmp (is_prefix (first ∷ [])) (entries values) (entries_sorted values))

  get-those : (q : Key) → get (from_sorted {R = key_cmp} named) q ≡ cond (is_below_one first names q) (cond (is_prefix (first ∷ []) q) (get values q) None) None
  get-those q = get-from_sorted key_cmp named q named_rise
      ∙ find-where_key key_cmp (is_below_one first names) q (λ x tie. ap (is_below_one first names) (sym (key_cmp-IsAntisymmetric q x tie)))
      (entries_below values (first ∷ []))
      ∙ ap (λ (o : Option Scalar). cond (is_below_one first names q) o None)
      (find-where_key key_cmp (is_prefix (first ∷ [])) q (λ x tie. ap (is_prefix (first ∷ [])) (sym (key_cmp-IsAntisymmetric q x tie))) (entries values)
      ∙ ap (λ (o : Option Scalar). cond (is_prefix (first ∷ []) q) o None) (sym (get-entries values q)))

  -- It is gathered name by name.
  pub named_entries : entries (all_named values first names) ≡ named
  named_entries = ap entries (same_map key_total key_cmp-IsAntisymmetric (all_named values first names) (from_sorted {R = key_cmp} named)
      (λ q. get-named values q first empty names ∙ ap (λ (o : Option Scalar). cond (is_below_one first names q && is_some (get values q)) (get values q) o)
      (get-empty {X = Scalar} key_cmp q) ∙ by q (is_below_one first names q) (get values q) refl ∙ sym (get-those q)))
      ∙ entries-from_sorted key_cmp named named_rise
    where
      by : (q : Key) (b : Bool) (o : Option Scalar) → is_below_one first names q ≡ b
          → cond (b && is_some o) o None ≡ cond b (cond (is_prefix (first ∷ []) q) o None) None
      by q true None below = same_both (is_prefix (first ∷ []) q) None
      by q true (Some x) below = ap (λ c. cond c (Some x) None) (sym (one_begins first names q below))
      by q false None below = refl
      by q false (Some x) below = refl
