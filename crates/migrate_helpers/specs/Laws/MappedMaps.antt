-- Maps with each value mapped.
use Rattle.std.proofs.Common.{◌≡◌, ℕ, List, [], ◌∷◌, Option, Some, None, Bool, true, false, cond, fold, IsSome, T, option_map, refl, sym, ◌∙◌, ap, subst}
use Rattle.std.specs.declared.cmp.Ordering.{Ordering}
use Rattle.std.specs.declared.cmp.Ordering.TheVariants.{Less, Equal, Greater}
use Rattle.std.specs.Option.{option_or}
use Rattle.std.specs.Ordering.{eq_by_cmp, is_eq, is_lt}
use Rattle.std.specs.Cmp.{IsTotalOrder}
use Rattle.std.specs.FinMap.{FinMap, IsAntisymmetric, empty, entries, entries_sorted, find, get, get-empty, get-entries, get-insert, insert, is_sorted}
use Rattle.std.specs.FinMap.Entries.{below_all}
use Rattle.std.proofs.lemmas.Bool.{and_parts, cond-false}
use Rattle.key_names.specs.Order.{key_cmp, key_total, key_cmp-IsAntisymmetric}
use Rattle.settings_maps.proofs.NestedMaps.{tied_by}
use Rattle.settings_tree.specs.Rule.{IsPrefixFree}
use Rattle.migrate_helpers.specs.Entries.{mapped}

less : (r : Ordering) → is_lt r ≡ true → r ≡ Less
less Less lt = refl
less Equal lt = absurd (cc lt)
less Greater lt = absurd (cc lt)

of_T : (b : Bool) → T b → b ≡ true
of_T true holds = refl
of_T false holds = absurd holds

or_none : {A : Type 0} (o : Option A) → option_or o None ≡ o
or_none None = refl
or_none (Some x) = refl

-- The entries of a map are in order.
pub in_order : {K X : Type 0} {R : K → K → Ordering} (m : FinMap R X) → is_sorted R (entries m) ≡ true
in_order m = of_T _ (entries_sorted m)

-- Nothing is at a key that is below all others.
pub none_below : {K X : Type 0} (R : K → K → Ordering) (es : List (K × X)) (k : K) → below_all R k es ≡ true → find R k es ≡ None
none_below R [] k below = refl
none_below R (e ∷ es) k below =
    let both = and_parts (is_lt (R k e.0)) (below_all R k es) below in
    cond-false _ _ _ (ap is_eq (less (R k e.0) both.0)) ∙ none_below R es k both.1

-- With the entries of a list mapped and put.
abbrev pub with_mapped : {K X Y : Type 0} {R : K → K → Ordering} → (K → X → Y) → FinMap R Y → List (K × X) → FinMap R Y
with_mapped f n es = fold (λ n e. insert n e.0 (f e.0 e.1)) n es

-- What is found after the first entry is found.
pub found_behind : {K X : Type 0} {R : K → K → Ordering} → IsAntisymmetric R → (e : K × X) (es : List (K × X)) (k : K) (x : X) → below_all R e.0 es ≡ true
    → find R k es ≡ Some x → find R k (e ∷ es) ≡ Some x
found_behind {K = K} {R = R} same e es k x below has = by (eq_by_cmp R k e.0) refl where
  by : (b : Bool) → eq_by_cmp R k e.0 ≡ b → cond b (Some e.1) (find R k es) ≡ Some x
  by true is = absurd (cc (has, ap (λ (q : K). find R q es) (same k e.0 (tied_by _ is)) ∙ none_below R es e.0 below))
  by false is = has

module _ {K X Y : Type 0} {R : K → K → Ordering} (o : IsTotalOrder R) (same : IsAntisymmetric R) (f : K → X → Y) where
  get-with_mapped : (es : List (K × X)) (n : FinMap R Y) (q : K) → is_sorted R es ≡ true
      → get (with_mapped f n es) q ≡ option_or (option_map (f q) (find R q es)) (get n q)
  get-with_mapped [] n q rises = refl
  get-with_mapped (e ∷ es) n q rises = get-with_mapped es (insert n e.0 (f e.0 e.1)) q sorted.1
      ∙ ap (option_or (option_map (f q) (find R q es))) (get-insert o n e.0 (f e.0 e.1) q) ∙ by (eq_by_cmp R q e.0) refl where
        sorted : (below_all R e.0 es ≡ true) × (is_sorted R es ≡ true)
        sorted = and_parts (below_all R e.0 es) (is_sorted R es) rises

        by : (b : Bool) → eq_by_cmp R q e.0 ≡ b
            → option_or (option_map (f q) (find R q es)) (cond b (Some (f e.0 e.1)) (get n q)) ≡ option_or (option_map (f q) (cond b (Some e.1) (find R q es)))
            (get n q)
        by true is =
            let one : q ≡ e.0 = same q e.0 (tied_by _ is) in
            ap (λ z. option_or (option_map (f q) z) (Some (f e.0 e.1))) (ap (λ (k : K). find R k es) one ∙ none_below R es e.0 sorted.0)
            ∙ ap (λ (k : K). Some (f k e.1)) (sym one)
        by false is = refl

  -- What is at each key.
  pub get-mapped : (m : FinMap R X) (q : K) → get (mapped f m) q ≡ option_map (f q) (get m q)
  get-mapped m q = get-with_mapped (entries m) empty q (in_order m) ∙ ap (option_or (option_map (f q) (find R q (entries m)))) (get-empty R q) ∙ or_none _
      ∙ ap (option_map (f q)) (sym (get-entries m q))

module _ {K X Y : Type 0} {R : K → K → Ordering} (f : K → X → Y) where
  -- At first all entries are to be mapped.
  pub mapped_start : (m : FinMap R X) (left : List (K × X)) (n : FinMap R Y) → left ≡ entries m → n ≡ empty → with_mapped f n left ≡ mapped f m
  mapped_start m left n all none = ap (λ (w : FinMap R Y). with_mapped f w left) none ∙ ap (with_mapped f empty) all

  -- Each step maps the next entry.
  pub mapped_next : (left rest : List (K × X)) (k : K) (x : X) (y : Y) (n now whole : FinMap R Y) → left ≡ (k, x) ∷ rest
      → with_mapped f n left ≡ whole → now ≡ insert n k y → y ≡ f k x → with_mapped f now rest ≡ whole
  mapped_next left rest k x y n now whole next made put is = ap (λ (w : FinMap R Y). with_mapped f w rest) (put ∙ ap (insert n k) is)
      ∙ sym (ap (with_mapped f n) next) ∙ made

  -- At the end all are mapped.
  pub mapped_end : (left : List (K × X)) (n whole : FinMap R Y) → left ≡ [] → with_mapped f n left ≡ whole → n ≡ whole
  mapped_end left n whole none made = sym (ap (with_mapped f n) none) ∙ made

some_before : {X Y : Type 0} (f : X → Y) (z : Option X) → IsSome (option_map f z) → IsSome z
some_before f None has = absurd (cc has)
some_before f (Some x) has = refl

-- The mapped map has the same keys, so it keeps the prefix rule as well.
pub mapped_free : {X Y : Type 0} (f : List (List ℕ) → X → Y) (m : FinMap key_cmp X) → IsPrefixFree m → IsPrefixFree (mapped f m)
mapped_free f m free = record { alone = λ k q has other begins. free.alone k q (there k has) (there q other) begins } where
  there : (k : List (List ℕ)) → IsSome (get (mapped f m) k) → IsSome (get m k)
  there k has = some_before (f k) (get m k) (subst IsSome (get-mapped key_total key_cmp-IsAntisymmetric f m k) has)
