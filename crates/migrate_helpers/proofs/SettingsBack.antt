-- The settings of a content are its content, both ways.
use Rattle.std.proofs.Common.{◌≡◌, ◌||◌, ℕ, List, [], ◌∷◌, Option, Some, None, Bool}
use Rattle.std.proofs.Common.{true, false, cond, filter, is_some, option_map, unwrap_or, refl, sym, ◌∙◌, ap}
use Rattle.std.specs.Prelude.{All}
use Rattle.std.specs.List.{AllByRecursion, list_any}
use Rattle.std.specs.Ordering.{eq_by_cmp, is_eq, ordering_reverse}
use Rattle.std.specs.Cmp.{eq_by_cmp_equiv}
use Rattle.std.specs.declared.cmp.Ordering.{Ordering}
use Rattle.std.specs.declared.cmp.Ordering.TheVariants.{Less, Equal, Greater}
use Rattle.std.specs.FinMap.{FinMap, entries, find, get, get-entries, is_sorted, same_map}
use Rattle.std.specs.FinMap.Entries.{below_all}
use Rattle.std.proofs.lemmas.Bool.{and_parts, both_ways, false_from_ne_true, or_from, or_left}
use Rattle.std.proofs.lemmas.Map.Keys.{sorted_head, sorted_tail}
use Rattle.key_names.specs.Order.{bytes_cmp, key_cmp, key_total, key_cmp-IsAntisymmetric}
use Rattle.json_trees.specs.declared.scalar.Scalar.{Scalar}
use Rattle.settings_maps.specs.KeyList.{IsRising}
use Rattle.settings_maps.proofs.NestedMaps.{tied_by}
use Rattle.settings_tree.specs.Content.{Contents, MayBeWeak}
use Rattle.migrate_helpers.specs.declared.setting.Setting.{Setting}
use Rattle.migrate_helpers.specs.Settings.{content_of, setting_of, settings, values_of, weak_keys}
use Rattle.migrate_helpers.specs.Laws.MappedMaps.{get-mapped, in_order, none_below}
use Rattle.migrate_helpers.proofs.WeakRightly.{any_all, weakness_of}
use Rattle.migrate_helpers.proofs.Weakness.{firsts, same_setting, weak_rises}

same_Some : (x y : Setting) → Some x ≡ Some y → x ≡ y
same_Some x y is = ap (λ o. unwrap_or o x) is

-- A key that is not there is not weak.
none_weak : (es : List (List (List ℕ) × Setting)) (q : List (List ℕ)) → find key_cmp q es ≡ None → list_any (eq_by_cmp key_cmp q) (weak_keys es) ≡ false
none_weak [] q none = refl
none_weak (e ∷ es) q none = by (eq_by_cmp key_cmp q e.0) refl e.1.weak none (none_weak es q) where
  by : (b : Bool) → eq_by_cmp key_cmp q e.0 ≡ b → (w : Bool) → cond b (Some e.1) (find key_cmp q es) ≡ None
      → (find key_cmp q es ≡ None → list_any (eq_by_cmp key_cmp q) (weak_keys es) ≡ false)
      → list_any (eq_by_cmp key_cmp q) (firsts (cond w (e ∷ filter (λ e. e.1.weak) es) (filter (λ e. e.1.weak) es))) ≡ false
  by true tie w is rest = absurd (cc is)
  by false tie true is rest = or_from _ _ tie (rest is)
  by false tie false is rest = rest is

-- A setting is weak where its key is one of the weak keys.
weak_of : (es : List (List (List ℕ) × Setting)) → is_sorted key_cmp es ≡ true → (q : List (List ℕ)) (x : Setting) → find key_cmp q es ≡ Some x
    → list_any (eq_by_cmp key_cmp q) (weak_keys es) ≡ x.weak
weak_of [] order q x has = absurd (cc has)
weak_of (e ∷ es) order q x has = by (eq_by_cmp key_cmp q e.0) refl e.1.weak refl has (weak_of es sorted.1 q x) where
  sorted : (below_all key_cmp e.0 es ≡ true) × (is_sorted key_cmp es ≡ true)
  sorted = and_parts (below_all key_cmp e.0 es) (is_sorted key_cmp es) order

  by : (b : Bool) → eq_by_cmp key_cmp q e.0 ≡ b → (w : Bool) → e.1.weak ≡ w → cond b (Some e.1) (find key_cmp q es) ≡ Some x
      → (find key_cmp q es ≡ Some x → list_any (eq_by_cmp key_cmp q) (weak_keys es) ≡ x.weak)
      → list_any (eq_by_cmp key_cmp q) (firsts (cond w (e ∷ filter (λ e. e.1.weak) es) (filter (λ e. e.1.weak) es))) ≡ x.weak
  by true tie true w is rest = or_left _ _ tie ∙ sym w ∙ ap (λ (s : Setting). s.weak) (same_Some e.1 x is)
  by true tie false w is rest = none_weak es q (ap (λ (k : List (List ℕ)). find key_cmp k es) (key_cmp-IsAntisymmetric q e.0 (tied_by _ tie))
      ∙ none_below key_cmp es e.0 sorted.0) ∙ sym w ∙ ap (λ (s : Setting). s.weak) (same_Some e.1 x is)
  by false tie true w is rest = ap (λ b. b || list_any (eq_by_cmp key_cmp q) (weak_keys es)) tie ∙ rest is
  by false tie false w is rest = rest is

-- The settings of the content of settings are these.
pub settings_content : (s : FinMap key_cmp Setting) (metadata : FinMap key_cmp (FinMap bytes_cmp Scalar)) → settings (content_of s metadata) ≡ s
settings_content s metadata = same_map key_total key_cmp-IsAntisymmetric _ _
    (λ q. get-mapped key_total key_cmp-IsAntisymmetric (setting_of (weak_keys (entries s))) (values_of s) q
    ∙ ap (option_map (setting_of (weak_keys (entries s)) q)) (get-mapped key_total key_cmp-IsAntisymmetric (λ k x. x.value) s q) ∙ by q (get s q) refl)
  where
    by : (q : List (List ℕ)) (z : Option Setting) → get s q ≡ z → option_map (setting_of (weak_keys (entries s)) q) (option_map (λ x. x.value) z) ≡ z
    by q None is = refl
    by q (Some x) is = ap Some (same_setting x.value x.value _ x.weak refl (weak_of (entries s) (in_order s) q x (sym (get-entries s q) ∙ is)))

not_in : (k : List (List ℕ)) (ks : List (List (List ℕ))) → AllByRecursion (λ y. key_cmp k y ≡ Less) ks → list_any (eq_by_cmp key_cmp k) ks ≡ false
not_in k [] above = refl
not_in k (y ∷ ks) above = or_from _ _ (ap is_eq above.0) (not_in k ks above.1)

all_past : (k b : List (List ℕ)) (ks : List (List (List ℕ))) → key_cmp k b ≡ Less → AllByRecursion (λ y. key_cmp b y ≡ Less) ks
    → AllByRecursion (λ y. key_cmp k y ≡ Less) ks
all_past k b [] less above = tt
all_past k b (y ∷ ks) less above = (key_total.trans k b y less above.0, all_past k b ks less above.1)

itself : (k : List (List ℕ)) → eq_by_cmp key_cmp k k ≡ true
itself k = (eq_by_cmp_equiv key_total).refl k

-- The first of a rising list is in no list whose keys are all above it.
first_apart : (a b : List (List ℕ)) (xs ys : List (List (List ℕ))) → IsRising (b ∷ ys) → key_cmp a b ≡ Less
    → list_any (eq_by_cmp key_cmp a) (a ∷ xs) ≡ list_any (eq_by_cmp key_cmp a) (b ∷ ys) → ⊥
first_apart a b xs ys rises less same = both_ways _ (not_in a (b ∷ ys) (less, all_past a b ys less (sorted_head key_cmp b ys rises)))
    (sym same ∙ or_left _ _ (itself a))

-- Rising lists with the same keys are one.
same_rising : (xs ys : List (List (List ℕ))) → IsRising xs → IsRising ys
    → ((q : List (List ℕ)) → list_any (eq_by_cmp key_cmp q) xs ≡ list_any (eq_by_cmp key_cmp q) ys) → xs ≡ ys
same_rising [] [] one other same = refl
same_rising [] (b ∷ ys) one other same = absurd (cc (same b, or_left _ (list_any (eq_by_cmp key_cmp b) ys) (itself b)))
same_rising (a ∷ xs) [] one other same = absurd (cc (same a, or_left _ (list_any (eq_by_cmp key_cmp a) xs) (itself a)))
same_rising (a ∷ xs) (b ∷ ys) one other same = by (key_cmp a b) refl (same_rising xs ys (sorted_tail key_cmp a xs one) (sorted_tail key_cmp b ys other)) where
  tails : a ≡ b → (q : List (List ℕ)) (c : Bool) → eq_by_cmp key_cmp q a ≡ c → list_any (eq_by_cmp key_cmp q) xs ≡ list_any (eq_by_cmp key_cmp q) ys
  tails is q true tie =
      let at : q ≡ a = key_cmp-IsAntisymmetric q a (tied_by _ tie) in
      ap (λ (k : List (List ℕ)). list_any (eq_by_cmp key_cmp k) xs) at ∙ not_in a xs (sorted_head key_cmp a xs one)
      ∙ sym (ap (λ (k : List (List ℕ)). list_any (eq_by_cmp key_cmp k) ys) (at ∙ is) ∙ not_in b ys (sorted_head key_cmp b ys other))
  tails is q false tie = sym (ap (λ c. c || list_any (eq_by_cmp key_cmp q) xs) tie) ∙ same q
      ∙ ap (λ c. c || list_any (eq_by_cmp key_cmp q) ys) (ap (eq_by_cmp key_cmp q) (sym is) ∙ tie)

  by : (r : Ordering) → key_cmp a b ≡ r → (((q : List (List ℕ)) → list_any (eq_by_cmp key_cmp q) xs ≡ list_any (eq_by_cmp key_cmp q) ys) → xs ≡ ys)
      → a ∷ xs ≡ b ∷ ys
  by Less is rest = absurd (first_apart a b xs ys other is (same a))
  by Equal is rest =
      let at : a ≡ b = key_cmp-IsAntisymmetric a b is in
      let tail : xs ≡ ys = rest (λ q. tails at q (eq_by_cmp key_cmp q a) refl) in
      λ i. at i ∷ tail i
  by Greater is rest = absurd (first_apart b a ys xs one (key_total.antisymm b a ∙ ap ordering_reverse is) (sym (same b)))

-- The content of the settings of a content is this one.
pub content_settings : (c : Contents) → All (MayBeWeak c.values) c.weak → IsRising c.weak → content_of (settings c) c.metadata ≡ c
content_settings c may rises = λ i. record { values = values i; metadata = c.metadata; weak = weak i } where
  there : (k : List (List ℕ)) (z : Option Scalar) → option_map (λ x. x.value) (option_map (setting_of c.weak k) z) ≡ z
  there k None = refl
  there k (Some v) = refl

  values : values_of (settings c) ≡ c.values
  values = same_map key_total key_cmp-IsAntisymmetric _ _ (λ q. get-mapped key_total key_cmp-IsAntisymmetric (λ k x. x.value) (settings c) q
      ∙ ap (option_map (λ x. x.value)) (get-mapped key_total key_cmp-IsAntisymmetric (setting_of c.weak) c.values q) ∙ there q (get c.values q))

  not_weak : (q : List (List ℕ)) → get c.values q ≡ None → list_any (eq_by_cmp key_cmp q) c.weak ≡ false
  not_weak q none = false_from_ne_true _ (λ any. let here : MayBeWeak c.values q = any_all (MayBeWeak c.values) q c.weak may any in
      absurd (cc (here.stands, ap is_some none)))

  missing : (k : List (List ℕ)) (z : Option Scalar) → option_map (setting_of c.weak k) z ≡ None → z ≡ None
  missing k None is = refl
  missing k (Some v) is = absurd (cc is)

  at : (q : List (List ℕ)) (z : Option Setting) → get (settings c) q ≡ z → list_any (eq_by_cmp key_cmp q) (weak_keys (entries (settings c))) ≡ list_any
      (eq_by_cmp key_cmp q) c.weak
  at q None is = none_weak (entries (settings c)) q (sym (get-entries (settings c) q) ∙ is)
      ∙ sym (not_weak q (missing q (get c.values q) (sym (get-mapped key_total key_cmp-IsAntisymmetric (setting_of c.weak) c.values q) ∙ is)))
  at q (Some x) is = weak_of (entries (settings c)) (in_order (settings c)) q x (sym (get-entries (settings c) q) ∙ is)
      ∙ weakness_of c.weak q (get c.values q) x (sym (get-mapped key_total key_cmp-IsAntisymmetric (setting_of c.weak) c.values q) ∙ is)

  weak : weak_keys (entries (settings c)) ≡ c.weak
  weak = same_rising (weak_keys (entries (settings c))) c.weak (weak_rises (settings c) _ refl) rises (λ q. at q (get (settings c) q) refl)
