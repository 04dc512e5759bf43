-- Live settings with their weakness, and the contents that they are parts of.
use Rattle.std.proofs.Common.{arith, ◌≡◌, ℕ, List, [], ◌∷◌, ◌++◌, Some, Bool, true}
use Rattle.std.proofs.Common.{false, cond, filter, map, is_some, option_map, append_assoc, append-nil, refl, sym, ◌∙◌, ap, subst}
use Rattle.std.specs.Prelude.{All}
use Rattle.std.specs.List.{AllByRecursion}
use Rattle.std.specs.List.Sorted.{IsStrictlySortedBy}
use Rattle.std.specs.Ordering.{is_eq, is_lt}
use Rattle.std.specs.declared.cmp.Ordering.{Ordering}
use Rattle.std.specs.declared.cmp.Ordering.TheVariants.{Less}
use Rattle.std.specs.FinMap.{FinMap, entries, find, get, get-entries, is_sorted}
use Rattle.std.specs.FinMap.Entries.{below_all}
use Rattle.std.proofs.lemmas.Bool.{and_parts, cond-true}
use Rattle.std.proofs.lemmas.List.Elements.{All-nil, All-cons}
use Rattle.std.proofs.lemmas.Cmp.{tied_itself}
use Rattle.key_names.specs.Order.{bytes_cmp, key_cmp, key_total, key_cmp-IsAntisymmetric}
use Rattle.json_trees.specs.declared.scalar.Scalar.{Scalar}
use Rattle.settings_maps.specs.KeyList.{IsRising}
use Rattle.settings_tree.specs.Content.{Contents, IsContent, MayBeWeak}
use Rattle.settings_tree.specs.Rule.{IsPrefixFree}
use Rattle.migrate_helpers.specs.declared.setting.Setting.{Setting}
use Rattle.migrate_helpers.specs.Entries.{removed}
use Rattle.migrate_helpers.specs.Mapped.{strong}
use Rattle.migrate_helpers.specs.Settings.{IsWeakRightly, values_of, weak_keys}
use Rattle.migrate_helpers.specs.Laws.Conflicts.{removed_free}
use Rattle.migrate_helpers.specs.Laws.MappedMaps.{found_behind, get-mapped, in_order, mapped_free}

less : (r : Ordering) → is_lt r ≡ true → r ≡ Less
less r lt = grind arith

-- Settings with the same value and weakness are one.
pub same_setting : (v w : Scalar) (a b : Bool) → v ≡ w → a ≡ b → ◌≡◌ {A = Setting} (record { value = v; weak = a }) (record { value = w; weak = b })
same_setting v w a b value weak = λ i. record { value = value i; weak = weak i }

-- The keys of entries.
abbrev pub firsts : List (List (List ℕ) × Setting) → List (List (List ℕ))
firsts es = map (λ e. e.0) es

-- The weak keys of an entry and the others.
pub weak_first : (k : List (List ℕ)) (x : Setting) (es : List (List (List ℕ) × Setting)) → weak_keys ((k, x) ∷ es) ≡ weak_keys ((k, x) ∷ []) ++ weak_keys es
weak_first k x es = by x.weak where
  by : (b : Bool) → firsts (cond b ((k, x) ∷ filter (λ e. e.1.weak) es) (filter (λ e. e.1.weak) es)) ≡ firsts (cond b ((k, x) ∷ []) []) ++ weak_keys es
  by true = refl
  by false = refl

-- The weak keys so far, with those of the entries that are left.
pub weak_next : (left rest : List (List (List ℕ) × Setting)) (k : List (List ℕ)) (x : Setting) (keys now all : List (List (List ℕ)))
    → left ≡ (k, x) ∷ rest → keys ++ weak_keys left ≡ all → now ≡ keys ++ weak_keys ((k, x) ∷ []) → now ++ weak_keys rest ≡ all
weak_next left rest k x keys now all next whole pushed = ap (λ (l : List (List (List ℕ))). l ++ weak_keys rest) pushed
    ∙ append_assoc keys (weak_keys ((k, x) ∷ [])) (weak_keys rest)
    ∙ ap (λ (l : List (List (List ℕ))). keys ++ l) (sym (weak_first k x rest) ∙ sym (ap weak_keys next)) ∙ whole

pub weak_end : (left : List (List (List ℕ) × Setting)) (keys all : List (List (List ℕ))) → left ≡ [] → keys ++ weak_keys left ≡ all → keys ≡ all
weak_end left keys all none whole = sym (ap (λ (l : List (List (List ℕ))). keys ++ l) (ap weak_keys none) ∙ append-nil keys) ∙ whole

all_above : (k : List (List ℕ)) (es : List (List (List ℕ) × Setting)) → below_all key_cmp k es ≡ true → AllByRecursion (λ y. key_cmp k y ≡ Less) (weak_keys es)
all_above k [] below = tt
all_above k (e ∷ es) below = by e.1.weak (all_above k es ((and_parts (is_lt (key_cmp k e.0)) (below_all key_cmp k es) below).1)) where
  by : (b : Bool) → AllByRecursion (λ y. key_cmp k y ≡ Less) (weak_keys es)
      → AllByRecursion (λ y. key_cmp k y ≡ Less) (firsts (cond b (e ∷ filter (λ e. e.1.weak) es) (filter (λ e. e.1.weak) es)))
  by true rest = (less _ ((and_parts (is_lt (key_cmp k e.0)) (below_all key_cmp k es) below).0), rest)
  by false rest = rest

rising : (es : List (List (List ℕ) × Setting)) → is_sorted key_cmp es ≡ true → IsStrictlySortedBy key_cmp (weak_keys es)
unfolding IsStrictlySortedBy
rising [] order = tt
rising (e ∷ es) order = by e.1.weak (rising es ((and_parts (below_all key_cmp e.0 es) (is_sorted key_cmp es) order).1)) where
  by : (b : Bool) → IsStrictlySortedBy key_cmp (weak_keys es) → IsStrictlySortedBy key_cmp
      (firsts (cond b (e ∷ filter (λ e. e.1.weak) es) (filter (λ e. e.1.weak) es)))
  by true rest = (all_above e.0 es ((and_parts (below_all key_cmp e.0 es) (is_sorted key_cmp es) order).0), rest)
  by false rest = rest

-- The weak keys rise.
pub weak_rises : (s : FinMap key_cmp Setting) (keys : List (List (List ℕ))) → keys ≡ weak_keys (entries s) → IsRising keys
weak_rises s keys is = subst IsRising (sym is) (rising (entries s) (in_order s))

each_weak : (P : List (List ℕ) → Type 0) (es : List (List (List ℕ) × Setting)) → is_sorted key_cmp es ≡ true
    → ((k : List (List ℕ)) (x : Setting) → find key_cmp k es ≡ Some x → x.weak ≡ true → P k) → All P (weak_keys es)
each_weak P [] order holds = All-nil P
each_weak P (e ∷ es) order holds = by e.1.weak refl (each_weak P es sorted.1
    (λ k x has weak. holds k x (found_behind key_cmp-IsAntisymmetric e es k x sorted.0 has) weak)) where
      sorted : (below_all key_cmp e.0 es ≡ true) × (is_sorted key_cmp es ≡ true)
      sorted = and_parts (below_all key_cmp e.0 es) (is_sorted key_cmp es) order

      by : (b : Bool) → e.1.weak ≡ b → All P (weak_keys es) → All P (firsts (cond b (e ∷ filter (λ e. e.1.weak) es) (filter (λ e. e.1.weak) es)))
      by true weak rest = All-cons P e.0 (weak_keys es) (holds e.0 e.1 (cond-true _ (Some e.1) (find key_cmp e.0 es) (ap is_eq (tied_itself key_total e.0)))
          weak)
          rest
      by false weak rest = rest

-- The weak ones of settings may be weak in the content of the settings.
pub may_be_weak : (s : FinMap key_cmp Setting) → IsWeakRightly s → All (MayBeWeak (values_of s)) (weak_keys (entries s))
may_be_weak s rightly = each_weak (MayBeWeak (values_of s)) (entries s) (in_order s) (λ k x has weak. at k x (get-entries s k ∙ has) weak) where
  at : (k : List (List ℕ)) (x : Setting) → get s k ≡ Some x → x.weak ≡ true → MayBeWeak (values_of s) k
  at k x has weak = record {
    stands = ap is_some (get-mapped key_total key_cmp-IsAntisymmetric (λ k x. x.value) s k ∙ ap (option_map (λ x. x.value)) has);
    setting = rightly.begins k x has weak;
  }

-- The content of settings that keep the prefix rule is one.
pub content_made : (s : FinMap key_cmp Setting) (v : Contents) (values : FinMap key_cmp Scalar) (metadata : FinMap key_cmp (FinMap bytes_cmp Scalar))
    (weak : List (List (List ℕ))) → IsContent v → IsPrefixFree s → IsWeakRightly s
    → values ≡ values_of s → metadata ≡ v.metadata → weak ≡ weak_keys (entries s) → IsContent (record { values = values; metadata = metadata; weak = weak })
content_made s v values metadata weak content free rightly one two three =
    subst IsContent (λ i. record { values = sym one i; metadata = sym two i; weak = sym three i }) (record {
      rule = mapped_free (λ k x. x.value) s free;
      full = content.full;
      named = content.named;
      weak = may_be_weak s rightly;
    })

-- A content without its weak settings is one.
pub strong_made : (v : Contents) (values copies : FinMap key_cmp Scalar) (metadata : FinMap key_cmp (FinMap bytes_cmp Scalar))
    (weak keys : List (List (List ℕ))) → IsContent v
    → copies ≡ v.values → weak ≡ v.weak → values ≡ removed copies weak → metadata ≡ v.metadata → keys ≡ []
    → ◌≡◌ {A = Contents} (record { values = values; metadata = metadata; weak = keys }) (strong v)
strong_made v values copies metadata weak keys content one two three four five =
    λ i. record { values = (three ∙ ap (λ (m : FinMap key_cmp Scalar). removed m weak) one ∙ ap (removed v.values) two) i; metadata = four i; weak = five i }

pub strong_content : (v made : Contents) → IsContent v → made ≡ strong v → IsContent made
strong_content v made content is = subst IsContent (sym is) (record {
  rule = removed_free v.weak v.values content.rule;
  full = content.full;
  named = content.named;
  weak = All-nil (MayBeWeak (removed v.values v.weak));
})
