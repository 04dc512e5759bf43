-- The settings at the keys of a list.
use Rattle.std.proofs.Common.{◌≡◌, List, [], ◌∷◌, Option, Some, None, Bool, true, false, T, cond, ◌||◌, if◌then◌else◌, refl, sym}
use Rattle.std.proofs.Common.{◌∙◌, ap, subst, fold}
use Rattle.std.specs.Ordering.{eq_by_cmp}
use Rattle.std.specs.FinMap.{FinMap, empty, entries, entries_sorted, entries-from_sorted, from_sorted, get, get-empty, get-entries, get-from_sorted, get-insert}
use Rattle.std.specs.FinMap.{is_sorted, same_map}
use Rattle.std.specs.FinMap.Entries.{find-where_key, is_sorted-where_key}
use Rattle.std.proofs.lemmas.Bool.{and_parts}
use Rattle.key_names.specs.Order.{key_cmp, key_total, key_cmp-IsAntisymmetric}
use Rattle.key_names.specs.Key.{is_prefix}
use Rattle.json_trees.specs.declared.scalar.Scalar.{Scalar}
use Rattle.settings_tree.specs.Content.{settings_key}
use Rattle.settings_maps.specs.KeyList.{has_key}
use Rattle.settings_machine.specs.World.{Key}
use Rattle.settings_machine.specs.Opening.{Values}
use Rattle.settings_machine.specs.Answers.{settings_of, settings_where, is_live_setting, missing_key}
use Rattle.settings_machine.specs.declared.refusal.Refusal.TheVariants.{NoKey}
use Rattle.settings_machine.proofs.Elements.{key_tied}
use Rattle.api_core.specs.Gathered.{with_found, gathered}

module _ {X : Type 0} (at : Key → Option X) (q : Key) where
  -- What is found at the key, or else what was there.
  or_before : Option X → Option X → Option X
  or_before None before = before
  or_before (Some x) before = Some x

  get-found : (m : FinMap key_cmp X) (key : Key) → get (with_found m key (at key)) q ≡ cond (eq_by_cmp key_cmp q key) (or_before (at q) (get m q)) (get m q)
  unfolding or_before
  get-found m key = by (at key) (eq_by_cmp key_cmp q key) refl refl where
    by : (o : Option X) (b : Bool) → at key ≡ o → eq_by_cmp key_cmp q key ≡ b → get (with_found m key o) q ≡ cond b (or_before (at q) (get m q)) (get m q)
    by None true none tied = sym (ap (λ (o : Option X). or_before o (get m q)) (ap at (key_tied q key tied) ∙ none))
    by None false none tied = refl
    by (Some x) true some tied = get-insert key_total m key x q ∙ ap (λ b. cond b (Some x) (get m q)) tied
        ∙ sym (ap (λ (o : Option X). or_before o (get m q)) (ap at (key_tied q key tied) ∙ some))
    by (Some x) false some tied = get-insert key_total m key x q ∙ ap (λ b. cond b (Some x) (get m q)) tied

  or_twice : (before : Option X) → or_before (at q) (or_before (at q) before) ≡ or_before (at q) before
  unfolding or_before
  or_twice before = by (at q) where
    by : (o : Option X) → or_before o (or_before o before) ≡ or_before o before
    by None = refl
    by (Some x) = refl

  get-folded : (m : FinMap key_cmp X) (keys : List Key) → get (fold (λ n key. with_found n key (at key)) m keys) q
      ≡ cond (has_key keys q) (or_before (at q) (get m q)) (get m q)
  get-folded m [] = refl
  get-folded m (key ∷ keys) = get-folded (with_found m key (at key)) keys
      ∙ ap (λ (o : Option X). cond (has_key keys q) (or_before (at q) o) o) (get-found m key) ∙ by (eq_by_cmp key_cmp q key) (has_key keys q) where
        by : (b c : Bool) → cond c (or_before (at q) (cond b (or_before (at q) (get m q)) (get m q))) (cond b (or_before (at q) (get m q)) (get m q))
            ≡ cond (b || c) (or_before (at q) (get m q)) (get m q)
        by true true = or_twice (get m q)
        by true false = refl
        by false true = refl
        by false false = refl

  -- What is gathered at a key is what is there, where the list has the key.
  pub get-gathered : (keys : List Key) → get (gathered at keys) q ≡ cond (has_key keys q) (at q) None
  unfolding or_before
  get-gathered keys = get-folded empty keys ∙ ap (λ (o : Option X). cond (has_key keys q) (or_before (at q) o) o) (get-empty {X = X} key_cmp q)
      ∙ by (at q) where
        by : (o : Option X) → cond (has_key keys q) (or_before o None) None ≡ cond (has_key keys q) o None
        by None = refl
        by (Some x) = refl

module _ (values : Values) where
  -- Where no key is missing each is a setting.
  all_settings : (keys : List Key) (q : Key) → missing_key values keys ≡ None → has_key keys q ≡ true → is_prefix settings_key q ≡ true
  all_settings [] q none has = absurd (cc has)
  all_settings (key ∷ keys) q none has = by (is_live_setting values key) (eq_by_cmp key_cmp q key) refl refl none has (all_settings keys q) where
    by : (b c : Bool) → is_live_setting values key ≡ b → eq_by_cmp key_cmp q key ≡ c → (if b then missing_key values keys else Some (NoKey key)) ≡ None
        → (c || has_key keys q) ≡ true
        → (missing_key values keys ≡ None → has_key keys q ≡ true → is_prefix settings_key q ≡ true) → is_prefix settings_key q ≡ true
    by false c live tied none has rest = absurd (cc none)
    by true true live tied none has rest = subst (λ (k : Key). is_prefix settings_key k ≡ true) (sym (key_tied q key tied))
        (and_parts (is_prefix settings_key key) _ live).0
    by true false live tied none has rest = rest none has

  module _ (keys : List Key) where
    -- The settings of which the list has the keys.
    abbrev those : List (Key × Scalar)
    those = settings_where (has_key keys) values

    those_rise : T (is_sorted key_cmp those)
    those_rise = is_sorted-where_key key_cmp (has_key keys) (settings_of values)
        (is_sorted-where_key key_cmp (is_prefix settings_key) (entries values) (entries_sorted values))

    get-those : (q : Key) → get (from_sorted {R = key_cmp} those) q ≡ cond (has_key keys q) (cond (is_prefix settings_key q) (get values q) None) None
    get-those q = get-from_sorted key_cmp those q those_rise
        ∙ find-where_key key_cmp (has_key keys) q (λ x tie. ap (has_key keys) (sym (key_cmp-IsAntisymmetric q x tie))) (settings_of values)
        ∙ ap (λ (o : Option Scalar). cond (has_key keys q) o None)
        (find-where_key key_cmp (is_prefix settings_key) q (λ x tie. ap (is_prefix settings_key) (sym (key_cmp-IsAntisymmetric q x tie))) (entries values)
        ∙ ap (λ (o : Option Scalar). cond (is_prefix settings_key q) o None) (sym (get-entries values q)))

    -- Where none is missing, what is gathered of the values are the settings.
    pub gathered_settings : missing_key values keys ≡ None → entries (gathered (λ key. get values key) keys) ≡ settings_where (has_key keys) values
    gathered_settings none = ap entries (same_map key_total key_cmp-IsAntisymmetric (gathered (λ key. get values key) keys) (from_sorted {R = key_cmp} those)
        (λ q. get-gathered (λ key. get values key) q keys ∙ by q (has_key keys q) refl ∙ sym (get-those q))) ∙ entries-from_sorted key_cmp those those_rise
      where
        by : (q : Key) (b : Bool) → has_key keys q ≡ b → cond b (get values q) None ≡ cond b (cond (is_prefix settings_key q) (get values q) None) None
        by q true has = ap (λ c. cond c (get values q) None) (sym (all_settings keys q none has))
        by q false has = refl
