-- What keeps a content's rules.
use Rattle.std.proofs.Common.{◌≡◌, ℕ, List, [], ◌∷◌, Option, Some, None, Bool, true, false}
use Rattle.std.proofs.Common.{cond, not, IsSome, IsTrue, is_some, unwrap_or, refl, sym, ◌∙◌, ap, subst}
use Rattle.std.specs.Prelude.{All, OnOk, OnErr}
use Rattle.std.specs.declared.result.Result.{Result}
use Rattle.std.specs.declared.result.Result.TheVariants.{Ok, Err}
use Rattle.std.specs.Ordering.{eq_by_cmp}
use Rattle.std.specs.Cmp.{eq_by_cmp_equiv}
use Rattle.std.specs.FinMap.{FinMap, get, insert, remove, empty, get-empty, get-insert}
use Rattle.std.proofs.lemmas.List.Elements.{All-nil, All-cons, All-head, All-tail, All-weaker, All-filter}
use Rattle.key_names.specs.Order.{key_cmp, key_total, key_cmp-IsAntisymmetric, bytes_cmp, bytes_total, bytes_cmp-IsAntisymmetric}
use Rattle.json_trees.specs.declared.scalar.Scalar.{Scalar}
use Rattle.settings_tree.specs.Content.{Contents, IsContent, MayBeWeak, IsNamed, no_content}
use Rattle.settings_maps.specs.KeyList.{without_key}
use Rattle.settings_maps.specs.Maps.{value_at, with_value, without_value, IsFull}
use Rattle.settings_tree.specs.Rule.{IsPrefixFree, Fits}
use Rattle.settings_maps.specs.TxName.{is_meta_name}
use Rattle.settings_maps.proofs.NestedMaps.{get-remove_other, full_empty, full_with, full_without, value_at-with, value_at-without, tied_by}
use Rattle.settings_tree.proofs.PrefixRule.{empty_free, put_free, take_free}

named_empty : IsNamed empty
named_empty = record { bare = λ k name has. absurd (cc (has, nothing k name (empty {X = FinMap bytes_cmp Scalar} {R = key_cmp}) refl)) } where
  nothing : (k : List (List ℕ)) (name : List ℕ) (m : FinMap key_cmp (FinMap bytes_cmp Scalar)) → m ≡ empty → is_some (value_at m k name) ≡ false
  nothing k name m none = ap is_some (ap (λ (w : FinMap key_cmp (FinMap bytes_cmp Scalar)). value_at w k name) none
      ∙ ap (λ (o : Option (FinMap bytes_cmp Scalar)). get (unwrap_or o empty) name) (get-empty key_cmp k) ∙ get-empty bytes_cmp name)

-- The content with nothing in it keeps the rules.
pub no_rules : IsContent no_content
no_rules = record {
  rule = empty_free empty refl;
  full = full_empty key_total;
  named = named_empty;
  weak = All-nil (MayBeWeak (empty {X = Scalar} {R = key_cmp}));
}

may_stay : (b : Bool) (v : Scalar) (o : Option Scalar) → IsSome o → IsSome (cond b (Some v) o)
may_stay true v o has = refl
may_stay false v o has = has

-- A put leaves each weak key a value.
pub weak_put : (m : FinMap key_cmp Scalar) (k : List (List ℕ)) (v : Scalar) (q : List (List ℕ)) → MayBeWeak m q → MayBeWeak (insert m k v) q
weak_put m k v q may = record {
  stands = subst IsSome (sym (get-insert key_total m k v q)) (may_stay (eq_by_cmp key_cmp q k) v (get m q) may.stands);
  setting =
      may.setting;
}

-- A removal leaves each other weak key its value.
weak_take : (m : FinMap key_cmp Scalar) (k q : List (List ℕ)) → eq_by_cmp key_cmp k q ≡ false → MayBeWeak m q → MayBeWeak (remove m k) q
weak_take m k q apart may = record {
  stands = subst IsSome (sym (get-remove_other key_total m k q ((eq_by_cmp_equiv key_total).symm q k ∙ apart))) may.stands;
  setting = may.setting;
}

weak_without : (m : FinMap key_cmp Scalar) (k : List (List ℕ)) (ws : List (List (List ℕ))) → All (MayBeWeak m) ws
    → All (MayBeWeak (remove m k)) (without_key ws k)
weak_without m k [] all = All-nil (MayBeWeak (remove m k))
weak_without m k (w ∷ ws) all = by (eq_by_cmp key_cmp k w) refl (weak_without m k ws (All-tail (MayBeWeak m) w ws all)) where
  by : (b : Bool) → eq_by_cmp key_cmp k w ≡ b → All (MayBeWeak (remove m k)) (without_key ws k)
      → All (MayBeWeak (remove m k)) (cond (not b) (w ∷ without_key ws k) (without_key ws k))
  by true is rest = rest
  by false is rest = All-cons (MayBeWeak (remove m k)) w _ (weak_take m k w is (All-head (MayBeWeak m) w ws all)) rest

-- A key without a value is not weak.
pub without_absent_key : (m : FinMap key_cmp Scalar) (k : List (List ℕ)) (ws : List (List (List ℕ))) → All (MayBeWeak m) ws → get m k ≡ None
    → ws ≡ without_key ws k
without_absent_key m k [] all none = refl
without_absent_key m k (w ∷ ws) all none = by (eq_by_cmp key_cmp k w) refl (without_absent_key m k ws (All-tail (MayBeWeak m) w ws all) none) where
  by : (b : Bool) → eq_by_cmp key_cmp k w ≡ b → ws ≡ without_key ws k → w ∷ ws ≡ cond (not b) (w ∷ without_key ws k) (without_key ws k)
  by true is rest = absurd (cc (
    (let may : MayBeWeak m w = All-head (MayBeWeak m) w ws all in may.stands),
    ap is_some
        (ap (get m) (sym (key_cmp-IsAntisymmetric k w (tied_by _ is))) ∙ none),
  ))
  by false is rest = ap (λ (l : List (List (List ℕ))). w ∷ l) rest

-- Metadata that is put or taken keeps each name bare.
pub named_with : (metadata : FinMap key_cmp (FinMap bytes_cmp Scalar)) → IsNamed metadata → (k : List (List ℕ)) (name : List ℕ) (x : Scalar)
    → IsTrue (is_meta_name name) → IsNamed (with_value metadata k name x)
named_with metadata named k name x bare = record {
  bare = λ q r has. by q r (eq_by_cmp key_cmp q k) (eq_by_cmp bytes_cmp r name) refl
      (subst IsSome (value_at-with key_total bytes_total metadata k q name r x) has);
} where
  by : (q : List (List ℕ)) (r : List ℕ) (a b : Bool) → eq_by_cmp bytes_cmp r name ≡ b
      → IsSome (cond a (cond b (Some x) (value_at metadata q r)) (value_at metadata q r)) → IsTrue (is_meta_name r)
  by q r true true is has = subst (λ (n : List ℕ). IsTrue (is_meta_name n)) (sym (bytes_cmp-IsAntisymmetric r name (tied_by _ is))) bare
  by q r true false is has = named.bare q r has
  by q r false b is has = named.bare q r has

pub named_without : (metadata : FinMap key_cmp (FinMap bytes_cmp Scalar)) → IsNamed metadata → (k : List (List ℕ)) (name : List ℕ)
    → IsNamed (without_value metadata k name)
named_without metadata named k name = record {
  bare = λ q r has. by q r (eq_by_cmp key_cmp q k) (eq_by_cmp bytes_cmp r name)
      (subst IsSome (value_at-without key_total bytes_total metadata k q name r) has);
} where
  by : (q : List (List ℕ)) (r : List ℕ) (a b : Bool) → IsSome (cond a (cond b None (value_at metadata q r)) (value_at metadata q r)) → IsTrue (is_meta_name r)
  by q r true true has = absurd (cc has)
  by q r true false has = named.bare q r has
  by q r false b has = named.bare q r has

-- The three parts of the content v.
module _ (values : FinMap key_cmp Scalar) (metadata : FinMap key_cmp (FinMap bytes_cmp Scalar)) (weak : List (List (List ℕ))) (v : Contents)
    (seen : ◌≡◌ {A = Contents} (record { values = values; metadata = metadata; weak = weak }) v)
    (content : IsContent (record { values = values; metadata = metadata; weak = weak })) where
  fits_here : (k : List (List ℕ)) → Fits v.values k → Fits values k
  fits_here k = subst (λ (c : Contents). Fits c.values k) (sym seen)

  -- A put over a value keeps the rules.
  pub put_keeps : (k : List (List ℕ)) (x : Scalar) (now : FinMap key_cmp Scalar) (others : List (List (List ℕ))) → Fits v.values k → now ≡ insert values k x
      → others ≡ without_key weak k
      → IsContent (record { values = now; metadata = metadata; weak = others })
  put_keeps k x now others fits put left = record {
    rule = subst IsPrefixFree (sym put) (put_free values k x content.rule (fits_here k fits));
    full = content.full;
    named = content.named;
    weak = subst (λ (m : FinMap key_cmp Scalar). All (MayBeWeak m) others) (sym put)
        (subst (All (MayBeWeak (insert values k x))) (sym left) (All-filter (λ q. not (eq_by_cmp key_cmp k q)) (MayBeWeak (insert values k x)) weak
        (All-weaker (MayBeWeak values) (MayBeWeak (insert values k x)) (weak_put values k x) weak content.weak)));
  }

  -- A put of a new key keeps the rules, whether it finds memory or not.
  pub put_new_keeps : {T E : Type 0} (r : Result T E) (k : List (List ℕ)) (x : Scalar) (now : FinMap key_cmp Scalar) → Fits v.values k
      → OnOk r (now ≡ insert values k x) → OnErr r (now ≡ values)
      → IsContent (record { values = now; metadata = metadata; weak = weak })
  put_new_keeps (Err e) k x now fits put kept = subst (λ (m : FinMap key_cmp Scalar). IsContent (record { values = m; metadata = metadata; weak = weak }))
      (sym kept) content
  put_new_keeps (Ok u) k x now fits put kept = record {
    rule = subst IsPrefixFree (sym put) (put_free values k x content.rule (fits_here k fits));
    full = content.full;
    named = content.named;
    weak = subst (λ (m : FinMap key_cmp Scalar). All (MayBeWeak m) weak) (sym put)
        (All-weaker (MayBeWeak values) (MayBeWeak (insert values k x)) (weak_put values k x) weak content.weak);
  }

  -- A removal keeps the rules.
  pub take_keeps : (k : List (List ℕ)) (now : FinMap key_cmp Scalar) (others : List (List (List ℕ))) → now ≡ remove values k → others ≡ without_key weak k
      → IsContent (record { values = now; metadata = metadata; weak = others })
  take_keeps k now others taken left = record {
    rule = subst IsPrefixFree (sym taken) (take_free values k content.rule);
    full = content.full;
    named = content.named;
    weak = subst (λ (m : FinMap key_cmp Scalar). All (MayBeWeak m) others) (sym taken)
        (subst (All (MayBeWeak (remove values k))) (sym left) (weak_without values k weak content.weak));
  }

  -- Metadata that is put keeps the rules, whether it finds memory or not.
  pub put_meta_keeps : {T E : Type 0} (r : Result T E) (k : List (List ℕ)) (name : List ℕ) (x : Scalar) (now : FinMap key_cmp (FinMap bytes_cmp Scalar))
      → IsTrue (is_meta_name name)
      → OnOk r (now ≡ with_value metadata k name x) → OnErr r (now ≡ metadata) → IsContent (record { values = values; metadata = now; weak = weak })
  put_meta_keeps (Err e) k name x now bare put kept = subst (λ (m : FinMap key_cmp (FinMap bytes_cmp Scalar)). IsContent
      (record { values = values; metadata = m; weak = weak })) (sym kept) content
  put_meta_keeps (Ok u) k name x now bare put kept = record {
    rule = content.rule;
    full = subst IsFull (sym put) (full_with key_total bytes_total metadata k name x content.full);
    named = subst IsNamed (sym put) (named_with metadata content.named k name x bare);
    weak = content.weak;
  }

  -- Metadata that is taken keeps the rules.
  pub take_meta_keeps : (k : List (List ℕ)) (name : List ℕ) (now : FinMap key_cmp (FinMap bytes_cmp Scalar)) → now ≡ without_value metadata k name
      → IsContent (record { values = values; metadata = now; weak = weak })
  take_meta_keeps k name now taken = record {
    rule = content.rule;
    full = subst IsFull (sym taken) (full_without key_total metadata k name content.full);
    named = subst IsNamed (sym taken) (named_without metadata content.named k name);
    weak = content.weak;
  }

  -- Other weak keys keep the rules.
  pub set_weak_keeps : (keys : List (List (List ℕ))) → All (MayBeWeak v.values) keys → IsContent (record { values = values; metadata = metadata; weak = keys })
  set_weak_keeps keys may = record {
    rule = content.rule;
    full = content.full;
    named = content.named;
    weak = subst (λ (c : Contents). All (MayBeWeak c.values) keys) (sym seen) may;
  }

pub ruleset contents = (no_rules, without_absent_key, put_keeps, put_new_keeps, take_keeps, put_meta_keeps, take_meta_keeps, set_weak_keeps)
