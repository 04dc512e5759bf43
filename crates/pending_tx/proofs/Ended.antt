-- A transaction from which all keys are taken is gone.
use Rattle.std.proofs.Common.{◌≡◌, ◌||◌, ℕ, List, [], ◌∷◌, Option, Some, None, is_some, Bool, true, false, cond, unwrap_or, refl, sym, ◌∙◌, ap, subst}
use Rattle.std.specs.Prelude.{fold}
use Rattle.std.specs.Ordering.{eq_by_cmp}
use Rattle.std.specs.FinMap.{FinMap, empty, get, remove, keys, get-empty, get-remove, contains_key-keys}
use Rattle.key_names.specs.Order.{bytes_cmp, bytes_total, bytes_cmp-IsAntisymmetric, key_cmp, key_total, key_cmp-IsAntisymmetric}
use Rattle.json_trees.specs.declared.pending.Pending.{Pending}
use Rattle.settings_maps.specs.Maps.{inner, value_at, without_value, is_empty, IsFull}
use Rattle.settings_maps.proofs.NestedMaps.{tied_by, value_at-without, full_without, same_nested}
use Rattle.settings_tree.specs.Rule.{IsPrefixFree}
use Rattle.settings_tree.proofs.PrefixRule.{empty_free}
use Rattle.settings_maps.specs.KeyList.{has_key}

abbrev Pendings : Type 0
Pendings = FinMap bytes_cmp (FinMap key_cmp Pending)

abbrev pub taken : Pendings → List ℕ → List (List (List ℕ)) → Pendings
taken m tx ks = fold (λ n k. without_value n tx k) m ks

both_taken : (a b c : Bool) (x : Option Pending) → cond a (cond b None (cond a (cond c None x) x)) (cond a (cond c None x) x) ≡ cond a (cond (c || b) None x) x
both_taken true true true x = refl
both_taken true true false x = refl
both_taken true false true x = refl
both_taken true false false x = refl
both_taken false b c x = refl

none_taken : (a : Bool) (x : Option Pending) → x ≡ cond a x x
none_taken true x = refl
none_taken false x = refl

-- What is where after some keys are taken.
pub value_at-taken : (m : Pendings) (tx : List ℕ) (ks : List (List (List ℕ))) (t : List ℕ) (q : List (List ℕ))
    → value_at (taken m tx ks) t q ≡ cond (eq_by_cmp bytes_cmp t tx) (cond (has_key ks q) None (value_at m t q)) (value_at m t q)
value_at-taken m tx [] t q = none_taken (eq_by_cmp bytes_cmp t tx) (value_at m t q)
value_at-taken m tx (k ∷ ks) t q = value_at-taken (without_value m tx k) tx ks t q
    ∙ ap (λ x. cond (eq_by_cmp bytes_cmp t tx) (cond (has_key ks q) None x) x) (value_at-without bytes_total key_total m tx t k q)
    ∙ both_taken (eq_by_cmp bytes_cmp t tx) (has_key ks q) (eq_by_cmp key_cmp q k) (value_at m t q)

full_taken : (m : Pendings) (tx : List ℕ) (ks : List (List (List ℕ))) → IsFull m → IsFull (taken m tx ks)
full_taken m tx [] full = full
full_taken m tx (k ∷ ks) full = full_taken (without_value m tx k) tx ks (full_without bytes_total m tx k full)

full_removed : (m : Pendings) (tx : List ℕ) → IsFull m → IsFull (remove m tx)
full_removed m tx full = record { each = λ t i has. by t i (eq_by_cmp bytes_cmp t tx) (sym (get-remove bytes_total m tx t) ∙ has) } where
  by : (t : List ℕ) (i : FinMap key_cmp Pending) (b : Bool) → cond b None (get m t) ≡ Some i → is_empty i ≡ false
  by t i true has = absurd (cc has)
  by t i false has = full.each t i has

inner_cond : (b : Bool) (o : Option (FinMap key_cmp Pending)) → unwrap_or (cond b None o) empty ≡ cond b empty (unwrap_or o empty)
inner_cond true o = refl
inner_cond false o = refl

-- What a transaction has after one is removed.
pub inner-remove : (m : FinMap bytes_cmp (FinMap key_cmp Pending)) (tx t : List ℕ) → inner (remove m tx) t ≡ cond (eq_by_cmp bytes_cmp t tx) empty (inner m t)
inner-remove m tx t = ap (λ (o : Option (FinMap key_cmp Pending)). unwrap_or o empty) (get-remove bytes_total m tx t)
    ∙ inner_cond (eq_by_cmp bytes_cmp t tx) (get m t)

-- With all its keys taken it is gone.
pub all_taken : (m : FinMap bytes_cmp (FinMap key_cmp Pending)) (tx : List ℕ) → IsFull m → fold (λ n k. without_value n tx k) m (keys (inner m tx)) ≡ remove m
    tx
all_taken m tx full = same_nested bytes_total bytes_cmp-IsAntisymmetric key_total key_cmp-IsAntisymmetric (taken m tx (keys (inner m tx))) (remove m tx)
    (full_taken m tx (keys (inner m tx)) full) (full_removed m tx full)
    (λ t q. value_at-taken m tx (keys (inner m tx)) t q ∙ by t q (eq_by_cmp bytes_cmp t tx) refl
    ∙ sym (ap (λ (i : FinMap key_cmp Pending). get i q) (inner-remove m tx t)))
  where
    gone : (o : Option Pending) → cond (is_some o) None o ≡ None
    gone None = refl
    gone (Some x) = refl

    at_tx : (q : List (List ℕ)) → cond (has_key (keys (inner m tx)) q) None (value_at m tx q) ≡ get (empty {R = key_cmp}) q
    at_tx q = ap (λ (b : Bool). cond b None (value_at m tx q)) (sym (contains_key-keys (inner m tx) q)) ∙ gone (value_at m tx q)
        ∙ sym (get-empty {X = Pending} key_cmp q)

    by : (t : List ℕ) (q : List (List ℕ)) (b : Bool) → eq_by_cmp bytes_cmp t tx ≡ b
        → cond b (cond (has_key (keys (inner m tx)) q) None (value_at m t q)) (value_at m t q) ≡ get (cond b empty (inner m t)) q
    by t q true is = ap (λ (u : List ℕ). cond (has_key (keys (inner m tx)) q) None (value_at m u q))
        (bytes_cmp-IsAntisymmetric t tx (tied_by (bytes_cmp t tx) is)) ∙ at_tx q
    by t q false is = refl

-- The other transactions keep the prefix rule.
pub removed_free : (m : FinMap bytes_cmp (FinMap key_cmp Pending)) (tx : List ℕ) → ((t : List ℕ) → IsPrefixFree (inner m t)) → (t : List ℕ)
    → IsPrefixFree (inner (remove m tx) t)
removed_free m tx free t = subst IsPrefixFree (sym (inner-remove m tx t)) (by (eq_by_cmp bytes_cmp t tx)) where
  by : (b : Bool) → IsPrefixFree (cond b empty (inner m t))
  by true = empty_free empty refl
  by false = free t
