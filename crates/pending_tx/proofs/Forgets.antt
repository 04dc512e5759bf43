-- What is held once keys are forgotten.
use Rattle.std.proofs.Common.{◌≡◌, ◌&&◌, ◌||◌, ℕ, List, [], ◌∷◌, Option, Some, None, is_some, Bool, true, false, cond, unwrap_or, refl, sym, ◌∙◌, ap}
use Rattle.std.specs.Prelude.{fold, map, filter, if◌then◌else◌}
use Rattle.std.specs.Ordering.{eq_by_cmp, is_eq}
use Rattle.std.specs.FinMap.{FinMap, empty, get, insert, keys, get-empty, get-insert, contains_key-keys}
use Rattle.std.proofs.lemmas.Cmp.{tied_itself}
use Rattle.key_names.specs.Order.{bytes_total, key_cmp, key_total, key_cmp-IsAntisymmetric}
use Rattle.json_trees.specs.declared.pending.Pending.{Pending}
use Rattle.json_trees.specs.declared.pending.Pending.TheVariants.{Gone}
use Rattle.json_trees.specs.declared.scalar.Scalar.{Scalar}
use Rattle.settings_maps.specs.Maps.{value_at, without_value}
use Rattle.settings_maps.specs.KeyList.{has_key}
use Rattle.settings_maps.proofs.NestedMaps.{tied_by}
use Rattle.settings_tree.specs.declared.held.Held.{Held}
use Rattle.pending_tx.specs.Transactions.{removals, last_of, forgotten}
use Rattle.settings_tree.proofs.Over.{over, get-laid_over}
use Rattle.pending_tx.proofs.Ended.{taken, value_at-taken}
use Rattle.pending_tx.proofs.Places.{Pendings, without_place, places_of, places_taken}

abbrev Key : Type 0
Key = List (List ℕ)

either_gone : (a b : Bool) (x : Option Pending) → (if a then Some Gone else cond b (Some Gone) x) ≡ (if b || a then Some Gone else x)
either_gone true true x = refl
either_gone true false x = refl
either_gone false true x = refl
either_gone false false x = refl

last_removed : (m : FinMap key_cmp Pending) (ks : List Key) (q : Key)
    → get (fold (λ n e. insert n e.0 e.1) m (removals ks)) q ≡ (if has_key ks q then Some Gone else get m q)
last_removed m [] q = refl
last_removed m (k ∷ ks) q = last_removed (insert m k Gone) ks q
    ∙ ap (λ (o : Option Pending). if has_key ks q then Some Gone else o) (get-insert key_total m k Gone q)
    ∙ either_gone (has_key ks q) (eq_by_cmp key_cmp q k) (get m q)

over_gone : (b : Bool) (x : Option Scalar) → over (if b then Some Gone else None) x ≡ (if b then None else x)
over_gone true x = refl
over_gone false x = refl

-- The last of the removals of a key.
pub removed_at : (ks : List (List (List ℕ))) (q : List (List ℕ)) → get (last_of (removals ks)) q ≡ (if has_key ks q then Some Gone else None)
removed_at ks q = last_removed empty ks q ∙ ap (λ (o : Option Pending). if has_key ks q then Some Gone else o) (get-empty {X = Pending} key_cmp q)

-- A key that is named has no live value, and another one has its own.
pub forgotten_live : (h : Held) (ks : List (List (List ℕ))) (q : List (List ℕ))
    → get (forgotten h ks).live.values q ≡ (if has_key ks q then None else get h.live.values q)
forgotten_live h ks q = get-laid_over h.live (last_of (removals ks)) q
    ∙ ap (λ (o : Option Pending). over o (get h.live.values q)) (removed_at ks q)
    ∙ over_gone (has_key ks q) (get h.live.values q)

named_as : (ks : List Key) (q k : Key) → eq_by_cmp key_cmp q k ≡ true → has_key ks k ≡ has_key ks q
named_as ks q k e = ap (has_key ks) (sym (key_cmp-IsAntisymmetric q k (tied_by (key_cmp q k) e)))

-- The keys of a list that are named.
pub has_named : (ks l : List (List (List ℕ))) (q : List (List ℕ)) → has_key (filter (has_key ks) l) q ≡ (has_key ks q && has_key l q)
has_named ks [] q = none (has_key ks q) where
  none : (b : Bool) → false ≡ (b && false)
  none true = refl
  none false = refl
has_named ks (k ∷ l) q = by (has_key ks k) refl (eq_by_cmp key_cmp q k) refl (has_named ks l q) where
  both : (a b : Bool) → a ≡ true → true ≡ (a && (true || b))
  both true b e = refl
  both false b e = absurd (cc e)

  first : (a : Bool) → a ≡ false → (c b : Bool) → c ≡ (a && b) → c ≡ (a && (true || b))
  first true e c b rest = absurd (cc e)
  first false e c b rest = rest

  by : (n : Bool) → has_key ks k ≡ n → (e : Bool) → eq_by_cmp key_cmp q k ≡ e → has_key (filter (has_key ks) l) q ≡ (has_key ks q && has_key l q)
      → has_key (if n then k ∷ filter (has_key ks) l else filter (has_key ks) l) q ≡ (has_key ks q && (eq_by_cmp key_cmp q k || has_key l q))
  by true named true e rest = ap (λ (b : Bool). b || has_key (filter (has_key ks) l) q) e ∙ both (has_key ks q) (has_key l q) (sym (named_as ks q k e) ∙ named)
      ∙ ap (λ (b : Bool). has_key ks q && (b || has_key l q)) (sym e)
  by true named false e rest = ap (λ (b : Bool). b || has_key (filter (has_key ks) l) q) e ∙ rest
      ∙ ap (λ (b : Bool). has_key ks q && (b || has_key l q)) (sym e)
  by false named true e rest = first (has_key ks q) (sym (named_as ks q k e) ∙ named) _ (has_key l q) rest
      ∙ ap (λ (b : Bool). has_key ks q && (b || has_key l q)) (sym e)
  by false named false e rest = rest ∙ ap (λ (b : Bool). has_key ks q && (b || has_key l q)) (sym e)

fold_places : (m : Pendings) (tx : List ℕ) (l : List Key) → fold without_place m (map (λ k. (tx, k)) l) ≡ taken m tx l
fold_places m tx [] = refl
fold_places m tx (k ∷ l) = fold_places (without_value m tx k) tx l

none_twice : (b : Bool) (x : Option Pending) → x ≡ None → x ≡ (if b then None else x)
none_twice true x e = e
none_twice false x e = refl

only_named : (b : Bool) (x : Option Pending) → cond (b && is_some x) None x ≡ (if b then None else x)
only_named true None = refl
only_named true (Some p) = refl
only_named false x = refl

-- For a key that is named nothing is pending, and for another one what was.
pub forgotten_pending : (h : Held) (ks : List (List (List ℕ))) (tx : List ℕ) (q : List (List ℕ))
    → value_at (forgotten h ks).pending tx q ≡ (if has_key ks q then None else value_at h.pending tx q)
forgotten_pending h ks tx q =
    ap (λ (o : Option (FinMap key_cmp Pending)). get (unwrap_or o empty) q) (places_taken tx ks h.pending) ∙ by (get h.pending tx) refl
  where
    by : (o : Option (FinMap key_cmp Pending)) → get h.pending tx ≡ o
        → value_at (fold without_place h.pending (places_of tx ks o)) tx q ≡ (if has_key ks q then None else value_at h.pending tx q)
    by None is = none_twice (has_key ks q) (value_at h.pending tx q)
        (ap (λ (o : Option (FinMap key_cmp Pending)). get (unwrap_or o empty) q) is ∙ get-empty {X = Pending} key_cmp q)
    by (Some i) is =
        ap (λ (n : Pendings). value_at n tx q) (fold_places h.pending tx (filter (has_key ks) (keys i)))
        ∙ value_at-taken h.pending tx (filter (has_key ks) (keys i)) tx q
        ∙ ap (λ (b : Bool). cond b (cond (has_key (filter (has_key ks) (keys i)) q) None (value_at h.pending tx q)) (value_at h.pending tx q))
        (ap is_eq (tied_itself bytes_total tx))
        ∙ ap (λ (b : Bool). cond b None (value_at h.pending tx q))
        (has_named ks (keys i) q ∙ ap (λ (b : Bool). has_key ks q && b) (sym (contains_key-keys i q)
        ∙ ap (λ (o : Option (FinMap key_cmp Pending)). is_some (get (unwrap_or o empty) q)) (sym is)))
        ∙ only_named (has_key ks q) (value_at h.pending tx q)
