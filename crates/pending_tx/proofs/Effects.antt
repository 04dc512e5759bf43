-- What the entries of each kind make of what is held.
use Rattle.std.proofs.Common.{◌≡◌, ℕ, List, [], ◌∷◌, Option, Some, None, Bool, true, false, not, cond, filter, map, unwrap_or, refl, sym, ◌∙◌, ap}
use Rattle.std.specs.Prelude.{fold}
use Rattle.std.specs.declared.cmp.Ordering.{Ordering}
use Rattle.std.specs.declared.cmp.Ordering.TheVariants.{Less, Equal, Greater}
use Rattle.std.specs.Ordering.{eq_by_cmp, is_eq, is_lt, ordering_reverse}
use Rattle.std.specs.Option.{option_to_list}
use Rattle.std.specs.List.{AllByRecursion}
use Rattle.std.specs.FinMap.{FinMap, empty, get, insert, is_sorted, get-empty}
use Rattle.std.specs.FinMap.Entries.{below_all}
use Rattle.std.proofs.lemmas.Bool.{and_parts}
use Rattle.key_names.specs.Order.{bytes_cmp, bytes_total, bytes_cmp-IsAntisymmetric, key_cmp, key_total, key_cmp-IsAntisymmetric}
use Rattle.json_trees.specs.Equal.{scalar_eq, pending_eq}
use Rattle.json_trees.specs.EqualLaws.{scalar_eq-Decides, pending_eq-Decides}
use Rattle.json_trees.specs.declared.scalar.Scalar.{Scalar}
use Rattle.json_trees.specs.declared.pending.Pending.{Pending}
use Rattle.json_trees.specs.declared.pending.Pending.TheVariants.{Put, Gone}
use Rattle.settings_maps.specs.Maps.{inner, value_at, with_value, without_value}
use Rattle.settings_maps.proofs.NestedMaps.{get-insert_other, get-remove_other, insert-present, remove-absent, value_at-with}
use Rattle.settings_tree.specs.Laid.{laid, laid_one}
use Rattle.settings_tree.specs.declared.entry.Entry.{Entry}
use Rattle.settings_tree.specs.declared.entry.Entry.TheVariants.{PendSet, PendGone, OwedSet, WeakIs}
use Rattle.settings_tree.specs.declared.entry.Owed.{Owed}
use Rattle.settings_tree.specs.declared.held.Held.{Held}
use Rattle.pending_tx.specs.Changes.{Tells}
use Rattle.pending_tx.specs.Entries.{live_entry, is_pending, is_new}
use Rattle.settings_tree.specs.Over.{with_pending}
use Rattle.pending_tx.specs.Transactions.{differs}

abbrev Key : Type 0
Key = List (List ℕ)

abbrev Values : Type 0
Values = FinMap key_cmp Scalar

abbrev Pendings : Type 0
Pendings = FinMap bytes_cmp (FinMap key_cmp Pending)

live_laid_one : (h : Held) (k : Key) (p : Pending) → laid_one h (live_entry k p) ≡ record h { live = record h.live { values = with_pending h.live.values k p } }
live_laid_one h k (Put v) = refl
live_laid_one h k Gone = refl

-- Entries for the live values.
pub live_laid : (h : Held) (es : List (List (List ℕ) × Pending)) → laid h (map (λ e. live_entry e.0 e.1) es) ≡
    record h { live = record h.live { values = fold (λ m e. with_pending m e.0 e.1) h.live.values es } }
live_laid h [] = refl
live_laid h (e ∷ es) = ap (λ (g : Held). laid g (map (λ e. live_entry e.0 e.1) es)) (live_laid_one h e.0 e.1)
    ∙ live_laid (record h { live = record h.live { values = with_pending h.live.values e.0 e.1 } }) es

-- Entries that take keys from a transaction.
pub gone_laid : (h : Held) (tx : List ℕ) (ks : List (List (List ℕ))) → laid h (map (λ k. PendGone tx k) ks) ≡
    record h { pending = fold (λ m k. without_value m tx k) h.pending ks }
gone_laid h tx [] = refl
gone_laid h tx (k ∷ ks) = gone_laid (laid_one h (PendGone tx k)) tx ks

-- Entries that set keys in a transaction.
pub set_laid : (h : Held) (tx : List ℕ) (es : List (List (List ℕ) × Pending))
    → laid h (map (λ e. PendSet tx e.0 e.1) es) ≡ record h { pending = fold (λ m e. with_value m tx e.0 e.1) h.pending es }
set_laid h tx [] = refl
set_laid h tx (e ∷ es) = set_laid (laid_one h (PendSet tx e.0 e.1)) tx es

-- The entry for what is owed.
pub owed_laid : (h : Held) (e : Option Entry) (next : Owed) → Tells e OwedSet h.owed next → laid h (option_to_list e) ≡ record h { owed = next }
owed_laid h None next same = ap (λ (o : Owed). record h { owed = o }) (sym same)
owed_laid h (Some e) next tells = ap (λ (x : Entry). laid_one h x) tells.0

-- The entry for the weak keys.
pub weak_laid : (h : Held) (e : Option Entry) (next : List (List (List ℕ))) → Tells e WeakIs h.live.weak next
    → laid h (option_to_list e) ≡ record h { live = record h.live { weak = next } }
weak_laid h None next same = ap (λ (w : List Key). record h { live = record h.live { weak = w } }) (sym same)
weak_laid h (Some e) next tells = ap (λ (x : Entry). laid_one h x) tells.0

apart : (k q : Key) → key_cmp k q ≡ Less → eq_by_cmp key_cmp q k ≡ false
apart k q l = ap is_eq (key_total.antisymm q k ∙ ap ordering_reverse l)

less : (k q : Key) → is_lt (key_cmp k q) ≡ true → key_cmp k q ≡ Less
less k q lt = by (key_cmp k q) lt where
  by : (r : Ordering) → is_lt r ≡ true → r ≡ Less
  by Less lt = refl
  by Equal lt = absurd (cc lt)
  by Greater lt = absurd (cc lt)

-- Writes at rising keys, of which those that change nothing may be left out.
module _ {M A : Type 0} (see : M → List (List ℕ) → A) (write : M → List (List ℕ) → Pending → M) (test : List (List ℕ) × Pending → Bool) (first : M)
    (other : (m : M) (k : List (List ℕ)) (p : Pending) (q : List (List ℕ)) → key_cmp k q ≡ Less → see (write m k p) q ≡ see m q)
    (idle : (m : M) (e : List (List ℕ) × Pending) → test e ≡ false → see m e.0 ≡ see first e.0 → write m e.0 e.1 ≡ m) where
  abbrev Agrees : M → List (Key × Pending) → Type 0
  Agrees m es = AllByRecursion (λ e. see m e.0 ≡ see first e.0) es

  agrees_itself : (es : List (Key × Pending)) → Agrees first es
  agrees_itself [] = tt
  agrees_itself (e ∷ es) = (refl, agrees_itself es)

  agrees_after : (m : M) (k : Key) (p : Pending) (es : List (Key × Pending)) → below_all key_cmp k es ≡ true → Agrees m es → Agrees (write m k p) es
  agrees_after m k p [] below agrees = tt
  agrees_after m k p (e ∷ es) below agrees =
      let both = and_parts (is_lt (key_cmp k e.0)) (below_all key_cmp k es) below in
      (other m k p e.0 (less k e.0 both.0) ∙ agrees.0, agrees_after m k p es both.1 agrees.1)

  skipped : (m : M) (es : List (Key × Pending)) → is_sorted key_cmp es ≡ true → Agrees m es
      → fold (λ n e. write n e.0 e.1) m (filter test es) ≡ fold (λ n e. write n e.0 e.1) m es
  skipped m [] rises agrees = refl
  skipped m (e ∷ es) rises agrees =
      let both = and_parts (below_all key_cmp e.0 es) (is_sorted key_cmp es) rises in
      by (test e) refl (skipped (write m e.0 e.1) es both.1 (agrees_after m e.0 e.1 es both.0 agrees.1)) (skipped m es both.1 agrees.1)
    where
      by : (b : Bool) → test e ≡ b → fold (λ n e. write n e.0 e.1) (write m e.0 e.1) (filter test es) ≡ fold (λ n e. write n e.0 e.1) (write m e.0 e.1) es
          → fold (λ n e. write n e.0 e.1) m (filter test es) ≡ fold (λ n e. write n e.0 e.1) m es
          → fold (λ n e. write n e.0 e.1) m (cond b (e ∷ filter test es) (filter test es)) ≡ fold (λ n e. write n e.0 e.1) (write m e.0 e.1) es
      by true is kept left = kept
      by false is kept left = left ∙ ap (λ (n : M). fold (λ n e. write n e.0 e.1) n es) (sym (idle m e is agrees.0))

  pub all_written : (es : List (List (List ℕ) × Pending)) → is_sorted key_cmp es ≡ true → fold (λ n e. write n e.0 e.1) first (filter test es) ≡ fold
      (λ n e. write n e.0 e.1) first es
  all_written es rises = skipped first es rises (agrees_itself es)

pending_other : (m : Values) (k : Key) (p : Pending) (q : Key) → eq_by_cmp key_cmp q k ≡ false → get (with_pending m k p) q ≡ get m q
pending_other m k (Put v) q differ = get-insert_other key_total m k q v differ
pending_other m k Gone q differ = get-remove_other key_total m k q differ

same_scalar : (v w : Scalar) → not (scalar_eq v w) ≡ false → v ≡ w
same_scalar v w same = (scalar_eq-Decides v w).0 (by (scalar_eq v w) same) where
  by : (b : Bool) → not b ≡ false → b ≡ true
  by true e = refl
  by false e = absurd (cc e)

pending_idle : (m : Values) (k : Key) (p : Pending) (live : Option Scalar) → differs p live ≡ false → get m k ≡ live → with_pending m k p ≡ m
pending_idle m k (Put v) None same is = absurd (cc same)
pending_idle m k (Put v) (Some w) same is = insert-present key_total key_cmp-IsAntisymmetric m k v (is ∙ ap Some (sym (same_scalar v w same)))
pending_idle m k Gone None same is = remove-absent key_total key_cmp-IsAntisymmetric m k is
pending_idle m k Gone (Some w) same is = absurd (cc same)

-- What does not differ need not be laid over the live values.
pub changes_suffice : (m : FinMap key_cmp Scalar) (es : List (List (List ℕ) × Pending)) → is_sorted key_cmp es ≡ true
    → fold (λ n e. with_pending n e.0 e.1) m (filter (λ e. differs e.1 (get m e.0)) es) ≡ fold (λ n e. with_pending n e.0 e.1) m es
changes_suffice m es rises = all_written get with_pending (λ e. differs e.1 (get m e.0)) m
    (λ n k p q l. pending_other n k p q (apart k q l)) (λ n e same is. pending_idle n e.0 e.1 (get m e.0) same is) es rises

kept_at : (a b : Bool) (x y : Option Pending) → b ≡ false → cond a (cond b x y) y ≡ y
kept_at true true x y differ = absurd (cc differ)
kept_at true false x y differ = refl
kept_at false b x y differ = refl

set_other : (m : Pendings) (tx : List ℕ) (k : Key) (p : Pending) (q : Key) → eq_by_cmp key_cmp q k ≡ false
    → value_at (with_value m tx k p) tx q ≡ value_at m tx q
set_other m tx k p q differ = value_at-with bytes_total key_total m tx tx k q p ∙ kept_at (eq_by_cmp bytes_cmp tx tx) (eq_by_cmp key_cmp q k) _ _ differ

pending_is : (o : Option Pending) (p : Pending) → not (is_pending o p) ≡ false → o ≡ Some p
pending_is None p same = absurd (cc same)
pending_is (Some w) p same = ap Some ((pending_eq-Decides w p).0 (by (pending_eq w p) same)) where
  by : (b : Bool) → not b ≡ false → b ≡ true
  by true e = refl
  by false e = absurd (cc e)

-- To set a key as it is changes nothing.
with_same : (m : Pendings) (tx : List ℕ) (k : Key) (p : Pending) → value_at m tx k ≡ Some p → with_value m tx k p ≡ m
with_same m tx k p has =
    ap (insert m tx) (insert-present key_total key_cmp-IsAntisymmetric (inner m tx) k p has)
    ∙ insert-present bytes_total bytes_cmp-IsAntisymmetric m tx (inner m tx) (by (get m tx) refl)
  where
    by : (o : Option (FinMap key_cmp Pending)) → get m tx ≡ o → o ≡ Some (unwrap_or o empty)
    by None is = absurd (cc (sym has ∙ ap (λ (o : Option (FinMap key_cmp Pending)). get (unwrap_or o empty) k) is ∙ get-empty {X = Pending} key_cmp k))
    by (Some i) is = refl

-- What is pending already need not be set.
pub news_suffice : (h : Held) (tx : List ℕ) (es : List (List (List ℕ) × Pending)) → is_sorted key_cmp es ≡ true
    → fold (λ n e. with_value n tx e.0 e.1) h.pending (filter (λ e. is_new h tx e.0 e.1) es) ≡ fold (λ n e. with_value n tx e.0 e.1) h.pending es
news_suffice h tx es rises = all_written (λ m k. value_at m tx k) (λ m k p. with_value m tx k p) (λ e. is_new h tx e.0 e.1) h.pending
    (λ n k p q l. set_other n tx k p q (apart k q l)) (λ n e same is. with_same n tx e.0 e.1 (is ∙ pending_is (value_at h.pending tx e.0) e.1 same)) es rises
