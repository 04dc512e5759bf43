-- The change that lays pairs over a transaction.
use Rattle.std.proofs.Common.{arith, ◌≡◌, ◌<◌, ◌⊎◌, inl, inr, ℕ, suc, List, [], ◌∷◌, length, slice_index_or, Option}
use Rattle.std.proofs.Common.{Some, None, IsSome, is_some, Bool, true, false, cond, filter, refl, sym, ◌∙◌, ap, subst}
use Rattle.std.specs.Prelude.{IsTrue, fold}
use Rattle.std.specs.Ordering.{eq_by_cmp}
use Rattle.std.specs.Cmp.{eq_by_cmp_equiv}
use Rattle.std.specs.List.{list_all}
use Rattle.std.specs.FinMap.{FinMap, empty, get, insert, entries, find, get-empty, get-insert, get-entries, is_sorted, same_map}
use Rattle.std.specs.FinMap.Entries.{below_all}
use Rattle.std.proofs.lemmas.Bool.{and_parts}
use Rattle.key_names.specs.Order.{bytes_cmp, bytes_total, bytes_cmp-IsAntisymmetric, key_cmp, key_total, key_cmp-IsAntisymmetric}
use Rattle.key_names.specs.Key.{is_prefix}
use Rattle.json_trees.specs.declared.pending.Pending.{Pending}
use Rattle.json_trees.specs.declared.pending.Pending.TheVariants.{Gone}
use Rattle.settings_maps.specs.Maps.{inner, with_value}
use Rattle.settings_maps.proofs.NestedMaps.{tied_by, get-insert_same, inner-insert, inner-with, insert-insert}
use Rattle.settings_tree.specs.Change.{is_once, has_bare_name}
use Rattle.settings_tree.specs.Laid.{laid, KeepsPrefixRule, NamesWeak, TellsWeak}
use Rattle.settings_tree.specs.Rule.{IsPrefixFree, Fits}
use Rattle.settings_tree.specs.declared.entry.Entry.{Entry}
use Rattle.settings_tree.specs.declared.held.Held.{Held}
use Rattle.pending_tx.specs.Changes.{NamesOnlyChanges}
use Rattle.pending_tx.specs.Entries.{is_new, patch_entries}
use Rattle.pending_tx.specs.Transactions.{last_of, patched, pending_of, FitPairs}
use Rattle.pending_tx.proofs.Changing.{all_set_change}
use Rattle.pending_tx.proofs.Drops.{names_none, tells_none}
use Rattle.pending_tx.proofs.Effects.{set_laid, news_suffice}
use Rattle.pending_tx.proofs.Named.{set_once, set_bare, set_no_live, set_no_weak}
use Rattle.settings_tree.proofs.Rising.{entries_rise, sorted_some}
use Rattle.settings_tree.proofs.Found.{not_found}

abbrev Key : Type 0
Key = List (List ℕ)

abbrev Pairs : Type 0
Pairs = List (List (List ℕ) × Pending)

abbrev Keyed : Type 0
Keyed = FinMap key_cmp Pending

abbrev Pendings : Type 0
Pendings = FinMap bytes_cmp (FinMap key_cmp Pending)

abbrev put_all : Keyed → Pairs → Keyed
put_all m es = fold (λ n e. insert n e.0 e.1) m es

-- The first where there is one.
abbrev first_of_both : Option Pending → Option Pending → Option Pending
first_of_both None y = y
first_of_both (Some x) y = Some x

-- The last of the pairs counts, over what was there before.
last_over : (es : Pairs) (m n i : Keyed) (q : Key) → get m q ≡ first_of_both (get n q) (get i q)
    → get (put_all m es) q ≡ first_of_both (get (put_all n es) q) (get i q)
last_over [] m n i q is = is
last_over (e ∷ es) m n i q is = last_over es (insert m e.0 e.1) (insert n e.0 e.1) i q
    (get-insert key_total m e.0 e.1 q ∙ ap (cond (eq_by_cmp key_cmp q e.0) (Some e.1)) is ∙ by (eq_by_cmp key_cmp q e.0)
    ∙ ap (λ (o : Option Pending). first_of_both o (get i q)) (sym (get-insert key_total n e.0 e.1 q)))
  where
    by : (b : Bool) → cond b (Some e.1) (first_of_both (get n q) (get i q)) ≡ first_of_both (cond b (Some e.1) (get n q)) (get i q)
    by true = refl
    by false = refl

-- What is there after rising entries are put over a map.
found_over : (i : Keyed) (es : Pairs) (q : Key) → is_sorted key_cmp es ≡ true → get (put_all i es) q ≡ first_of_both (find key_cmp q es) (get i q)
found_over i [] q rises = refl
found_over i (e ∷ es) q rises =
    let both = and_parts (below_all key_cmp e.0 es) (is_sorted key_cmp es) rises in
    found_over (insert i e.0 e.1) es q both.1 ∙ ap (first_of_both (find key_cmp q es)) (get-insert key_total i e.0 e.1 q)
    ∙ by (eq_by_cmp key_cmp q e.0) refl both.0
  where
    by : (b : Bool) → eq_by_cmp key_cmp q e.0 ≡ b → below_all key_cmp e.0 es ≡ true → first_of_both (find key_cmp q es) (cond b (Some e.1) (get i q)) ≡
        first_of_both (cond b (Some e.1) (find key_cmp q es)) (get i q)
    by true is below = ap (λ (o : Option Pending). first_of_both o (Some e.1)) (not_found q e.0 es is below)
    by false is below = refl

-- To put the last pair of each key is to put all pairs.
same_put : (i : Keyed) (pairs : Pairs) → put_all i (entries (last_of pairs)) ≡ put_all i pairs
same_put i pairs = same_map key_total key_cmp-IsAntisymmetric _ _ (λ q.
    found_over i (entries (last_of pairs)) q (entries_rise (last_of pairs)) ∙ ap (λ (o : Option Pending). first_of_both o (get i q))
    (sym (get-entries (last_of pairs) q))
    ∙ sym (last_over pairs i empty i q (ap (λ (o : Option Pending). first_of_both o (get i q)) (sym (get-empty {X = Pending} key_cmp q)))))

some_set : (m : Pendings) (tx : List ℕ) (e : Key × Pending) (es : Pairs) → fold (λ n e. with_value n tx e.0 e.1) m (e ∷ es) ≡ insert m tx
    (put_all (inner m tx) (e ∷ es))
some_set m tx e [] = refl
some_set m tx e (f ∷ es) = some_set (with_value m tx e.0 e.1) tx f es
    ∙ ap (λ (i : Keyed). insert (with_value m tx e.0 e.1) tx (put_all i (f ∷ es)))
    (inner-insert bytes_total bytes_cmp-IsAntisymmetric m tx (insert (inner m tx) e.0 e.1))
    ∙ insert-insert bytes_total bytes_cmp-IsAntisymmetric m tx _ _

stays : (es : Pairs) (m : Keyed) (q : Key) → IsSome (get m q) → IsSome (get (put_all m es) q)
stays [] m q has = has
stays (e ∷ es) m q has = stays es (insert m e.0 e.1) q (subst IsSome (sym (get-insert key_total m e.0 e.1 q)) (by (eq_by_cmp key_cmp q e.0))) where
  by : (b : Bool) → IsSome (cond b (Some e.1) (get m q))
  by true = refl
  by false = has

itself : (k : Key) → eq_by_cmp key_cmp k k ≡ true
itself k = (eq_by_cmp_equiv key_total).refl k

same_set : (m : Pendings) (tx : List ℕ) (pairs es : Pairs) → es ≡ entries (last_of pairs) → fold (λ n e. with_value n tx e.0 e.1) m es ≡ fold
    (λ n e. with_value n tx e.0 e.1) m pairs
same_set m tx [] [] is = refl
same_set m tx [] (e ∷ es) is = absurd (nothing (find key_cmp e.0 (e ∷ es))
    (ap (find key_cmp e.0) is ∙ sym (get-entries (last_of []) e.0) ∙ get-empty {X = Pending} key_cmp e.0)
    (ap (λ b. is_some (cond b (Some e.1) (find key_cmp e.0 es))) (itself e.0))) where
      nothing : (o : Option Pending) → o ≡ None → IsSome o → ⊥
      nothing o none has = absurd (cc (none, has))
same_set m tx (p ∷ pairs) [] is = absurd (nothing (get (last_of (p ∷ pairs)) p.0) (get-entries (last_of (p ∷ pairs)) p.0 ∙ ap (find key_cmp p.0) (sym is))
    (stays pairs (insert empty p.0 p.1) p.0 (ap is_some (get-insert_same key_total empty p.0 p.1)))) where
      nothing : (o : Option Pending) → o ≡ None → IsSome o → ⊥
      nothing o none has = absurd (cc (none, has))
same_set m tx (p ∷ pairs) (e ∷ es) is = some_set m tx e es ∙ ap (insert m tx) (ap (put_all (inner m tx)) is ∙ same_put (inner m tx) (p ∷ pairs))
    ∙ sym (some_set m tx p pairs)

-- What a transaction has after pairs are laid over one.
pub inner-set : (m : Pendings) (tx t : List ℕ) (es : Pairs) → inner (fold (λ n e. with_value n tx e.0 e.1) m es) t ≡ cond (eq_by_cmp bytes_cmp t tx)
    (put_all (inner m tx) es) (inner m t)
inner-set m tx t [] = by (eq_by_cmp bytes_cmp t tx) refl where
  by : (b : Bool) → eq_by_cmp bytes_cmp t tx ≡ b → inner m t ≡ cond b (inner m tx) (inner m t)
  by true is = ap (inner m) (bytes_cmp-IsAntisymmetric t tx (tied_by (bytes_cmp t tx) is))
  by false is = refl
inner-set m tx t (e ∷ es) = inner-set (with_value m tx e.0 e.1) tx t es
    ∙ ap (λ (i : Keyed). cond (eq_by_cmp bytes_cmp t tx) (put_all i es) (inner (with_value m tx e.0 e.1) t))
    (inner-insert bytes_total bytes_cmp-IsAntisymmetric m tx (insert (inner m tx) e.0 e.1))
    ∙ ap (cond (eq_by_cmp bytes_cmp t tx) (put_all (inner m tx) (e ∷ es))) (inner-with bytes_total m tx t e.0 e.1) ∙ by (eq_by_cmp bytes_cmp t tx)
  where
    by : (b : Bool) → cond b (put_all (inner m tx) (e ∷ es)) (cond b (insert (inner m tx) e.0 e.1) (inner m t)) ≡ cond b (put_all (inner m tx) (e ∷ es))
        (inner m t)
    by true = refl
    by false = refl

-- A key of a pair, at its index.
abbrev IsPairAt : Pairs → Key → ℕ → Type 0
IsPairAt es k i = (i < length es) × ((d : Key × Pending) → (slice_index_or es i d).0 ≡ k)

put_at : (m : Keyed) (k : Key) (v : Pending) (q : Key) → IsSome (get (insert m k v) q) → (q ≡ k) ⊎ IsSome (get m q)
put_at m k v q has = by (eq_by_cmp key_cmp q k) refl (subst IsSome (get-insert key_total m k v q) has) where
  by : (b : Bool) → eq_by_cmp key_cmp q k ≡ b → IsSome (cond b (Some v) (get m q)) → (q ≡ k) ⊎ IsSome (get m q)
  by true is here = inl (key_cmp-IsAntisymmetric q k (tied_by (key_cmp q k) is))
  by false is here = inr here

came_from : (m : Keyed) (es : Pairs) (k : Key) → IsSome (get (put_all m es) k) → IsSome (get m k) ⊎ ((i : ℕ) × IsPairAt es k i)
came_from m [] k has = inl has
came_from m (e ∷ es) k has = by (came_from (insert m e.0 e.1) es k has) where
  first : (k ≡ e.0) ⊎ IsSome (get m k) → IsSome (get m k) ⊎ ((i : ℕ) × IsPairAt (e ∷ es) k i)
  first (inl same) = inr (0, (omega arith, λ d. sym same))
  first (inr has) = inl has

  by : IsSome (get (insert m e.0 e.1) k) ⊎ ((i : ℕ) × IsPairAt es k i) → IsSome (get m k) ⊎ ((i : ℕ) × IsPairAt (e ∷ es) k i)
  by (inl there) = first (put_at m e.0 e.1 k there)
  by (inr later) = inr (suc later.0, (omega (arith, later.1.0), λ d. later.1.1 d))

-- Pairs that fit a map and each other keep the rule.
put_free : (m : Keyed) (es : Pairs) → IsPrefixFree m → FitPairs m es → IsPrefixFree (put_all m es)
put_free m es free fit = record { alone = λ k q has other begins. by k q begins (came_from m es k has) (came_from m es q other) } where
  fits : (k : Key) (i : ℕ) (p : Pending) → IsPairAt es k i → Fits m k
  fits k i p at = subst (Fits m) (at.1 (k, p)) (fit.fit i (k, p) at.0)

  gone : Pending
  gone = Gone

  by : (k q : Key) → IsTrue (is_prefix k q) → IsSome (get m k) ⊎ ((i : ℕ) × IsPairAt es k i) → IsSome (get m q) ⊎ ((i : ℕ) × IsPairAt es q i) → k ≡ q
  by k q begins (inl a) (inl b) = free.alone k q a b begins
  by k q begins (inl a) (inr b) = let f : Fits m q = fits q b.0 gone b.1 in f.shorter.alone k a begins
  by k q begins (inr a) (inl b) = let f : Fits m k = fits k a.0 gone a.1 in f.longer.alone q b begins
  by k q begins (inr a) (inr b) =
      let at : (slice_index_or es a.0 (k, gone)).0 ≡ k = a.1.1 (k, gone) in
      let too : (slice_index_or es b.0 (q, gone)).0 ≡ q = b.1.1 (q, gone) in
      sym at ∙ fit.apart a.0 (k, gone) a.1.0 b.0 (q, gone) b.1.0 (subst (λ (z : Key). IsTrue (is_prefix z (slice_index_or es b.0 (q, gone)).0)) (sym at)
      (subst (λ (z : Key). IsTrue (is_prefix k z)) (sym too) begins)) ∙ too

module _ (h : Held) (tx : List ℕ) (pairs : List (List (List ℕ) × Pending)) where
  abbrev news : Pairs
  news = filter (λ e. is_new h tx e.0 e.1) (entries (last_of pairs))

  news_rise : is_sorted key_cmp news ≡ true
  news_rise = sorted_some key_cmp (λ e. is_new h tx e.0 e.1) (entries (last_of pairs)) (entries_rise (last_of pairs))

  patch_laid : laid h (patch_entries h tx pairs) ≡ patched h tx pairs
  patch_laid = set_laid h tx news ∙ ap (λ (m : Pendings). record h { pending = m })
      (news_suffice h tx (entries (last_of pairs)) (entries_rise (last_of pairs)) ∙ same_set h.pending tx pairs (entries (last_of pairs)) refl)

  patched_rule : KeepsPrefixRule h → FitPairs (pending_of h tx) pairs → KeepsPrefixRule (patched h tx pairs)
  patched_rule rule fit = record {
    live = rule.live;
    pending = λ t. subst IsPrefixFree (sym (inner-set h.pending tx t pairs)) (by t (eq_by_cmp bytes_cmp t tx));
  } where
    by : (t : List ℕ) (b : Bool) → IsPrefixFree (cond b (put_all (inner h.pending tx) pairs) (inner h.pending t))
    by t true = put_free (inner h.pending tx) pairs (rule.pending tx) fit
    by t false = rule.pending t

  -- A change that lays the pairs over the transaction.
  pub record PatchesTo (es : List Entry) : Type 0 where
    pub once : is_once es ≡ true
    pub bare : list_all has_bare_name es ≡ true
    pub gives : laid h es ≡ patched h tx pairs
    pub rule : KeepsPrefixRule h → FitPairs (pending_of h tx) pairs → KeepsPrefixRule (laid h es)
    pub weak : NamesWeak h es
    pub told : TellsWeak h es
    pub changes : NamesOnlyChanges h es

  pub patch_made : (es : List Entry) → es ≡ patch_entries h tx pairs → PatchesTo es
  patch_made es is = subst PatchesTo (sym is) (record {
    once = set_once tx news news_rise;
    bare = set_bare tx news;
    gives = patch_laid;
    rule = λ rule fit. subst KeepsPrefixRule (sym patch_laid) (patched_rule rule fit);
    weak = names_none h (patch_entries h tx pairs) (set_no_weak tx news);
    told = tells_none h (patch_entries h tx pairs) (λ k. set_no_live tx news k);
    changes = record { each = all_set_change h tx (entries (last_of pairs)) };
  })
