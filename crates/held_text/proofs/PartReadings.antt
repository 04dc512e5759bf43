-- How the parts of what is held are read.
use Rattle.std.proofs.Common.{◌≡◌, ◌≢◌, ℕ, List, [], ◌∷◌, ◌++◌, map, Option, Some, None, IsSome, is_some, unwrap_or, cond}
use Rattle.std.proofs.Common.{IsTrue, ◌||◌, Bool, true, false, Ok, Err, ◌⊎◌, inl, inr, refl, sym, ap, ◌∙◌, subst}
use Rattle.std.specs.FinMap.{FinMap, entries, empty, get, insert, get-insert}
use Rattle.std.specs.Ordering.{eq_by_cmp}
use Rattle.std.proofs.lemmas.Bool.{both_ways}
use Rattle.std.specs.List.{AllByRecursion}
use Rattle.serde_json.specs.Data.{Data}
use Rattle.serde_json.specs.View.{view}
use Rattle.serde_json.specs.declared.value.Value.{Value}
use Rattle.key_names.specs.Order.{bytes_cmp, key_cmp, bytes_total, key_total}
use Rattle.key_names.specs.Key.{is_prefix}
use Rattle.json_trees.specs.Nested.{IsSound, IsWritable}
use Rattle.json_trees.specs.declared.pending.Pending.{Pending}
use Rattle.json_trees.specs.declared.scalar.Scalar.{Scalar}
use Rattle.json_trees.specs.declared.tree_error.TreeError.{TreeError}
use Rattle.json_trees.specs.declared.tree_error.TreeError.TheVariants as tree_error
use Rattle.held_text.specs.HeldText.{Row, pair_data, map_data, transaction_data, pending_maps_data}
use Rattle.held_text.specs.HeldRules.{IsMap, IsTransaction, IsWholeTransaction, ArePending, Reads}
use Rattle.settings_tree.specs.Rule.{IsPrefixFree, Clashes}
use Rattle.held_text.specs.declared.held_error.HeldError.TheVariants.{BadHeld}
use Rattle.settings_maps.specs.Maps.{inner, is_empty}
use Rattle.settings_tree.specs.Pending.{IsPending}
use Rattle.held_text.proofs.MapsLeft.{no_entries, whole-next, stands-next}
use Rattle.held_text.proofs.Fillings.{Filling, filled_key, filled_before}

-- A fault that can be no other is out of memory.
pub memory_left : (e : TreeError) → (e ≢ tree_error.Memory → ⊥) → e ≡ tree_error.Memory
memory_left tree_error.NotJson not = absurd (not (λ is. cc is))
memory_left tree_error.NotObject not = absurd (not (λ is. cc is))
memory_left tree_error.BadKey not = absurd (not (λ is. cc is))
memory_left tree_error.BadValue not = absurd (not (λ is. cc is))
memory_left tree_error.Memory not = refl

-- One of the two holds.
either : (a b : Bool) → IsTrue (a || b) → IsTrue a ⊎ IsTrue b
either true b is = inl refl
either false b is = inr is

-- A row is what has its three parts.
pub row_is : (k : List (List ℕ)) (n : List ℕ) (v : Scalar) (x : Row) → k ≡ x.0 → n ≡ x.1 → v ≡ x.2 → ◌≡◌ {A = Row} (k, n, v) x
row_is k n v x p q r = ap (λ (z : List (List ℕ)). (z, n, v)) p ∙ ap (λ (z : List ℕ). (x.0, z, v)) q ∙ ap (λ (z : Scalar). (x.0, x.1, z)) r

module _ {V : Type 0} (leaf : Data → Option V) (written : V → Data) where
  -- Where there is a leaf, only being out of memory refuses it.
  pub leaf_memory : (d : Data) (v : V) (e : TreeError) → IsWritable leaf v (written v) → d ≡ written v
      → (e ≢ tree_error.Memory → (e ≡ tree_error.BadValue) × (leaf d ≡ None)) → e ≡ tree_error.Memory
  leaf_memory d v e writable is refused = memory_left e (λ other. let none : leaf d ≡ None = (refused other).1 in let some : leaf d ≡ Some v = ap leaf is
      ∙ writable.reads_as in cc (none, some))

  -- A leaf that is read is the one that is there.
  pub leaf_same : (d : Data) (v found : V) → IsWritable leaf v (written v) → d ≡ written v → leaf d ≡ Some found → found ≡ v
  leaf_same d v found writable is read = let some : leaf d ≡ Some v = ap leaf is ∙ writable.reads_as in cc (read, some)

  -- A key of a map that keeps the prefix rule clashes with none of its keys.
  pub no_clash : (d : Data) (done : FinMap key_cmp V) (v : Value) (ws left : List Value) → ws ≡ v ∷ left
      → Filling (pair_data written) (IsSound leaf written) (IsMap leaf written) d done (map view ws)
      → (k : List (List ℕ)) (x : V) → Reads (IsSound leaf written) (pair_data written) (view v) (Ok (k, x)) → Clashes done k
      → Reads (IsMap leaf written) (map_data written) d (Err BadHeld)
  no_clash d done v ws left next filling k x reads clash = record { finds = λ m valid is. absurd (by m valid is (either _ _ clash.overlap)) } where
    has : (m : FinMap key_cmp V) → IsMap leaf written m → d ≡ map_data written m → IsSome (get m k)
    has m valid is = ap is_some (filled_key (pair_data written) (IsSound leaf written) (IsMap leaf written) key_total d done v ws left next filling k x reads m
        valid is)

    stands : (m : FinMap key_cmp V) → IsMap leaf written m → d ≡ map_data written m → IsSome (get m clash.key)
    stands m valid is = filled_before (pair_data written) (IsSound leaf written) (IsMap leaf written) key_total d done v ws left next filling m valid is
        clash.key clash.stands

    by : (m : FinMap key_cmp V) → IsMap leaf written m → d ≡ map_data written m → IsTrue (is_prefix k clash.key) ⊎ IsTrue (is_prefix clash.key k) → ⊥
    by m valid is (inl longer) = clash.differs (sym (valid.free.alone k clash.key (has m valid is) (stands m valid is) longer))
    by m valid is (inr shorter) = clash.differs (valid.free.alone clash.key k (stands m valid is) (has m valid is) shorter)

-- The transactions of maps that keep their rules keep the prefix rule.
whole_from : (m done : FinMap bytes_cmp (FinMap key_cmp Pending)) (rest : List (List ℕ × FinMap key_cmp Pending)) → ArePending m
    → entries m ≡ entries done ++ rest → AllByRecursion IsTransaction rest → AllByRecursion IsWholeTransaction rest
whole_from m done [] are whole h = tt
whole_from m done (t ∷ rest) are whole h = (
  record {
    valid = h.0;
    free = subst IsPrefixFree (ap (λ (o : Option (FinMap key_cmp Pending)). unwrap_or o empty)
        (stands-next bytes_total m done rest t.0 t.1 whole)) (are.rules.rule t.0);
  },
  whole_from m (insert done t.0 t.1) rest are (whole-next bytes_total m done rest t.0 t.1 whole) h.1,
)

-- So all transactions of pending maps that keep their rules are whole.
pub whole_transactions : (m : FinMap bytes_cmp (FinMap key_cmp Pending)) → ArePending m → AllByRecursion IsWholeTransaction (entries m)
whole_transactions m are = whole_from m empty (entries m) are (sym (ap (λ (l : List (List ℕ × FinMap key_cmp Pending)). l ++ entries m) (no_entries bytes_cmp)))
    are.transactions

-- ---- transactions that are put

-- The keys of a transaction with what is pending for them.
abbrev Keys : Type 0
Keys = FinMap key_cmp Pending

-- The keys of a transaction, where one is put.
inner_by : (b : Bool) (i : Keys) (z : Option Keys) → unwrap_or (cond b (Some i) z) empty ≡ cond b i (unwrap_or z empty)
inner_by true i z = refl
inner_by false i z = refl

-- A transaction with a key, and keys that keep the prefix rule, may be put.
pub put_whole : (m : FinMap bytes_cmp Keys) (tx : List ℕ) (i : Keys) → IsPending m → IsPrefixFree i → is_empty i ≡ false → IsPending (insert m tx i)
put_whole m tx i pending free some = record {
  full = record { each = λ k j has. full k j (eq_by_cmp bytes_cmp k tx) (sym (get-insert bytes_total m tx i k) ∙ has) };
  rule = λ u. subst IsPrefixFree (sym (ap (λ (o : Option Keys). unwrap_or o empty) (get-insert bytes_total m tx i u)
      ∙ inner_by (eq_by_cmp bytes_cmp u tx) i (get m u))) (rule u (eq_by_cmp bytes_cmp u tx));
} where
  same_keys : (a b : Keys) → Some a ≡ Some b → a ≡ b
  same_keys a b e = cc e

  full : (k : List ℕ) (j : Keys) (b : Bool) → cond b (Some i) (get m k) ≡ Some j → is_empty j ≡ false
  full k j true has = ap is_empty (sym (same_keys i j has)) ∙ some
  full k j false has = pending.full.each k j has

  rule : (u : List ℕ) (b : Bool) → IsPrefixFree (cond b i (inner m u))
  rule u true = free
  rule u false = pending.rule u

-- A transaction of the pending maps is not empty.
pub not_bare : (d : Data) (done : FinMap bytes_cmp Keys) (v : Value) (ws left : List Value) → ws ≡ v ∷ left
    → Filling transaction_data IsWholeTransaction ArePending d done (map view ws)
    → (tx : List ℕ) (i : Keys) → Reads IsWholeTransaction transaction_data (view v) (Ok (tx, i)) → is_empty i ≡ true
    → Reads ArePending pending_maps_data d (Err BadHeld)
not_bare d done v ws left next filling tx i reads none = record {
  finds = λ m valid is.
      absurd (both_ways (is_empty i) (valid.rules.full.each tx i (filled_key transaction_data IsWholeTransaction ArePending bytes_total d done v ws left next
      filling tx i reads m valid is)) none);
}
