-- Metadata that is read from its rows, one after another.
use Rattle.std.proofs.Common.{◌≡◌, ℕ, List, [], ◌∷◌, ◌++◌, map, length, Option, Some, None, Bool, true, false, cond}
use Rattle.std.proofs.Common.{IsSome, is_some, IsTrue, unwrap_or, fold, append_assoc, append-nil, Result, Ok, Err, refl, sym, ap, ◌∙◌, subst}
use Rattle.std.specs.List.{flat_map, AllByRecursion}
use Rattle.std.specs.Ordering.{eq_by_cmp}
use Rattle.std.specs.FinMap.{FinMap, entries, empty, get, insert, len, len-entries}
use Rattle.std.proofs.lemmas.Bool.{both_ways}
use Rattle.std.specs.Prelude.{IsErrAnd}
use Rattle.serde_json.specs.Data.{Data}
use Rattle.serde_json.specs.Find.{as_array}
use Rattle.serde_json.specs.View.{view, items_view}
use Rattle.serde_json.specs.declared.value.Value.{Value}
use Rattle.key_names.specs.Order.{bytes_cmp, key_cmp, bytes_total, key_total, key_cmp-IsAntisymmetric}
use Rattle.json_trees.specs.declared.scalar.Scalar.{Scalar}
use Rattle.settings_maps.specs.Maps.{IsFull, value_at, with_value, is_empty}
use Rattle.settings_maps.specs.TxName.{is_meta_name}
use Rattle.settings_maps.proofs.NestedMaps.{inner-insert, insert-insert, value_at-with, value_at-with_same}
use Rattle.settings_tree.specs.Content.{Contents}
use Rattle.held_text.specs.HeldText.{Row, rows, rows_at, row_data, metadata_data}
use Rattle.held_text.specs.HeldRules.{IsRow, IsMetadata, Reads, PutsRows}
use Rattle.held_text.specs.declared.held_error.HeldError.{HeldError}
use Rattle.held_text.specs.declared.held_error.HeldError.TheVariants.{BadHeld, Memory}
use Rattle.held_text.proofs.Readings.{listed}
use Rattle.held_text.proofs.MapsLeft.{head_is, tail_is, no_entries, whole-next, new-next, stands-next, refilled}

-- What is at a key, by name.
abbrev Names : Type 0
Names = FinMap bytes_cmp Scalar

-- Metadata, by key and name.
abbrev Table : Type 0
Table = FinMap key_cmp Names

-- The metadata with a row put.
abbrev pub with_row : Table → Row → Table
with_row m row = with_value m row.0 row.1 row.2

-- The metadata with rows put, one after another.
abbrev pub with_rows : Table → List Row → Table
with_rows m rs = fold with_row m rs

-- Rows that are put one after another.
with_rows-append : (m : Table) (rs ss : List Row) → with_rows m (rs ++ ss) ≡ with_rows (with_rows m rs) ss
with_rows-append m [] ss = refl
with_rows-append m (r ∷ rs) ss = with_rows-append (with_row m r) rs ss

-- ---- all rows make the metadata

-- The rows of a key that is there put its names.
names_put : (m : Table) (k : List (List ℕ)) (i : Names) (ns : List (List ℕ × Scalar)) → with_rows (insert m k i) (map (λ e. (k, e.0, e.1)) ns) ≡ insert m k
    (fold (λ j e. insert j e.0 e.1) i ns)
names_put m k i [] = refl
names_put m k i (e ∷ ns) =
    ap (λ (t : Table). with_rows t (map (λ e. (k, e.0, e.1)) ns))
    (ap (λ (j : Names). insert (insert m k i) k (insert j e.0 e.1)) (inner-insert key_total key_cmp-IsAntisymmetric m k i)
    ∙ insert-insert key_total key_cmp-IsAntisymmetric m k i (insert i e.0 e.1))
    ∙ names_put m k (insert i e.0 e.1) ns

-- The rows of a new key make it, where it has a name.
first_name : (m : Table) (k : List (List ℕ)) (ns : List (List ℕ × Scalar)) → get m k ≡ None → (length ns ≡ 0 → ⊥)
    → with_rows m (map (λ e. (k, e.0, e.1)) ns) ≡ insert m k (fold (λ j e. insert j e.0 e.1) empty ns)
first_name m k [] none some = absurd (some refl)
first_name m k (e ∷ ns) none some =
    ap (λ (o : Option Names). with_rows (insert m k (insert (unwrap_or o empty) e.0 e.1)) (map (λ e. (k, e.0, e.1)) ns)) none
    ∙ names_put m k (insert empty e.0 e.1) ns

-- The rows of a new key put what is there.
key_put : (m : Table) (k : List (List ℕ)) (i : Names) → get m k ≡ None → is_empty i ≡ false → with_rows m (rows_at (k, i)) ≡ insert m k i
key_put m k i none some =
    first_name m k (entries i) none (λ short. both_ways (is_empty i) some (is_no i (len-entries i ∙ short)))
    ∙ ap (insert m k) (refilled bytes_total i empty (entries i) (sym (ap (λ (l : List (List ℕ × Scalar)). l ++ entries i) (no_entries bytes_cmp))))
  where
    is_no : (i : Names) → len i ≡ 0 → is_empty i ≡ true
    is_no i none = rw none refl

-- The rows of the entries that are left make the metadata.
keys_put : (m done : Table) (rest : List (List (List ℕ) × Names)) → IsFull m → entries m ≡ entries done ++ rest → with_rows done (flat_map rows_at rest) ≡ m
keys_put m done [] full whole = refilled key_total m done [] whole
keys_put m done (e ∷ rest) full whole =
    with_rows-append done (rows_at e) (flat_map rows_at rest)
    ∙ ap (λ (t : Table). with_rows t (flat_map rows_at rest)) (key_put done e.0 e.1 (new-next key_total m done rest e.0 e.1 whole)
    (full.each e.0 e.1 (stands-next key_total m done rest e.0 e.1 whole)))
    ∙ keys_put m (insert done e.0 e.1) rest full (whole-next key_total m done rest e.0 e.1 whole)

-- All rows make the metadata.
all_put : (m : Table) → IsFull m → with_rows empty (rows m) ≡ m
all_put m full = keys_put m empty (entries m) full (sym (ap (λ (l : List (List (List ℕ) × Names)). l ++ entries m) (no_entries key_cmp)))

-- ---- what a row put stays

-- What is there stays, whichever way the tests go.
still : (b c : Bool) (x y : Option Scalar) → IsSome x → IsSome y → IsSome (cond b (cond c x y) y)
still true true x y hx hy = hx
still true false x y hx hy = hy
still false c x y hx hy = hy

-- A value stays while rows are put.
stays : (m : Table) (rs : List Row) (k : List (List ℕ)) (n : List ℕ) → IsSome (value_at m k n) → IsSome (value_at (with_rows m rs) k n)
stays m [] k n has = has
stays m (r ∷ rs) k n has = stays (with_row m r) rs k n (subst IsSome (sym (value_at-with key_total bytes_total m r.0 k r.1 n r.2))
    (still (eq_by_cmp key_cmp k r.0) (eq_by_cmp bytes_cmp n r.1) (Some r.2) (value_at m k n) refl has))

-- Each row of the metadata is in it.
row_stands : (m : Table) (first rest : List Row) (r : Row) → IsFull m → rows m ≡ first ++ r ∷ rest → IsSome (value_at m r.0 r.1)
row_stands m first rest r full whole =
    subst (λ (t : Table). IsSome (value_at t r.0 r.1)) (sym (with_rows-append empty first (r ∷ rest)) ∙ ap (with_rows empty) (sym whole) ∙ all_put m full)
    (stays (with_row (with_rows empty first) r) rest r.0 r.1 (put_there (with_rows empty first)))
  where
    put_there : (t : Table) → IsSome (value_at (with_row t r) r.0 r.1)
    put_there t = ap is_some (value_at-with_same key_total bytes_total t r.0 r.1 r.2)

-- ---- the steps

-- The first rows of m are put, and the JSON values that are left are those of the others.
pub record RowsLeft (m done : Table) (left : List Data) : Type 0 where
  pub first : List Row
  pub rest : List Row
  pub whole : rows m ≡ first ++ rest
  pub made : done ≡ with_rows empty first
  pub are : left ≡ map row_data rest
  pub valid : AllByRecursion IsRow rest

-- The value d is that of the next row.
pub record NextRow (m done : Table) (d : Data) (left : List Data) : Type 0 where
  pub row : Row
  pub is : d ≡ row_data row
  pub valid : IsRow row
  pub named : IsTrue (is_meta_name row.1)
  pub after : RowsLeft m (with_row done row) left

-- At first all are left.
pub rows_all : (m done : Table) (left : List Data) → IsMetadata m → left ≡ map row_data (rows m) → done ≡ empty → RowsLeft m done left
rows_all m done left h are none = record { first = []; rest = rows m; whole = refl; made = none; are = are; valid = h.valid }

-- Of some that are left the first is next.
pub rows_next : (m done : Table) (d : Data) (left : List Data) → IsMetadata m → RowsLeft m done (d ∷ left) → NextRow m done d left
rows_next m done d left is h = by h.rest h.whole h.are h.valid where
  by : (rest : List Row) → rows m ≡ h.first ++ rest → d ∷ left ≡ map row_data rest → AllByRecursion IsRow rest → NextRow m done d left
  by [] whole are valid = absurd (cc are)
  by (r ∷ rest) whole are valid = record {
    row = r;
    is = head_is d (row_data r) left (map row_data rest) are;
    valid = valid.0;
    named = is.named.bare r.0 r.1 (row_stands m h.first rest r is.full whole);
    after = record {
      first = h.first ++ r ∷ [];
      rest = rest;
      whole = whole ∙ sym (append_assoc h.first (r ∷ []) rest);
      made = ap (λ (t : Table). with_row t r) h.made ∙ sym (with_rows-append empty h.first (r ∷ []));
      are = tail_is d (row_data r) left (map row_data rest) are;
      valid = valid.1;
    };
  }

-- Where none is left all are put.
pub rows_none : (m done : Table) → IsMetadata m → RowsLeft m done [] → done ≡ m
rows_none m done is h = by h.rest h.whole h.are where
  by : (rest : List Row) → rows m ≡ h.first ++ rest → [] ≡ map row_data rest → done ≡ m
  by [] whole are = h.made ∙ ap (with_rows empty) (sym (whole ∙ append-nil h.first)) ∙ all_put m is.full
  by (r ∷ rest) whole are = absurd (cc are)

-- ---- metadata that is put into a content

-- Of each metadata whose JSON value is d, the first rows are put, and the values that are left are those of the others.
pub record RowsFilling (d : Data) (old now : Contents) (left : List Data) : Type 0 where
  pub each : (m : Table) → IsMetadata m → old.metadata ≡ empty → d ≡ metadata_data m → RowsLeft m now.metadata left
  pub same : now ≡ record old { metadata = now.metadata }

-- At first all are left.
pub rows_begun : (d : Data) (vs ws : List Value) (old : Contents) → as_array d ≡ Some (items_view vs) → ws ≡ vs → RowsFilling d old old (map view ws)
rows_begun d vs ws old read same = record {
  each = λ m valid none is. rows_all m old.metadata (map view ws) valid (ap (map view) same ∙ listed d vs (map row_data (rows m)) read is) none;
  same = refl;
}

module _ (d : Data) (old now : Contents) (v : Value) (ws left : List Value) (next : ws ≡ v ∷ left) (filling : RowsFilling d old now (map view ws)) where
  -- The first of the values that are left is that of the next row.
  one : (m : Table) → IsMetadata m → old.metadata ≡ empty → d ≡ metadata_data m → NextRow m now.metadata (view v) (map view left)
  one m valid none is = rows_next m now.metadata (view v) (map view left) valid
      (subst (RowsLeft m now.metadata) (ap (map view) next) (filling.each m valid none is))

  -- The next row is put.
  pub rows_put : (k : List (List ℕ)) (n : List ℕ) (x : Scalar) (later : Contents) → Reads IsRow row_data (view v) (Ok (k, n, x))
      → later ≡ record now { metadata = with_value now.metadata k n x } → RowsFilling d old later (map view left)
  rows_put k n x later reads put = record {
    each = λ m valid none is.
        let r = one m valid none is in
        let same : ◌≡◌ {A = Row} (k, n, x) r.row = reads.finds r.row r.valid r.is in
        subst (λ (t : Table). RowsLeft m t (map view left)) (sym (ap (λ (c : Contents). c.metadata) put ∙ ap (with_row now.metadata) same)) r.after;
    same = put ∙ ap (λ (c : Contents). record c { metadata = with_value now.metadata k n x }) filling.same
        ∙ ap (λ (t : Table). record old { metadata = t }) (sym (ap (λ (c : Contents). c.metadata) put));
  }

  -- Its name is one of metadata.
  pub rows_unnamed : (k : List (List ℕ)) (n : List ℕ) (x : Scalar) → Reads IsRow row_data (view v) (Ok (k, n, x)) → is_meta_name n ≡ false
      → PutsRows d old now (Err BadHeld)
  rows_unnamed k n x reads not = record {
    puts = λ m valid none is.
        let r = one m valid none is in
        let same : ◌≡◌ {A = Row} (k, n, x) r.row = reads.finds r.row r.valid r.is in
        absurd (both_ways (is_meta_name n) not (subst (λ (q : Row). IsTrue (is_meta_name q.1)) (sym same) r.named));
  }

  -- Where it was not read, it ran out of memory.
  pub rows_refused : (e : HeldError) → Reads IsRow row_data (view v) (Err e) → (m : Table) → IsMetadata m → old.metadata ≡ empty → d ≡ metadata_data m
      → e ≡ Memory
  rows_refused e reads m valid none is = let r = one m valid none is in reads.finds r.row r.valid r.is

-- At last all are put.
pub rows_ended : (d : Data) (old now : Contents) (ws : List Value) → ws ≡ [] → RowsFilling d old now (map view ws) → PutsRows d old now (Ok tt)
rows_ended d old now ws none filling = record {
  puts = λ m valid bare is. filling.same ∙ ap (λ (t : Table). record old { metadata = t })
      (rows_none m now.metadata valid (subst (RowsLeft m now.metadata) (ap (map view) none) (filling.each m valid bare is)));
}

-- An error is right where no metadata of this value leaves another one than out of memory.
pub err_puts : (d : Data) (old new : Contents) (Q : HeldError → Type 0) (r : Result (Unit {0}) HeldError) → IsErrAnd r Q
    → ((m : Table) → IsMetadata m → old.metadata ≡ empty → d ≡ metadata_data m → (e : HeldError) → Q e → e ≡ Memory) → PutsRows d old new r
err_puts d old new Q (Ok u) none memory = absurd none
err_puts d old new Q (Err e) gives memory = record { puts = λ m valid bare is. memory m valid bare is e gives }
