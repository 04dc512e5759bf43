-- Maps that are filled from JSON lists of their entries.
use Rattle.std.proofs.Common.{◌≡◌, ◌<◌, ℕ, List, [], ◌∷◌, map, length, Some, IsSome, Ok, Err, sym, ap, ◌∙◌, subst, arith}
use Rattle.std.specs.declared.cmp.Ordering.{Ordering}
use Rattle.std.specs.Cmp.{IsTotalOrder}
use Rattle.std.specs.FinMap.{FinMap, entries, empty, get, insert}
use Rattle.std.specs.List.{AllByRecursion}
use Rattle.std.proofs.lemmas.List.{length-map}
use Rattle.serde_json.specs.Data.{Data}
use Rattle.serde_json.specs.Find.{as_array}
use Rattle.serde_json.specs.View.{view, items_view}
use Rattle.serde_json.specs.declared.value.Value.{Value}
use Rattle.held_text.specs.HeldText.{list_data}
use Rattle.held_text.specs.HeldRules.{Reads}
use Rattle.held_text.specs.declared.held_error.HeldError.{HeldError}
use Rattle.held_text.specs.declared.held_error.HeldError.TheVariants.{Memory}
use Rattle.held_text.proofs.MapsLeft.{Left, Next, left_all, left_next, left_none, left_stands}
use Rattle.held_text.proofs.Readings.{listed}

-- A pair is what has its two parts.
pub pair_is : {A B : Type 0} (a : A) (b : B) (x : A × B) → a ≡ x.0 → b ≡ x.1 → ◌≡◌ {A = A × B} (a, b) x
pair_is a b x p q = ap (λ (z : _). (z, b)) p ∙ ap (λ (z : _). (x.0, z)) q

module _ {K X : Type 0} {R : K → K → Ordering} (as_data : K × X → Data) (P : K × X → Type 0) (Valid : FinMap R X → Type 0) where
  -- The JSON value of a map.
  abbrev whole_data : FinMap R X → Data
  whole_data m = list_data (map as_data (entries m))

  -- Of each map whose JSON value is d, the first entries are done, and the values that are left are those of the others.
  pub record Filling (d : Data) (done : FinMap R X) (left : List Data) : Type 0 where
    pub each : (m : FinMap R X) → Valid m → d ≡ whole_data m → Left as_data P m done left

  -- At first all are left.
  pub filling_begun : ((m : FinMap R X) → Valid m → AllByRecursion P (entries m)) → (d : Data) (vs ws : List Value) (done : FinMap R X)
      → as_array d ≡ Some (items_view vs) → ws ≡ vs → done ≡ empty → Filling d done (map view ws)
  filling_begun sound d vs ws done read same none = record {
    each = λ m valid is. left_all as_data P m done (map view ws) (sound m valid) (ap (map view) same ∙ listed d vs (map as_data (entries m)) read is) none;
  }

  module _ (o : IsTotalOrder R) (d : Data) (done : FinMap R X) (v : Value) (ws left : List Value) (next : ws ≡ v ∷ left)
      (filling : Filling d done (map view ws)) where
    -- The first of the values that are left is that of the next entry.
    one : (m : FinMap R X) → Valid m → d ≡ whole_data m → Next as_data P m done (view v) (map view left)
    one m valid is = left_next as_data P o m done (view v) (map view left) (subst (Left as_data P m done) (ap (map view) next) (filling.each m valid is))

    -- The next entry is the one that was read.
    pub filled_key : (k : K) (x : X) → Reads P as_data (view v) (Ok (k, x)) → (m : FinMap R X) → Valid m → d ≡ whole_data m → get m k ≡ Some x
    filled_key k x reads m valid is =
        let n = one m valid is in
        let same : ◌≡◌ {A = K × X} (k, x) (n.key, n.value) = reads.finds (n.key, n.value) n.valid n.is in
        ap (λ (e : K × X). get m e.0) same ∙ n.stands ∙ ap (λ (e : K × X). Some e.1) (sym same)

    -- It was put, and the others are left.
    pub filling_next : (k : K) (x : X) (now : FinMap R X) → Reads P as_data (view v) (Ok (k, x)) → now ≡ insert done k x → Filling d now (map view left)
    filling_next k x now reads put = record {
      each = λ m valid is.
          let n = one m valid is in
          let same : ◌≡◌ {A = K × X} (k, x) (n.key, n.value) = reads.finds (n.key, n.value) n.valid n.is in
          subst (λ (w : FinMap R X). Left as_data P m w (map view left)) (sym (put ∙ ap (λ (e : K × X). insert done e.0 e.1) same)) n.after;
    }

    -- Where it was not read, it ran out of memory.
    pub filling_refused : (e : HeldError) → Reads P as_data (view v) (Err e) → (m : FinMap R X) → Valid m → d ≡ whole_data m → e ≡ Memory
    filling_refused e reads m valid is = let n = one m valid is in reads.finds (n.key, n.value) n.valid n.is

    -- What was done before is in the map.
    pub filled_before : (m : FinMap R X) → Valid m → d ≡ whole_data m → (q : K) → IsSome (get done q) → IsSome (get m q)
    filled_before m valid is q has = left_stands as_data P m done (map view ws) q (filling.each m valid is) has

  -- At last the map is done.
  pub filling_done : (d : Data) (done : FinMap R X) (ws : List Value) → ws ≡ [] → Filling d done (map view ws) → Reads Valid whole_data d (Ok done)
  filling_done d done ws none filling = record {
    finds = λ m valid is. left_none as_data P m done
        (subst (Left as_data P m done) (ap (map view) none) (filling.each m valid is));
  }

-- No list has fewer values than it is made of.
pub too_few : (vs left : List Value) (ds : List Data) (n : ℕ) → left ≡ vs → map view vs ≡ ds → length left < n → length ds ≡ n → ⊥
too_few vs left ds n same are few many = omega (arith, ap length same, ap length are, length-map vs view)
