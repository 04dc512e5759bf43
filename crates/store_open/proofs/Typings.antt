-- Whether what is held fits a table, key by key.
use Rattle.std.proofs.Common.{◌≡◌, ℕ, List, [], ◌∷◌, Option, Some, None, IsSome, is_some, Bool, true, false, refl, sym, ◌∙◌, ap, subst}
use Rattle.std.specs.Prelude.{IsTrue, ◌↔◌, unwrap_or, IfOk, Result, Ok, Err}
use Rattle.key_names.specs.Key.{is_prefix}
use Rattle.settings_tree.specs.Content.{settings_key}
use Rattle.std.specs.FinMap.{FinMap, entries, get, empty, get-empty}
use Rattle.key_names.specs.Order.{key_cmp, bytes_total, key_total, bytes_cmp-IsAntisymmetric, key_cmp-IsAntisymmetric}
use Rattle.json_trees.specs.declared.scalar.Scalar.{Scalar}
use Rattle.json_trees.specs.declared.pending.Pending.{Pending}
use Rattle.settings_maps.specs.Maps.{inner, value_at, IsLeastKeyAfter, HasNoneAfter}
use Rattle.settings_tree.proofs.Walks.{none_past}
use Rattle.settings_tree.specs.declared.held.Held.{Held}
use Rattle.typed_settings.specs.Row.{IsTyped}
use Rattle.typed_settings.specs.declared.row.Row.{Row}
use Rattle.settings_machine.specs.Typed.{IsTypedHeld, is_of_image, IsTaken, MayPend, HasTypedSettings}
use Rattle.store_open.specs.Typed.{HasTypedPendingOf, HasTypedPending, IsFirstBadLive, IsFirstBadPendingOf, IsFirstBadPending}
use Rattle.store_open.proofs.Walked.{Fine, FineBefore, fine_none, fine_next, fine_all, fine_before, before_all, least_left}

present : {A : Type 0} (o : Option A) (x : A) → o ≡ Some x → IsSome o
present o x is = ap is_some is

-- what is no implication
pub may_not : (b : Bool) (P : Type 0) → ((b ≡ false → P) → ⊥) → (b ≡ false) × (P → ⊥)
may_not false P not = (refl, λ p. not (λ e. p))
may_not true P not = absurd (not (λ e. absurd (cc e)))

-- what is pending at a key that begins with `settings` may be there where it is typed
pub may_typed : (types : List Row) (k : List (List ℕ)) (v : Pending) {E : Type 0} (r : Result Bool E) → IfOk r (λ t. IsTrue t ↔ IsTaken types k v)
    → is_prefix settings_key k ≡ true → IfOk r (λ m. IsTrue m ↔ MayPend types k v)
may_typed types k v (Ok t) is setting = (λ true_is. record { setting = setting; taken = is.0 true_is }, λ may. is.1 may.taken)
may_typed types k v (Err e) is setting = tt

module _ (types : List Row) (held : Held) where
  -- the live value at the key may be there
  abbrev pub FineLive : List (List ℕ) → Type 0
  FineLive k = (v : Scalar) → get held.live.values k ≡ Some v → is_of_image k ≡ false → IsTyped types k v

  -- those before these last live values may be there
  abbrev pub LiveBefore : List (List (List ℕ) × Scalar) → Type 0
  LiveBefore left = FineBefore FineLive held.live.values left

  pub live_first : (left : List (List (List ℕ) × Scalar)) → left ≡ entries held.live.values → LiveBefore left
  live_first = before_all key_total key_cmp-IsAntisymmetric FineLive held.live.values

  one_value : (k : List (List ℕ)) (v w : Scalar) → get held.live.values k ≡ Some v → get held.live.values k ≡ Some w → v ≡ w
  one_value k v w is also = let same : Some v ≡ Some w = sym is ∙ also in cc same

  pub live_next : (left more : List (List (List ℕ) × Scalar)) (k : List (List ℕ)) (v : Scalar) → left ≡ (k, v) ∷ more → LiveBefore left
      → (is_of_image k ≡ false → IsTyped types k v) → LiveBefore more
  live_next left more k v is before here =
      let next = least_left key_total key_cmp-IsAntisymmetric FineLive held.live.values left more k v is before in record {
        after = Some k;
        rest = next.1;
        fine = fine_next key_total key_cmp-IsAntisymmetric FineLive held.live.values before.after k next.0.least before.fine
            (λ w also setting. subst (IsTyped types k) (one_value k v w next.0.stands also) (here setting));
      }

  pub live_all : (left : List (List (List ℕ) × Scalar)) → left ≡ [] → LiveBefore left → HasTypedSettings types held.live
  live_all left none before = record {
    typed = λ k v is setting. fine_all key_total key_cmp-IsAntisymmetric FineLive held.live.values before.after
        (none_past key_total key_cmp-IsAntisymmetric held.live.values before.after (sym before.rest ∙ none)) before.fine k
        (present _ v is) v is setting;
  }

  pub live_bad : (left more : List (List (List ℕ) × Scalar)) (k : List (List ℕ)) (v : Scalar) → left ≡ (k, v) ∷ more → LiveBefore left
      → is_of_image k ≡ false → (IsTyped types k v → ⊥) → IsFirstBadLive types held k
  live_bad left more k v is before setting bad =
      let next = least_left key_total key_cmp-IsAntisymmetric FineLive held.live.values left more k v is before in record {
        bad = record { value = v; there = next.0.stands; setting = setting; untyped = bad };
        first = λ q less ill. ill.untyped (fine_before key_total key_cmp-IsAntisymmetric FineLive held.live.values before.after k next.0.least before.fine q
            (present _ ill.value ill.there) less ill.value ill.there ill.setting);
      }

  module _ (tx : List ℕ) where
    -- what the transaction has that is there
    pub values_of : (m : FinMap key_cmp Pending) → Some m ≡ get held.pending tx → m ≡ inner held.pending tx
    values_of m is = ap (λ (o : Option (FinMap key_cmp Pending)). unwrap_or o empty) is

    abbrev pub FinePending : List (List ℕ) → Type 0
    FinePending k = (v : Pending) → value_at held.pending tx k ≡ Some v → MayPend types k v

    -- those before these last pending ones may be there
    abbrev pub PendingBefore : List (List (List ℕ) × Pending) → Type 0
    PendingBefore left = FineBefore FinePending (inner held.pending tx) left

    pub pending_first : (left : List (List (List ℕ) × Pending)) → left ≡ entries (inner held.pending tx) → PendingBefore left
    pending_first = before_all key_total key_cmp-IsAntisymmetric FinePending (inner held.pending tx)

    one_pending : (k : List (List ℕ)) (v w : Pending) → value_at held.pending tx k ≡ Some v → value_at held.pending tx k ≡ Some w → v ≡ w
    one_pending k v w is also = let same : Some v ≡ Some w = sym is ∙ also in cc same

    pub pending_next : (left more : List (List (List ℕ) × Pending)) (k : List (List ℕ)) (v : Pending) → left ≡ (k, v) ∷ more → PendingBefore left
        → MayPend types k v → PendingBefore more
    pending_next left more k v is before here =
        let next = least_left key_total key_cmp-IsAntisymmetric FinePending (inner held.pending tx) left more k v is before in record {
          after = Some k;
          rest = next.1;
          fine = fine_next key_total key_cmp-IsAntisymmetric FinePending (inner held.pending tx) before.after k next.0.least before.fine
              (λ w also. subst (MayPend types k) (one_pending k v w next.0.stands also) here);
        }

    pub pending_all : (left : List (List (List ℕ) × Pending)) → left ≡ [] → PendingBefore left → HasTypedPendingOf types held tx
    pending_all left none before = record {
      pending = λ k v is. fine_all key_total key_cmp-IsAntisymmetric FinePending (inner held.pending tx) before.after
          (none_past key_total key_cmp-IsAntisymmetric (inner held.pending tx) before.after (sym before.rest ∙ none)) before.fine k
          (present _ v is) v is;
    }

    pub pending_bad : (left more : List (List (List ℕ) × Pending)) (k : List (List ℕ)) (v : Pending) → left ≡ (k, v) ∷ more → PendingBefore left
        → (MayPend types k v → ⊥) → IsFirstBadPendingOf types held tx k
    pending_bad left more k v is before bad =
        let next = least_left key_total key_cmp-IsAntisymmetric FinePending (inner held.pending tx) left more k v is before in record {
          bad = record { value = v; there = next.0.stands; unfit = bad };
          first = λ q less ill. ill.unfit (fine_before key_total key_cmp-IsAntisymmetric FinePending (inner held.pending tx) before.after k next.0.least
              before.fine q (present _ ill.value ill.there) less ill.value ill.there);
        }

  abbrev pub TxUpTo : Option (List ℕ) → Type 0
  TxUpTo after = Fine (HasTypedPendingOf types held) held.pending after

  pub tx_none : TxUpTo None
  tx_none = fine_none bytes_total bytes_cmp-IsAntisymmetric (HasTypedPendingOf types held) held.pending

  pub tx_next : (after : Option (List ℕ)) (tx : List ℕ) → IsLeastKeyAfter held.pending after tx → TxUpTo after → HasTypedPendingOf types held tx
      → TxUpTo (Some tx)
  tx_next after tx next fine here = fine_next bytes_total bytes_cmp-IsAntisymmetric (HasTypedPendingOf types held) held.pending after tx next.least fine here

  -- a transaction that is not there has nothing pending
  pub absent : (tx : List ℕ) → get held.pending tx ≡ None → HasTypedPendingOf types held tx
  absent tx none = record {
    pending = λ k v is. absurd (cc (sym is ∙ ap (λ (o : Option (FinMap key_cmp Pending)). get (unwrap_or o empty) k) none
        ∙ get-empty key_cmp k));
  }

  each_tx : (P : List ℕ → Type 0) (tx : List ℕ) → (IsSome (get held.pending tx) → HasTypedPendingOf types held tx) → HasTypedPendingOf types held tx
  each_tx P tx there = by (get held.pending tx) refl where
    by : (o : Option (FinMap key_cmp Pending)) → get held.pending tx ≡ o → HasTypedPendingOf types held tx
    by None is = absent tx is
    by (Some i) is = there (present _ i is)

  pub tx_all : (after : Option (List ℕ)) → HasNoneAfter held.pending after → TxUpTo after → HasTypedPending types held
  tx_all after end fine = record {
    each = λ tx. each_tx (λ t. Unit {0}) tx
        (fine_all bytes_total bytes_cmp-IsAntisymmetric (HasTypedPendingOf types held) held.pending after end fine tx);
  }

  pub tx_bad : (after : Option (List ℕ)) (tx : List ℕ) (k : List (List ℕ)) → IsLeastKeyAfter held.pending after tx → TxUpTo after
      → IsFirstBadPendingOf types held tx k → IsFirstBadPending types held k
  tx_bad after tx k next fine bad = record {
    tx = tx;
    of = bad;
    first = λ t less. each_tx (λ t. Unit {0}) t (λ has. fine_before bytes_total bytes_cmp-IsAntisymmetric
        (HasTypedPendingOf types held) held.pending after tx next.least fine t has less);
  }

-- what is held is typed, part by part
pub typed_whole : (types : List Row) (held : Held) → HasTypedSettings types held.live → HasTypedPending types held → IsTypedHeld types held
typed_whole types held live pending = record { settings = live; pending = λ tx. (pending.each tx).pending }
