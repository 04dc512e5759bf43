-- Laying entries in rooms that were made for them.
use Rattle.std.proofs.Common.{◌≡◌, ◌&&◌, ℕ, List, Option, Some, None, Bool, true, false, cond, not, is_some, refl, sym, ◌∙◌, ap, subst}
use Rattle.std.specs.Ordering.{eq_by_cmp}
use Rattle.std.specs.Cmp.{eq_by_cmp_equiv}
use Rattle.std.specs.FinMap.{FinMap, get, insert, remove, get-insert, get-remove, same_map}
use Rattle.std.proofs.lemmas.Bool.{and_parts, and_from}
use Rattle.key_names.specs.Order.{key_cmp, key_total, key_cmp-IsAntisymmetric, bytes_cmp, bytes_total, bytes_cmp-IsAntisymmetric}
use Rattle.json_trees.specs.declared.scalar.Scalar.{Scalar}
use Rattle.json_trees.specs.declared.scalar.Scalar.TheVariants.{Bool as Truth}
use Rattle.json_trees.specs.declared.pending.Pending.{Pending}
use Rattle.json_trees.specs.declared.pending.Pending.TheVariants.{Gone}
use Rattle.settings_tree.specs.Laid.{laid_one}
use Rattle.settings_maps.specs.Maps.{value_at, with_value, without_value, IsFull}
use Rattle.settings_tree.specs.Rooms.{IsFullHeld, is_fresh, opened, roomed}
use Rattle.settings_tree.specs.declared.entry.Entry.{Entry}
use Rattle.settings_tree.specs.declared.entry.Entry.TheVariants.{LiveSet, LiveGone, MetaSet, MetaGone, PendSet, PendGone, OwedSet, ImageSet, WeakIs}
use Rattle.settings_tree.specs.declared.held.Held.{Held}
use Rattle.settings_maps.proofs.NestedMaps.{tied_by, value_at-with, value_at-without, full_with, full_without, same_nested}
use Rattle.settings_tree.proofs.Stores.{IsStore, Write, written, room, written_good, room_good}
use Rattle.settings_tree.proofs.Stores.{Keep, Put, Take}

abbrev Key : Type 0
Key = List (List ℕ)

abbrev pub Values : Type 0
Values = FinMap key_cmp Scalar

abbrev pub Metadata : Type 0
Metadata = FinMap key_cmp (FinMap bytes_cmp Scalar)

abbrev pub Pendings : Type 0
Pendings = FinMap bytes_cmp (FinMap key_cmp Pending)

-- What an entry writes to the values, to the metadata, and to the pending maps.
abbrev pub live_write : Entry → Write Key Scalar
live_write (LiveSet k v) = Put k v
live_write (LiveGone k) = Take k
live_write _ = Keep

abbrev pub meta_write : Entry → Write (Key × List ℕ) Scalar
meta_write (MetaSet k n v) = Put (k, n) v
meta_write (MetaGone k n) = Take (k, n)
meta_write _ = Keep

abbrev pub pend_write : Entry → Write (List ℕ × Key) Pending
pend_write (PendSet t k v) = Put (t, k) v
pend_write (PendGone t k) = Take (t, k)
pend_write _ = Keep

same_key : (k q : Key) → eq_by_cmp key_cmp k q ≡ true → k ≡ q
same_key k q e = key_cmp-IsAntisymmetric k q (tied_by (key_cmp k q) e)

same_name : (n r : List ℕ) → eq_by_cmp bytes_cmp n r ≡ true → n ≡ r
same_name n r e = bytes_cmp-IsAntisymmetric n r (tied_by (bytes_cmp n r) e)

both_cond : {A : Type 0} (a b : Bool) (x y : A) → cond a (cond b x y) y ≡ cond (a && b) x y
both_cond true b x y = refl
both_cond false b x y = refl

pair : {A B : Type 0} {a c : A} {b d : B} → a ≡ c → b ≡ d → ◌≡◌ {A = A × B} (a, b) (c, d)
pair {c = c} {b = b} p q = ap (λ x. (x, b)) p ∙ ap (λ y. (c, y)) q

-- The values are a store by key.
pub values_store : IsStore {M = Values} (λ m. Unit {0}) (eq_by_cmp key_cmp) get insert remove
values_store = record {
  itself = (eq_by_cmp_equiv key_total).refl;
  one = same_key;
  put_at = λ m p q v. get-insert key_total m p v q;
  take_at = λ m p q. get-remove key_total m p q;
  put_good = λ m p v good. tt;
  take_good = λ m p good. tt;
  alike = λ m n a b is. same_map key_total key_cmp-IsAntisymmetric m n is;
}

-- The metadata is a store by key and name.
pub metadata_store : IsStore {M = Metadata} {P = Key × List ℕ} IsFull (λ p q. eq_by_cmp key_cmp p.0 q.0 && eq_by_cmp bytes_cmp p.1 q.1)
    (λ m p. value_at m p.0 p.1) (λ m p v. with_value m p.0 p.1 v) (λ m p. without_value m p.0 p.1)
metadata_store = record {
  itself = λ p. and_from _ _ ((eq_by_cmp_equiv key_total).refl p.0) ((eq_by_cmp_equiv bytes_total).refl p.1);
  one = λ p q e. pair (same_key p.0 q.0 ((and_parts (eq_by_cmp key_cmp p.0 q.0) _ e).0)) (same_name p.1 q.1 ((and_parts (eq_by_cmp key_cmp p.0 q.0) _ e).1));
  put_at = λ m p q v. value_at-with key_total bytes_total m p.0 q.0 p.1 q.1 v ∙ both_cond (eq_by_cmp key_cmp q.0 p.0) _ _ _;
  take_at = λ m p q. value_at-without key_total bytes_total m p.0 q.0 p.1 q.1 ∙ both_cond (eq_by_cmp key_cmp q.0 p.0) _ _ _;
  put_good = λ m p v good. full_with key_total bytes_total m p.0 p.1 v good;
  take_good = λ m p good. full_without key_total m p.0 p.1 good;
  alike = λ m n a b is. same_nested key_total key_cmp-IsAntisymmetric bytes_total bytes_cmp-IsAntisymmetric m n a b (λ k r. is (k, r));
}

-- The pending maps are a store by transaction and key.
pub pending_store : IsStore {M = Pendings} {P = List ℕ × Key} IsFull (λ p q. eq_by_cmp bytes_cmp p.0 q.0 && eq_by_cmp key_cmp p.1 q.1)
    (λ m p. value_at m p.0 p.1) (λ m p v. with_value m p.0 p.1 v) (λ m p. without_value m p.0 p.1)
pending_store = record {
  itself = λ p. and_from _ _ ((eq_by_cmp_equiv bytes_total).refl p.0) ((eq_by_cmp_equiv key_total).refl p.1);
  one = λ p q e. pair (same_name p.0 q.0 ((and_parts (eq_by_cmp bytes_cmp p.0 q.0) _ e).0))
      (same_key p.1 q.1 ((and_parts (eq_by_cmp bytes_cmp p.0 q.0) _ e).1));
  put_at = λ m p q v. value_at-with bytes_total key_total m p.0 q.0 p.1 q.1 v ∙ both_cond (eq_by_cmp bytes_cmp q.0 p.0) _ _ _;
  take_at = λ m p q. value_at-without bytes_total key_total m p.0 q.0 p.1 q.1 ∙ both_cond (eq_by_cmp bytes_cmp q.0 p.0) _ _ _;
  put_good = λ m p v good. full_with bytes_total key_total m p.0 p.1 v good;
  take_good = λ m p good. full_without bytes_total m p.0 p.1 good;
  alike = λ m n a b is. same_nested bytes_total bytes_cmp-IsAntisymmetric key_total key_cmp-IsAntisymmetric m n a b (λ k r. is (k, r));
}

-- What an entry makes of each store.
pub values-laid : (h : Held) (e : Entry) → (laid_one h e).live.values ≡ written values_store (Truth false) h.live.values (live_write e)
values-laid h (LiveSet k v) = refl
values-laid h (LiveGone k) = refl
values-laid h (MetaSet k n v) = refl
values-laid h (MetaGone k n) = refl
values-laid h (PendSet t k v) = refl
values-laid h (PendGone t k) = refl
values-laid h (OwedSet o) = refl
values-laid h (ImageSet i) = refl
values-laid h (WeakIs w) = refl

pub metadata-laid : (h : Held) (e : Entry) → (laid_one h e).live.metadata ≡ written metadata_store (Truth false) h.live.metadata (meta_write e)
metadata-laid h (LiveSet k v) = refl
metadata-laid h (LiveGone k) = refl
metadata-laid h (MetaSet k n v) = refl
metadata-laid h (MetaGone k n) = refl
metadata-laid h (PendSet t k v) = refl
metadata-laid h (PendGone t k) = refl
metadata-laid h (OwedSet o) = refl
metadata-laid h (ImageSet i) = refl
metadata-laid h (WeakIs w) = refl

pub pending-laid : (h : Held) (e : Entry) → (laid_one h e).pending ≡ written pending_store Gone h.pending (pend_write e)
pending-laid h (LiveSet k v) = refl
pending-laid h (LiveGone k) = refl
pending-laid h (MetaSet k n v) = refl
pending-laid h (MetaGone k n) = refl
pending-laid h (PendSet t k v) = refl
pending-laid h (PendGone t k) = refl
pending-laid h (OwedSet o) = refl
pending-laid h (ImageSet i) = refl
pending-laid h (WeakIs w) = refl

-- What an entry's room makes of each store.
room_cond : (h : Held) (o : Option Scalar) (k : Key) → (cond (not (is_some o))
    (record h { live = record h.live { values = insert h.live.values k (Truth false) } }) h).live.values ≡ cond (is_some o) h.live.values
    (insert h.live.values k (Truth false))
room_cond h None k = refl
room_cond h (Some x) k = refl

pub values-roomed : (h : Held) (e : Entry) → (roomed h e).live.values ≡ room values_store (Truth false) h.live.values (live_write e)
values-roomed h (LiveSet k v) = room_cond h (get h.live.values k) k
values-roomed h (MetaSet k n v) = by (is_fresh h (MetaSet k n v)) where
  by : (b : Bool) → (cond b (opened h (MetaSet k n v)) h).live.values ≡ h.live.values
  by true = refl
  by false = refl
values-roomed h (PendSet t k v) = by (is_fresh h (PendSet t k v)) where
  by : (b : Bool) → (cond b (opened h (PendSet t k v)) h).live.values ≡ h.live.values
  by true = refl
  by false = refl
values-roomed h (LiveGone k) = refl
values-roomed h (MetaGone k n) = refl
values-roomed h (PendGone t k) = refl
values-roomed h (OwedSet o) = refl
values-roomed h (ImageSet i) = refl
values-roomed h (WeakIs w) = refl

meta_cond : (h : Held) (o : Option Scalar) (k : Key) (n : List ℕ) → (cond (not (is_some o))
    (record h { live = record h.live { metadata = with_value h.live.metadata k n (Truth false) } }) h).live.metadata ≡ cond (is_some o) h.live.metadata
    (with_value h.live.metadata k n (Truth false))
meta_cond h None k n = refl
meta_cond h (Some x) k n = refl

pub metadata-roomed : (h : Held) (e : Entry) → (roomed h e).live.metadata ≡ room metadata_store (Truth false) h.live.metadata (meta_write e)
metadata-roomed h (MetaSet k n v) = meta_cond h (value_at h.live.metadata k n) k n
metadata-roomed h (LiveSet k v) = by (is_fresh h (LiveSet k v)) where
  by : (b : Bool) → (cond b (opened h (LiveSet k v)) h).live.metadata ≡ h.live.metadata
  by true = refl
  by false = refl
metadata-roomed h (PendSet t k v) = by (is_fresh h (PendSet t k v)) where
  by : (b : Bool) → (cond b (opened h (PendSet t k v)) h).live.metadata ≡ h.live.metadata
  by true = refl
  by false = refl
metadata-roomed h (LiveGone k) = refl
metadata-roomed h (MetaGone k n) = refl
metadata-roomed h (PendGone t k) = refl
metadata-roomed h (OwedSet o) = refl
metadata-roomed h (ImageSet i) = refl
metadata-roomed h (WeakIs w) = refl

pend_cond : (h : Held) (o : Option Pending) (t : List ℕ) (k : Key) → (cond (not (is_some o)) (record h { pending = with_value h.pending t k Gone }) h).pending ≡
    cond (is_some o) h.pending (with_value h.pending t k Gone)
pend_cond h None t k = refl
pend_cond h (Some x) t k = refl

pub pending-roomed : (h : Held) (e : Entry) → (roomed h e).pending ≡ room pending_store Gone h.pending (pend_write e)
pending-roomed h (PendSet t k v) = pend_cond h (value_at h.pending t k) t k
pending-roomed h (LiveSet k v) = by (is_fresh h (LiveSet k v)) where
  by : (b : Bool) → (cond b (opened h (LiveSet k v)) h).pending ≡ h.pending
  by true = refl
  by false = refl
pending-roomed h (MetaSet k n v) = by (is_fresh h (MetaSet k n v)) where
  by : (b : Bool) → (cond b (opened h (MetaSet k n v)) h).pending ≡ h.pending
  by true = refl
  by false = refl
pending-roomed h (LiveGone k) = refl
pending-roomed h (MetaGone k n) = refl
pending-roomed h (PendGone t k) = refl
pending-roomed h (OwedSet o) = refl
pending-roomed h (ImageSet i) = refl
pending-roomed h (WeakIs w) = refl

-- The same weak keys, owed keys and image.
pub record SameRest (g h : Held) : Type 0 where
  pub weak : g.live.weak ≡ h.live.weak
  pub owed : g.owed ≡ h.owed
  pub image : g.image ≡ h.image

-- An entry makes the same rest of the same rest.
pub rest-laid : (g h : Held) (e : Entry) → SameRest g h → SameRest (laid_one g e) (laid_one h e)
rest-laid g h (LiveSet k v) rest = record { weak = rest.weak; owed = rest.owed; image = rest.image }
rest-laid g h (LiveGone k) rest = record { weak = rest.weak; owed = rest.owed; image = rest.image }
rest-laid g h (MetaSet k n v) rest = record { weak = rest.weak; owed = rest.owed; image = rest.image }
rest-laid g h (MetaGone k n) rest = record { weak = rest.weak; owed = rest.owed; image = rest.image }
rest-laid g h (PendSet t k v) rest = record { weak = rest.weak; owed = rest.owed; image = rest.image }
rest-laid g h (PendGone t k) rest = record { weak = rest.weak; owed = rest.owed; image = rest.image }
rest-laid g h (OwedSet o) rest = record { weak = rest.weak; owed = refl; image = rest.image }
rest-laid g h (ImageSet i) rest = record { weak = rest.weak; owed = rest.owed; image = refl }
rest-laid g h (WeakIs w) rest = record { weak = refl; owed = rest.owed; image = rest.image }

-- A room leaves the rest alone.
pub rest-roomed : (h : Held) (e : Entry) → SameRest (roomed h e) h
rest-roomed h e = by (is_fresh h e) where
  open_rest : (e : Entry) → SameRest (opened h e) h
  open_rest (LiveSet k v) = record { weak = refl; owed = refl; image = refl }
  open_rest (MetaSet k n v) = record { weak = refl; owed = refl; image = refl }
  open_rest (PendSet t k v) = record { weak = refl; owed = refl; image = refl }
  open_rest (LiveGone k) = record { weak = refl; owed = refl; image = refl }
  open_rest (MetaGone k n) = record { weak = refl; owed = refl; image = refl }
  open_rest (PendGone t k) = record { weak = refl; owed = refl; image = refl }
  open_rest (OwedSet o) = record { weak = refl; owed = refl; image = refl }
  open_rest (ImageSet i) = record { weak = refl; owed = refl; image = refl }
  open_rest (WeakIs w) = record { weak = refl; owed = refl; image = refl }

  by : (b : Bool) → SameRest (cond b (opened h e) h) h
  by true = open_rest e
  by false = record { weak = refl; owed = refl; image = refl }

pub rest-sym : (g h : Held) → SameRest g h → SameRest h g
rest-sym g h rest = record { weak = sym rest.weak; owed = sym rest.owed; image = sym rest.image }

pub rest-trans : (f g h : Held) → SameRest f g → SameRest g h → SameRest f h
rest-trans f g h a b = record { weak = a.weak ∙ b.weak; owed = a.owed ∙ b.owed; image = a.image ∙ b.image }

-- What has the same parts is the same.
pub same_held : (g h : Held) → g.live.values ≡ h.live.values → g.live.metadata ≡ h.live.metadata → g.pending ≡ h.pending → SameRest g h → g ≡ h
same_held g h values metadata pending rest = λ i. record {
  live = record { values = values i; metadata = metadata i; weak = rest.weak i };
  pending =
      pending i;
  owed = rest.owed i;
  image = rest.image i;
}

-- An entry and a room keep each map full.
pub full_laid : (h : Held) (e : Entry) → IsFullHeld h → IsFullHeld (laid_one h e)
full_laid h e full = record {
  metadata = subst IsFull (sym (metadata-laid h e)) (written_good metadata_store (Truth false) h.live.metadata (meta_write e) full.metadata);
  pending = subst IsFull (sym (pending-laid h e)) (written_good pending_store Gone h.pending (pend_write e) full.pending);
}

pub full_roomed : (h : Held) (e : Entry) → IsFullHeld h → IsFullHeld (roomed h e)
full_roomed h e full = record {
  metadata = subst IsFull (sym (metadata-roomed h e)) (room_good metadata_store (Truth false) h.live.metadata (meta_write e) full.metadata);
  pending = subst IsFull (sym (pending-roomed h e)) (room_good pending_store Gone h.pending (pend_write e) full.pending);
}
