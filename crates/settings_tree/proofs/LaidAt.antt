-- What is where after a change is laid: laws for the crates above.
use Rattle.std.proofs.Common.{arith, ◌≡◌, ◌<◌, ◌++◌, ◌&&◌, ℕ, zero, suc, List, [], ◌∷◌, length}
use Rattle.std.proofs.Common.{slice_index_or, None, Bool, true, false, cond, not, IsTrue, refl, ◌∙◌, ap, subst}
use Rattle.std.specs.Prelude.{Contains}
use Rattle.std.specs.FinMap.{get}
use Rattle.std.proofs.lemmas.Bool.{and_parts, not-true}
use Rattle.key_names.specs.Order.{key_total}
use Rattle.settings_tree.specs.Change.{Place, place, is_same, is_unnamed, is_once}
use Rattle.settings_tree.specs.Change.{Live, TheOwed, TheWeak}
use Rattle.settings_tree.specs.Laid.{laid, laid_one}
use Rattle.settings_tree.specs.declared.entry.Entry.{Entry}
use Rattle.settings_tree.specs.declared.entry.Entry.TheVariants.{LiveSet, LiveGone, MetaSet, MetaGone, PendSet, PendGone, OwedSet, ImageSet, WeakIs}
use Rattle.settings_tree.specs.declared.held.Held.{Held}
use Rattle.settings_maps.proofs.NestedMaps.{get-insert_other, get-remove_same, get-remove_other}

-- One change after another is both in one.
pub laid-append : (h : Held) (es fs : List Entry) → laid h (es ++ fs) ≡ laid (laid h es) fs
laid-append h [] fs = refl
laid-append h (e ∷ es) fs = laid-append (laid_one h e) es fs

-- What is seen of a place that no other entry changes.
module _ {A : Type 0} (see : Held → A) (p : Place) (other : (h : Held) (e : Entry) → IsTrue (not (is_same p (place e))) → see (laid_one h e) ≡ see h) where
  -- A place that is not named stays.
  unnamed_stays : (h : Held) (es : List Entry) → IsTrue (is_unnamed p es) → see (laid h es) ≡ see h
  unnamed_stays h [] unnamed = refl
  unnamed_stays h (e ∷ es) unnamed =
      let both = and_parts (not (is_same p (place e))) (is_unnamed p es) unnamed in
      unnamed_stays (laid_one h e) es both.1 ∙ other h e both.0

  at_index : (e : Entry) (a : A) → place e ≡ p → ((h : Held) → see (laid_one h e) ≡ a) → (h : Held) (es : List Entry) (i : ℕ) → IsTrue (is_once es)
      → i < length es → slice_index_or es i e ≡ e → see (laid h es) ≡ a
  at_index e a names gives h [] i once low at = absurd (omega arith)
  at_index e a names gives h (f ∷ es) zero once low at =
      let both = and_parts (is_unnamed (place f) es) (is_once es) once in
      unnamed_stays (laid_one h f) es (subst (λ (q : Place). IsTrue (is_unnamed q es)) (ap place at ∙ names) both.0) ∙ ap (λ (g : Entry). see (laid_one h g)) at
      ∙ gives h
  at_index e a names gives h (f ∷ es) (suc i) once low at =
      let both = and_parts (is_unnamed (place f) es) (is_once es) once in
      at_index e a names gives (laid_one h f) es i both.1 (omega arith) at

  -- A place has what its entry gives it.
  named_changes : (e : Entry) (a : A) → place e ≡ p → ((h : Held) → see (laid_one h e) ≡ a) → (h : Held) (es : List Entry) → IsTrue (is_once es) → Contains es e
      → see (laid h es) ≡ a
  named_changes e a names gives h es once has = at_index e a names gives h es has.0 once has.1 has.2

live_other : (k : List (List ℕ)) (h : Held) (e : Entry) → IsTrue (not (is_same (Live k) (place e))) → get (laid_one h e).live.values k ≡ get h.live.values k
live_other k h (LiveSet q v) apart = get-insert_other key_total h.live.values q k v (not-true _ apart)
live_other k h (LiveGone q) apart = get-remove_other key_total h.live.values q k (not-true _ apart)
live_other k h (MetaSet q n v) apart = refl
live_other k h (MetaGone q n) apart = refl
live_other k h (PendSet t q v) apart = refl
live_other k h (PendGone t q) apart = refl
live_other k h (OwedSet o) apart = refl
live_other k h (ImageSet i) apart = refl
live_other k h (WeakIs w) apart = refl

-- A key's value after a change that does not name it, that sets it, and that removes it.
pub value_unnamed : (h : Held) (es : List Entry) (k : List (List ℕ)) → IsTrue (is_unnamed (Live k) es) → get (laid h es).live.values k ≡ get h.live.values k
value_unnamed h es k = unnamed_stays (λ h. get h.live.values k) (Live k) (live_other k) h es

pub value_gone : (h : Held) (es : List Entry) (k : List (List ℕ)) → IsTrue (is_once es) → Contains es (LiveGone k) → get (laid h es).live.values k ≡ None
value_gone h es k = named_changes (λ h. get h.live.values k) (Live k) (live_other k) (LiveGone k) None refl (λ h. get-remove_same key_total h.live.values k) h
    es

kept : {A : Type 0} (a b : Bool) (x y : A) → IsTrue (not (a && b)) → cond a (cond b y x) x ≡ x
kept true true x y apart = absurd (grind arith)
kept true false x y apart = refl
kept false b x y apart = refl

owed_other : (h : Held) (e : Entry) → IsTrue (not (is_same TheOwed (place e))) → (laid_one h e).owed ≡ h.owed
owed_other h (OwedSet o) apart = absurd (grind arith)
owed_other h (LiveSet q v) apart = refl
owed_other h (LiveGone q) apart = refl
owed_other h (MetaSet q n v) apart = refl
owed_other h (MetaGone q n) apart = refl
owed_other h (PendSet t q v) apart = refl
owed_other h (PendGone t q) apart = refl
owed_other h (ImageSet i) apart = refl
owed_other h (WeakIs w) apart = refl

weak_other : (h : Held) (e : Entry) → IsTrue (not (is_same TheWeak (place e))) → (laid_one h e).live.weak ≡ h.live.weak
weak_other h (WeakIs w) apart = absurd (grind arith)
weak_other h (LiveSet q v) apart = refl
weak_other h (LiveGone q) apart = refl
weak_other h (MetaSet q n v) apart = refl
weak_other h (MetaGone q n) apart = refl
weak_other h (PendSet t q v) apart = refl
weak_other h (PendGone t q) apart = refl
weak_other h (OwedSet o) apart = refl
weak_other h (ImageSet i) apart = refl

-- The same for the owed keys, the image and the weak keys.
pub owed_unnamed : (h : Held) (es : List Entry) → IsTrue (is_unnamed TheOwed es) → (laid h es).owed ≡ h.owed
owed_unnamed h es = unnamed_stays (λ h. h.owed) TheOwed owed_other h es

pub weak_unnamed : (h : Held) (es : List Entry) → IsTrue (is_unnamed TheWeak es) → (laid h es).live.weak ≡ h.live.weak
weak_unnamed h es = unnamed_stays (λ h. h.live.weak) TheWeak weak_other h es

pub weak_set : (h : Held) (es : List Entry) (w : List (List (List ℕ))) → IsTrue (is_once es) → Contains es (WeakIs w) → (laid h es).live.weak ≡ w
weak_set h es w = named_changes (λ h. h.live.weak) TheWeak weak_other (WeakIs w) w refl (λ h. refl) h es
