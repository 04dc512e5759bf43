-- Rooms that are taken out again, the newest first, leave what was held.
use Rattle.std.proofs.Common.{arith, ◌≡◌, ◌<◌, ◌≤◌, ◌++◌, ℕ, zero, suc, List, [], ◌∷◌, length, take, drop, unwrap_or}
use Rattle.std.proofs.Common.{slice_get, slice_index_or, Option, Some, None, Bool, true, false, cond, not, is_some, refl, sym, ◌∙◌, ap}
use Rattle.std.proofs.lemmas.List.{take-append-drop, length-take}
use Rattle.json_trees.specs.declared.scalar.Scalar.TheVariants.{Bool as Truth}
use Rattle.json_trees.specs.declared.pending.Pending.TheVariants.{Gone}
use Rattle.settings_tree.specs.Rooms.{IsFullHeld, is_fresh, closed, opened, roomed, closed_if, all_roomed, all_closed, freshes}
use Rattle.settings_tree.specs.declared.entry.Entry.{Entry}
use Rattle.settings_tree.specs.declared.entry.Entry.TheVariants.{LiveSet, LiveGone, MetaSet, MetaGone, PendSet, PendGone, OwedSet, ImageSet, WeakIs}
use Rattle.settings_tree.specs.declared.held.Held.{Held}
use Rattle.settings_tree.proofs.Laying.{Values, Metadata, Pendings, values_store, metadata_store, pending_store, full_roomed}
use Rattle.settings_tree.proofs.Stores.{taken_back}

no_value : {X : Type 0} (o : Option X) → not (is_some o) ≡ true → o ≡ None
no_value None e = refl
no_value (Some x) e = absurd (grind arith)

-- Closing what was opened.
back : (h : Held) (e : Entry) → IsFullHeld h → is_fresh h e ≡ true → closed (opened h e) e ≡ h
back h (LiveSet k v) full is = ap (λ (m : Values). record h { live = record h.live { values = m } })
    (taken_back values_store (Truth false) h.live.values k tt (no_value _ is))
back h (MetaSet k n v) full is = ap (λ (m : Metadata). record h { live = record h.live { metadata = m } })
    (taken_back metadata_store (Truth false) h.live.metadata (k, n) full.metadata (no_value _ is))
back h (PendSet t k v) full is = ap (λ (m : Pendings). record h { pending = m }) (taken_back pending_store Gone h.pending (t, k) full.pending (no_value _ is))
back h (LiveGone k) full is = absurd (grind arith)
back h (MetaGone k n) full is = absurd (grind arith)
back h (PendGone t k) full is = absurd (grind arith)
back h (OwedSet o) full is = absurd (grind arith)
back h (ImageSet i) full is = absurd (grind arith)
back h (WeakIs w) full is = absurd (grind arith)

closed-roomed : (h : Held) (e : Entry) → IsFullHeld h → closed_if (is_fresh h e) (roomed h e) e ≡ h
closed-roomed h e full = by (is_fresh h e) refl where
  by : (b : Bool) → is_fresh h e ≡ b → cond b (closed (cond b (opened h e) h) e) (cond b (opened h e) h) ≡ h
  by true is = back h e full is
  by false is = refl

-- Closing the newest room first.
pub all_closed_last : (bs : List Bool) (es : List Entry) (h : Held) (b : Bool) (e : Entry) → slice_get es (length bs) ≡ Some e
    → all_closed (bs ++ b ∷ []) es h ≡ all_closed bs es (closed_if b h e)
all_closed_last [] [] h b e at = absurd (grind arith)
all_closed_last [] (f ∷ es) h b e at = ap (λ (x : Entry). closed_if b h x) (the_same f e at) where
  the_same : (f e : Entry) → Some f ≡ Some e → f ≡ e
  the_same f e is = ap (λ (o : Option Entry). unwrap_or o f) is
all_closed_last (c ∷ bs) [] h b e at = absurd (grind arith)
all_closed_last (c ∷ bs) (f ∷ es) h b e at = ap (λ (x : Held). closed_if c x f) (all_closed_last bs es h b e at)

undone_all : (h : Held) (es fs : List Entry) → IsFullHeld h → all_closed (freshes h es) (es ++ fs) (all_roomed h es) ≡ h
undone_all h [] fs full = refl
undone_all h (e ∷ es) fs full = ap (λ (x : Held). closed_if (is_fresh h e) x e) (undone_all (roomed h e) es fs (full_roomed h e full)) ∙ closed-roomed h e full

-- Closing the rooms of the first entries.
pub undone_by : (h g n : Held) (bs : List Bool) (i : ℕ) (es : List Entry) → IsFullHeld h → bs ≡ freshes h (take i es) → g ≡ all_roomed h (take i es)
    → n ≡ all_closed bs es g → n ≡ h
undone_by h g n bs i es full made is at = at ∙ ap (λ (c : List Bool). all_closed c es g) made ∙ ap (λ (x : Held). all_closed (freshes h (take i es)) es x) is
    ∙ ap (λ (xs : List Entry). all_closed (freshes h (take i es)) xs (all_roomed h (take i es))) (sym (take-append-drop i es))
    ∙ undone_all h (take i es) (drop i es) full

freshes_last : (h : Held) (es : List Entry) (e : Entry) → freshes h (es ++ e ∷ []) ≡ freshes h es ++ is_fresh (all_roomed h es) e ∷ []
freshes_last h [] e = refl
freshes_last h (f ∷ es) e = ap (λ (bs : List Bool). is_fresh h f ∷ bs) (freshes_last (roomed h f) es e)

roomed_last : (h : Held) (es : List Entry) (e : Entry) → all_roomed h (es ++ e ∷ []) ≡ roomed (all_roomed h es) e
roomed_last h [] e = refl
roomed_last h (f ∷ es) e = roomed_last (roomed h f) es e

-- One room more.
pub one_more : (h g n : Held) (bs cs : List Bool) (xs ys : List Entry) (e : Entry) → ys ≡ xs ++ e ∷ [] → g ≡ all_roomed h xs → bs ≡ freshes h xs
    → n ≡ roomed g e → cs ≡ bs ++ is_fresh g e ∷ [] → (n ≡ all_roomed h ys) × (cs ≡ freshes h ys)
one_more h g n bs cs xs ys e next is made at noted = (
  at ∙ ap (λ (x : Held). roomed x e) is ∙ sym (roomed_last h xs e) ∙ ap (all_roomed h) (sym next),
  noted ∙ ap (λ (b : List Bool). b ++ is_fresh g e ∷ []) made ∙ ap (λ (x : Held). freshes h xs ++ is_fresh x e ∷ []) is ∙ sym (freshes_last h xs e)
      ∙ ap (freshes h) (sym next),
)

length-freshes : (h : Held) (es : List Entry) → length (freshes h es) ≡ length es
length-freshes h [] = refl
length-freshes h (e ∷ es) = ap suc (length-freshes (roomed h e) es)

length_last : (bs : List Bool) (b : Bool) → length (bs ++ b ∷ []) ≡ suc (length bs)
length_last [] b = refl
length_last (c ∷ bs) b = ap suc (length_last bs b)

-- The notes but the last are as many as there is room for.
pub before_last : (bs cs : List Bool) (b : Bool) (n : ℕ) → cs ≡ bs ++ b ∷ [] → length cs ≤ n → length bs < n
before_last bs cs b n is low =
    let one : length cs ≡ suc (length bs) = ap length is ∙ length_last bs b in
    omega arith

length_take : (i : ℕ) (es : List Entry) → length (take i es) ≤ length es
length_take i es = grind (arith, length-take)

-- There is a note for each of the first entries.
pub few : (h : Held) (bs : List Bool) (i : ℕ) (es : List Entry) → bs ≡ freshes h (take i es) → length bs ≤ length es
few h bs i es is =
    let all : length bs ≡ length (take i es) = ap length is ∙ length-freshes h (take i es) in
    let low : length (take i es) ≤ length es = length_take i es in
    omega arith

take_one : (es : List Entry) (i : ℕ) (e : Entry) → i < length es → slice_index_or es i e ≡ e → take (suc i) es ≡ take i es ++ e ∷ []
take_one [] i e low is = absurd (omega arith)
take_one (f ∷ es) zero e low is = ap (λ (x : Entry). x ∷ []) is
take_one (f ∷ es) (suc i) e low is = ap (λ (xs : List Entry). f ∷ xs) (take_one es i e (omega arith) is)

-- The first entries, with the next.
pub take_next : (es : List Entry) (i j : ℕ) (e : Entry) → j ≡ suc i → i < length es → slice_index_or es i e ≡ e → take j es ≡ take i es ++ e ∷ []
take_next es i j e one low is = ap (λ (n : ℕ). take n es) one ∙ take_one es i e low is
