-- What is laid in rooms that were made for it is what is laid.
use Rattle.std.proofs.Common.{◌≡◌, ◌&&◌, List, [], ◌∷◌, true, false, not, IsTrue, is_some, refl, sym, ◌∙◌, ap}
use Rattle.std.specs.FinMap.{get}
use Rattle.std.proofs.lemmas.Bool.{and_parts}
use Rattle.json_trees.specs.declared.scalar.Scalar.TheVariants.{Bool as Truth}
use Rattle.json_trees.specs.declared.pending.Pending.TheVariants.{Gone}
use Rattle.settings_tree.specs.Change.{place, is_same, is_unnamed, is_once}
use Rattle.settings_tree.specs.Laid.{laid, laid_one}
use Rattle.settings_maps.specs.Maps.{value_at}
use Rattle.settings_tree.specs.Rooms.{IsFullHeld, is_fresh, roomed, all_roomed, has_rooms}
use Rattle.settings_tree.specs.declared.entry.Entry.{Entry}
use Rattle.settings_tree.specs.declared.entry.Entry.TheVariants.{LiveSet, LiveGone, MetaSet, MetaGone, PendSet, PendGone, OwedSet, ImageSet, WeakIs}
use Rattle.settings_tree.specs.declared.held.Held.{Held}
use Rattle.settings_tree.proofs.Laying.{live_write, meta_write, pend_write, values_store}
use Rattle.settings_tree.proofs.Laying.{metadata_store, pending_store, values-laid, metadata-laid, pending-laid}
use Rattle.settings_tree.proofs.Laying.{values-roomed, metadata-roomed, pending-roomed, rest-laid, rest-roomed}
use Rattle.settings_tree.proofs.Laying.{rest-sym, rest-trans, same_held, full_laid, full_roomed}
use Rattle.settings_tree.proofs.Stores.{written, room, apart, written-room, written-room_other, made, stays}

-- Entries of two places write to two places of a store.
live_apart : (e f : Entry) → IsTrue (not (is_same (place e) (place f))) → IsTrue (apart values_store (Truth false) (live_write e) (live_write f))
live_apart (LiveSet k v) (LiveSet q w) differ = differ
live_apart (LiveGone k) (LiveSet q w) differ = differ
live_apart e f differ = refl

meta_apart : (e f : Entry) → IsTrue (not (is_same (place e) (place f))) → IsTrue (apart metadata_store (Truth false) (meta_write e) (meta_write f))
meta_apart (MetaSet k n v) (MetaSet q r w) differ = differ
meta_apart (MetaGone k n) (MetaSet q r w) differ = differ
meta_apart e f differ = refl

pend_apart : (e f : Entry) → IsTrue (not (is_same (place e) (place f))) → IsTrue (apart pending_store Gone (pend_write e) (pend_write f))
pend_apart (PendSet t k v) (PendSet u q w) differ = differ
pend_apart (PendGone t k) (PendSet u q w) differ = differ
pend_apart e f differ = refl

-- Laying an entry in its own room is laying it.
same_laid : (h : Held) (e : Entry) → IsFullHeld h → laid_one (roomed h e) e ≡ laid_one h e
same_laid h e full = same_held _ _
    (values-laid (roomed h e) e ∙ ap (λ m. written values_store (Truth false) m (live_write e)) (values-roomed h e)
    ∙ written-room values_store (Truth false) h.live.values (live_write e) tt ∙ sym (values-laid h e))
    (metadata-laid (roomed h e) e ∙ ap (λ m. written metadata_store (Truth false) m (meta_write e)) (metadata-roomed h e)
    ∙ written-room metadata_store (Truth false) h.live.metadata (meta_write e) full.metadata ∙ sym (metadata-laid h e))
    (pending-laid (roomed h e) e ∙ ap (λ m. written pending_store Gone m (pend_write e)) (pending-roomed h e)
    ∙ written-room pending_store Gone h.pending (pend_write e) full.pending ∙ sym (pending-laid h e))
    (rest-laid (roomed h e) h e (rest-roomed h e))

-- Laying an entry and making another place's room change places.
swapped : (h : Held) (e f : Entry) → IsFullHeld h → IsTrue (not (is_same (place e) (place f))) → laid_one (roomed h f) e ≡ roomed (laid_one h e) f
swapped h e f full differ = same_held _ _
    (values-laid (roomed h f) e ∙ ap (λ m. written values_store (Truth false) m (live_write e)) (values-roomed h f)
    ∙ written-room_other values_store (Truth false) h.live.values (live_write e) (live_write f) tt (live_apart e f differ)
    ∙ ap (λ m. room values_store (Truth false) m (live_write f)) (sym (values-laid h e)) ∙ sym (values-roomed (laid_one h e) f))
    (metadata-laid (roomed h f) e ∙ ap (λ m. written metadata_store (Truth false) m (meta_write e)) (metadata-roomed h f)
    ∙ written-room_other metadata_store (Truth false) h.live.metadata (meta_write e) (meta_write f) full.metadata (meta_apart e f differ)
    ∙ ap (λ m. room metadata_store (Truth false) m (meta_write f)) (sym (metadata-laid h e)) ∙ sym (metadata-roomed (laid_one h e) f))
    (pending-laid (roomed h f) e ∙ ap (λ m. written pending_store Gone m (pend_write e)) (pending-roomed h f)
    ∙ written-room_other pending_store Gone h.pending (pend_write e) (pend_write f) full.pending (pend_apart e f differ)
    ∙ ap (λ m. room pending_store Gone m (pend_write f)) (sym (pending-laid h e)) ∙ sym (pending-roomed (laid_one h e) f))
    (rest-trans _ _ _ (rest-laid (roomed h f) h e (rest-roomed h f)) (rest-sym _ _ (rest-roomed (laid_one h e) f)))

swapped_all : (h : Held) (e : Entry) (es : List Entry) → IsFullHeld h → IsTrue (is_unnamed (place e) es)
    → laid_one (all_roomed h es) e ≡ all_roomed (laid_one h e) es
swapped_all h e [] full differ = refl
swapped_all h e (f ∷ es) full differ =
    let both = and_parts (not (is_same (place e) (place f))) (is_unnamed (place e) es) differ in
    swapped_all (roomed h f) e es (full_roomed h f full) both.1 ∙ ap (λ (g : Held). all_roomed g es) (swapped h e f full both.0)

first_laid : (h : Held) (e : Entry) (es : List Entry) → IsFullHeld h → IsTrue (is_unnamed (place e) es)
    → laid_one (all_roomed (roomed h e) es) e ≡ all_roomed (laid_one h e) es
first_laid h e es full alone = swapped_all (roomed h e) e es (full_roomed h e full) alone ∙ ap (λ (g : Held). all_roomed g es) (same_laid h e full)

-- What is laid where all rooms were made is what is laid.
laid-roomed : (h : Held) (es : List Entry) → IsFullHeld h → IsTrue (is_once es) → laid (all_roomed h es) es ≡ laid h es
laid-roomed h [] full once = refl
laid-roomed h (e ∷ es) full once =
    let both = and_parts (is_unnamed (place e) es) (is_once es) once in
    ap (λ (g : Held). laid g es) (first_laid h e es full both.0) ∙ laid-roomed (laid_one h e) es (full_laid h e full) both.1

-- The room that was made for an entry is there.
room_made : (h : Held) (e : Entry) → is_fresh (roomed h e) e ≡ false
room_made h (LiveSet k v) = ap (λ m. not (is_some (get m k))) (values-roomed h (LiveSet k v))
    ∙ made values_store (Truth false) h.live.values (live_write (LiveSet k v))
room_made h (MetaSet k n v) = ap (λ m. not (is_some (value_at m k n))) (metadata-roomed h (MetaSet k n v))
    ∙ made metadata_store (Truth false) h.live.metadata (meta_write (MetaSet k n v))
room_made h (PendSet t k v) = ap (λ m. not (is_some (value_at m t k))) (pending-roomed h (PendSet t k v))
    ∙ made pending_store Gone h.pending (pend_write (PendSet t k v))
room_made h (LiveGone k) = refl
room_made h (MetaGone k n) = refl
room_made h (PendGone t k) = refl
room_made h (OwedSet o) = refl
room_made h (ImageSet i) = refl
room_made h (WeakIs w) = refl

-- And stays where others are made.
room_stays : (h : Held) (e f : Entry) → is_fresh h e ≡ false → is_fresh (roomed h f) e ≡ false
room_stays h (LiveSet k v) f is = ap (λ m. not (is_some (get m k))) (values-roomed h f)
    ∙ stays values_store (Truth false) h.live.values (live_write (LiveSet k v)) (live_write f) is
room_stays h (MetaSet k n v) f is = ap (λ m. not (is_some (value_at m k n))) (metadata-roomed h f)
    ∙ stays metadata_store (Truth false) h.live.metadata (meta_write (MetaSet k n v)) (meta_write f) is
room_stays h (PendSet t k v) f is = ap (λ m. not (is_some (value_at m t k))) (pending-roomed h f)
    ∙ stays pending_store Gone h.pending (pend_write (PendSet t k v)) (pend_write f) is
room_stays h (LiveGone k) f is = refl
room_stays h (MetaGone k n) f is = refl
room_stays h (PendGone t k) f is = refl
room_stays h (OwedSet o) f is = refl
room_stays h (ImageSet i) f is = refl
room_stays h (WeakIs w) f is = refl

stays_all : (h : Held) (e : Entry) (es : List Entry) → is_fresh h e ≡ false → is_fresh (all_roomed h es) e ≡ false
stays_all h e [] is = is
stays_all h e (f ∷ es) is = stays_all (roomed h f) e es (room_stays h e f is)

has_rooms-roomed : (h : Held) (es : List Entry) → IsFullHeld h → IsTrue (is_once es) → has_rooms (all_roomed h es) es ≡ true
has_rooms-roomed h [] full once = refl
has_rooms-roomed h (e ∷ es) full once =
    let both = and_parts (is_unnamed (place e) es) (is_once es) once in
    ap (λ b. not b && has_rooms (laid_one (all_roomed (roomed h e) es) e) es) (stays_all (roomed h e) e es (room_made h e))
    ∙ ap (λ (g : Held). has_rooms g es) (first_laid h e es full both.0) ∙ has_rooms-roomed (laid_one h e) es (full_laid h e full) both.1

-- Where all rooms were made, each entry takes no memory.
pub rooms_hold : (h g : Held) (es : List Entry) → g ≡ all_roomed h es → IsFullHeld h → IsTrue (is_once es) → IsTrue (has_rooms g es)
rooms_hold h g es is full once = ap (λ (x : Held). has_rooms x es) is ∙ has_rooms-roomed h es full once

pub laid_in_rooms : (h g n : Held) (es : List Entry) → g ≡ all_roomed h es → IsFullHeld h → IsTrue (is_once es) → n ≡ laid g es → n ≡ laid h es
laid_in_rooms h g n es is full once at = at ∙ ap (λ (x : Held). laid x es) is ∙ laid-roomed h es full once

pub ruleset rooms = (rooms_hold, laid_in_rooms)
