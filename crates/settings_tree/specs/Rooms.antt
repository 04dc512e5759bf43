-- For the private calls of `parts` alone, which lay a change in two passes; no public clause speaks of it. A room is a placeholder that the first pass
-- makes where an entry needs memory, so that the second takes none; what is laid is `Laid`.
use Rattle.std.specs.Prelude.{Bool, true, false, not, ◌&&◌, List, [], ◌∷◌, is_some, fold, if◌then◌else◌}
use Rattle.std.specs.FinMap.{get, insert, remove}
use Rattle.json_trees.specs.declared.scalar.Scalar.TheVariants.{Bool as Truth}
use Rattle.json_trees.specs.declared.pending.Pending.TheVariants.{Gone}
use Rattle.settings_tree.specs.Laid.{laid_one}
use Rattle.settings_maps.specs.Maps.{value_at, with_value, without_value, IsFull}
use Rattle.settings_tree.specs.declared.entry.Entry.{Entry}
use Rattle.settings_tree.specs.declared.entry.Entry.TheVariants.{LiveSet, MetaSet, PendSet}
use Rattle.settings_tree.specs.declared.held.Held.{Held}
use Rattle.settings_tree.specs.declared.parts.Parts.{Parts}

-- What the parts hold.
abbrev pub held_of : Parts → Held
held_of p = record { live = record { values = p.values; metadata = p.metadata; weak = p.weak }; pending = p.pending; owed = p.owed; image = p.image }

-- No map under a key is empty.
pub record IsFullHeld (h : Held) : Type 0 where
  pub metadata : IsFull h.live.metadata
  pub pending : IsFull h.pending

-- Whether laying the entry takes memory.
abbrev pub is_fresh : Held → Entry → Bool
is_fresh h (LiveSet k v) = not (is_some (get h.live.values k))
is_fresh h (MetaSet k n v) = not (is_some (value_at h.live.metadata k n))
is_fresh h (PendSet t k v) = not (is_some (value_at h.pending t k))
is_fresh h _ = false

-- With a placeholder where the entry is to set something.
abbrev pub opened : Held → Entry → Held
opened h (LiveSet k v) = record h { live = record h.live { values = insert h.live.values k (Truth false) } }
opened h (MetaSet k n v) = record h { live = record h.live { metadata = with_value h.live.metadata k n (Truth false) } }
opened h (PendSet t k v) = record h { pending = with_value h.pending t k Gone }
opened h _ = h

-- Without what is where the entry is to set something.
abbrev pub closed : Held → Entry → Held
closed h (LiveSet k v) = record h { live = record h.live { values = remove h.live.values k } }
closed h (MetaSet k n v) = record h { live = record h.live { metadata = without_value h.live.metadata k n } }
closed h (PendSet t k v) = record h { pending = without_value h.pending t k }
closed h _ = h

-- With a placeholder where one is wanted.
abbrev pub roomed : Held → Entry → Held
roomed h e = if is_fresh h e then opened h e else h

-- Without the placeholder, where one was made.
abbrev pub closed_if : Bool → Held → Entry → Held
closed_if made h e = if made then closed h e else h

-- With the placeholders of all entries.
abbrev pub all_roomed : Held → List Entry → Held
all_roomed h es = fold roomed h es

-- For each entry, whether a placeholder was made.
abbrev pub freshes : Held → List Entry → List Bool
freshes h [] = []
freshes h (e ∷ es) = is_fresh h e ∷ freshes (roomed h e) es

-- Without the placeholders that were made, the newest first.
abbrev pub all_closed : List Bool → List Entry → Held → Held
all_closed [] es h = h
all_closed (b ∷ bs) [] h = h
all_closed (b ∷ bs) (e ∷ es) h = closed_if b (all_closed bs es h) e

-- Whether each entry, when its turn comes, takes no memory.
abbrev pub has_rooms : Held → List Entry → Bool
has_rooms h [] = true
has_rooms h (e ∷ es) = not (is_fresh h e) && has_rooms (laid_one h e) es
