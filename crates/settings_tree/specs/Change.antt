-- Changes: what each entry names.
use Rattle.std.specs.Prelude.{◌&&◌, ℕ, Bool, true, false, not, List, [], ◌∷◌}
use Rattle.std.specs.List.{list_all}
use Rattle.std.specs.Ordering.{eq_by_cmp}
use Rattle.key_names.specs.Order.{bytes_cmp, key_cmp}
use Rattle.settings_maps.specs.TxName.{is_meta_name}
use Rattle.settings_tree.specs.declared.entry.Entry.{Entry}
use Rattle.settings_tree.specs.declared.entry.Entry.TheVariants.{LiveSet, LiveGone, MetaSet, MetaGone, PendSet, PendGone, OwedSet, ImageSet, WeakIs}

-- A place of what is held, which an entry gives a new content.
pub data Place : Type 0 where
  Live : List (List ℕ) → Place
  Meta : List (List ℕ) → List ℕ → Place
  Pend : List ℕ → List (List ℕ) → Place
  TheOwed : Place
  TheImage : Place
  TheWeak : Place

-- The place that an entry names.
abbrev pub place : Entry → Place
place (LiveSet k v) = Live k
place (LiveGone k) = Live k
place (MetaSet k n v) = Meta k n
place (MetaGone k n) = Meta k n
place (PendSet t k v) = Pend t k
place (PendGone t k) = Pend t k
place (OwedSet o) = TheOwed
place (ImageSet i) = TheImage
place (WeakIs w) = TheWeak

-- Whether two places are one.
abbrev pub is_same : Place → Place → Bool
is_same (Live k) (Live q) = eq_by_cmp key_cmp k q
is_same (Meta k n) (Meta q r) = eq_by_cmp key_cmp k q && eq_by_cmp bytes_cmp n r
is_same (Pend t k) (Pend u q) = eq_by_cmp bytes_cmp t u && eq_by_cmp key_cmp k q
is_same TheOwed TheOwed = true
is_same TheImage TheImage = true
is_same TheWeak TheWeak = true
is_same _ _ = false

-- Whether no entry names the place.
abbrev pub is_unnamed : Place → List Entry → Bool
is_unnamed p es = list_all (λ e. not (is_same p (place e))) es

-- Whether no place is named twice.
abbrev pub is_once : List Entry → Bool
is_once [] = true
is_once (e ∷ es) = is_unnamed (place e) es && is_once es

-- Whether a metadata name in the entry has 1 to 127 bare characters.
abbrev pub has_bare_name : Entry → Bool
has_bare_name (MetaSet k n v) = is_meta_name n
has_bare_name (MetaGone k n) = is_meta_name n
has_bare_name _ = true
