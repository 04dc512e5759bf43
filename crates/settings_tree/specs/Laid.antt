-- What a change makes of what is held.
use Rattle.std.specs.Prelude.{ℕ, List, IsTrue, All, Contains, fold}
use Rattle.std.specs.FinMap.{insert, remove}
use Rattle.settings_tree.specs.Change.{is_unnamed}
use Rattle.settings_tree.specs.Change.{Live, TheWeak}
use Rattle.settings_tree.specs.Content.{MayBeWeak}
use Rattle.settings_maps.specs.Maps.{inner, with_value, without_value}
use Rattle.settings_tree.specs.Rule.{IsPrefixFree}
use Rattle.settings_tree.specs.declared.entry.Entry.{Entry}
use Rattle.settings_tree.specs.declared.entry.Entry.TheVariants.{LiveSet, LiveGone, MetaSet, MetaGone, PendSet, PendGone, OwedSet, ImageSet, WeakIs}
use Rattle.settings_tree.specs.declared.held.Held.{Held}

-- With one entry laid: the weak keys change by their own entry alone, so it counts wherever it is.
abbrev pub laid_one : Held → Entry → Held
laid_one h (LiveSet k v) = record h { live = record h.live { values = insert h.live.values k v } }
laid_one h (LiveGone k) = record h { live = record h.live { values = remove h.live.values k } }
laid_one h (MetaSet k n v) = record h { live = record h.live { metadata = with_value h.live.metadata k n v } }
laid_one h (MetaGone k n) = record h { live = record h.live { metadata = without_value h.live.metadata k n } }
laid_one h (PendSet t k v) = record h { pending = with_value h.pending t k v }
laid_one h (PendGone t k) = record h { pending = without_value h.pending t k }
laid_one h (OwedSet o) = record h { owed = o }
laid_one h (ImageSet i) = record h { image = i }
laid_one h (WeakIs w) = record h { live = record h.live { weak = w } }

-- With all entries laid, one after another.
abbrev pub laid : Held → List Entry → Held
laid h es = fold laid_one h es

-- No key of a live value is a proper prefix of another's, and none of a pending map.
pub record KeepsPrefixRule (h : Held) : Type 0 where
  pub live : IsPrefixFree h.live.values
  pub pending : (tx : List ℕ) → IsPrefixFree (inner h.pending tx)

-- Each weak key that a change names may be weak in what it makes.
pub record NamesWeak (h : Held) (es : List Entry) : Type 0 where
  pub may : (weak : List (List (List ℕ))) → Contains es (WeakIs weak) → All (MayBeWeak (laid h es).live.values) weak

-- A change that sets or removes a weak key names the weak keys.
pub record TellsWeak (h : Held) (es : List Entry) : Type 0 where
  pub told : IsTrue (is_unnamed TheWeak es) → All (λ k. IsTrue (is_unnamed (Live k) es)) h.live.weak
