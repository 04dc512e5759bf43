-- Live settings with their weakness, and what is pending, as a migration edits them.
use Rattle.std.specs.Prelude.{◌≡◌, ℕ, ◌&&◌, List, map, filter, Some, IsTrue, if◌then◌else◌}
use Rattle.std.specs.List.{list_any}
use Rattle.std.specs.Ordering.{eq_by_cmp}
use Rattle.std.specs.FinMap.{FinMap, entries, get}
use Rattle.key_names.specs.Order.{bytes_cmp, key_cmp}
use Rattle.key_names.specs.Key.{is_prefix}
use Rattle.json_trees.specs.declared.scalar.Scalar.{Scalar}
use Rattle.json_trees.specs.declared.scalar.Scalar.TheVariants as scalar
use Rattle.json_trees.specs.declared.pending.Pending.{Pending}
use Rattle.json_trees.specs.declared.pending.Pending.TheVariants as pending
use Rattle.settings_tree.specs.Content.{Contents, settings_key}
use Rattle.migrate_helpers.specs.declared.setting.Setting.{Setting}
use Rattle.migrate_helpers.specs.Entries.{mapped}

-- A value as a setting, weak where its key is one of the weak keys.
abbrev pub setting_of : List (List (List ℕ)) → List (List ℕ) → Scalar → Setting
setting_of weak k v = record { value = v; weak = list_any (eq_by_cmp key_cmp k) weak }

-- The live settings of a content.
abbrev pub settings : Contents → FinMap key_cmp Setting
settings c = mapped (setting_of c.weak) c.values

-- The keys of the weak ones of these settings.
abbrev pub weak_keys : List (List (List ℕ) × Setting) → List (List (List ℕ))
weak_keys es = map (λ e. e.0) (filter (λ e. e.1.weak) es)

-- The values of these settings.
abbrev pub values_of : FinMap key_cmp Setting → FinMap key_cmp Scalar
values_of s = mapped (λ k x. x.value) s

-- The content of these settings, with this metadata.
abbrev pub content_of : FinMap key_cmp Setting → FinMap key_cmp (FinMap bytes_cmp Scalar) → Contents
content_of s metadata = record { values = values_of s; metadata = metadata; weak = weak_keys (entries s) }

-- A text equal to the first becomes the second, and nothing else changes.
abbrev pub text_replaced : List ℕ → List ℕ → Scalar → Scalar
text_replaced old new (scalar.Text t) = if eq_by_cmp bytes_cmp t old then scalar.Text new else scalar.Text t
text_replaced old new s = s

-- A setting keeps its weakness at a key that begins with `settings`, and is strong at any other.
abbrev pub setting_at : List (List ℕ) → Setting → Setting
setting_at k s = record { value = s.value; weak = s.weak && is_prefix settings_key k }

-- A setting whose text is replaced keeps its weakness.
abbrev pub setting_replaced : List ℕ → List ℕ → Setting → Setting
setting_replaced old new s = record { value = text_replaced old new s.value; weak = s.weak }

-- A value or a removal is the same at any key.
abbrev pub pending_at : List (List ℕ) → Pending → Pending
pending_at k p = p

-- The text of a value is replaced, and a removal stays.
abbrev pub pending_replaced : List ℕ → List ℕ → Pending → Pending
pending_replaced old new (pending.Put v) = pending.Put (text_replaced old new v)
pending_replaced old new pending.Gone = pending.Gone

-- Each weak one of these settings is at a key that begins with `settings`.
pub record IsWeakRightly (s : FinMap key_cmp Setting) : Type 0 where
  pub begins : (k : List (List ℕ)) (x : Setting) → get s k ≡ Some x → IsTrue x.weak → IsTrue (is_prefix settings_key k)
