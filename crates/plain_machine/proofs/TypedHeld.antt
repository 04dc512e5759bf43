-- What is held is typed where it has nothing pending, and stays so where what is owed alone changes.
use Rattle.std.proofs.Common.{◌≡◌, ℕ, List, Option, Some, None, sym, ◌∙◌, ap, subst}
use Rattle.std.specs.Prelude.{unwrap_or}
use Rattle.std.specs.FinMap.{FinMap, get, empty, get-empty}
use Rattle.key_names.specs.Order.{bytes_cmp, key_cmp}
use Rattle.json_trees.specs.declared.pending.Pending.{Pending}
use Rattle.json_trees.specs.declared.scalar.Scalar.{Scalar}
use Rattle.settings_maps.specs.Maps.{value_at}
use Rattle.settings_tree.specs.declared.held.Held.{Held}
use Rattle.typed_settings.specs.declared.row.Row.{Row}
use Rattle.settings_machine.specs.Typed.{HasTypedSettings, IsTypedHeld}
use Rattle.settings_machine.specs.World.{Key, KeepsAllButOwed}

abbrev Maps : Type 0
Maps = FinMap bytes_cmp (FinMap key_cmp Pending)

-- What has nothing pending is typed where its settings are.
pub typed_unpending : (types : List Row) (held : Held) → HasTypedSettings types held.live → held.pending ≡ empty → IsTypedHeld types held
typed_unpending types held settings none = record { settings = settings; pending = λ tx key p e. absurd (never tx key p e) } where
  never : (tx : List ℕ) (key : Key) (p : Pending) → value_at held.pending tx key ≡ Some p → ⊥
  never tx key p e =
      by (get held.pending tx) (ap (λ (m : Maps). get m tx) none ∙ get-empty {X = FinMap key_cmp Pending} bytes_cmp tx) e where
        by : (o : Option (FinMap key_cmp Pending)) → o ≡ None → get (unwrap_or o empty) key ≡ Some p → ⊥
        by None is e' = cc (get-empty {X = Pending} key_cmp key, e')
        by (Some m) is e' = absurd (cc is)

-- No settings are typed.
pub typed_nothing : (types : List Row) (held : Held) → held.live.values ≡ empty → HasTypedSettings types held.live
typed_nothing types held none = record { typed = λ key value e not_image. absurd (never key value e) } where
  never : (key : Key) (value : Scalar) → get held.live.values key ≡ Some value → ⊥
  never key value e = cc (get-empty {X = Scalar} key_cmp key, ap (λ (m : FinMap key_cmp Scalar). get m key) none, e)

pub typed_kept : (types : List Row) (old new : Held) → KeepsAllButOwed old new → IsTypedHeld types old → IsTypedHeld types new
typed_kept types old new kept typed = subst (IsTypedHeld types) (sym kept) (record { settings = typed.settings; pending = typed.pending })
