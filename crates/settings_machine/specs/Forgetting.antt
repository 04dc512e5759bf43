-- What the forgetting of keys does.
use Rattle.std.specs.Prelude.{◌≡◌, ℕ, true, false, List, [], ◌∷◌, Some, None, is_some}
use Rattle.std.specs.FinMap.{get}
use Rattle.json_trees.specs.declared.pending.Pending.{Pending}
use Rattle.json_trees.specs.declared.scalar.Scalar.{Scalar}
use Rattle.settings_maps.specs.KeyList.{has_key}
use Rattle.settings_maps.specs.Maps.{value_at}
use Rattle.settings_tree.specs.declared.held.Held.{Held}
use Rattle.typed_settings.specs.Row.{IsTyped}
use Rattle.settings_machine.specs.World.{Key, Image, World, is_running}
use Rattle.settings_machine.specs.Typed.{is_of_image, MayPend, IsTypedHeld}
use Rattle.settings_machine.specs.Covered.{IsCovered}
use Rattle.settings_machine.specs.Events.{Forgot, next}
use Rattle.settings_machine.specs.Paid.{IsWithin, IsPaid, IsGood}

-- These keys have no value any more, live or pending, and those that had a live one are owed. What isn't named stays.
pub record AreForgotten (keys : List Key) (before now : Held) : Type 0 where
  pub gone_live : (key : Key) → has_key keys key ≡ true → get now.live.values key ≡ None
  pub gone_pending : (tx : List ℕ) (key : Key) → has_key keys key ≡ true → value_at now.pending tx key ≡ None
  pub owed : (key : Key) → has_key keys key ≡ true → is_some (get before.live.values key) ≡ true → IsWithin (key ∷ []) now.owed
  pub live : (key : Key) → has_key keys key ≡ false → get now.live.values key ≡ get before.live.values key
  pub pending : (tx : List ℕ) (key : Key) → has_key keys key ≡ false → value_at now.pending tx key ≡ value_at before.pending tx key
  pub metadata : now.live.metadata ≡ before.live.metadata
  pub image : now.image ≡ before.image

-- Forgetting forgets the keys that are named, and no other.
abbrev pub ForgettingForgets : Type 0
ForgettingForgets = (I : Image) (W : World) (keys : List Key) → AreForgotten keys W.held (next I W (Forgot keys)).held

-- The types take each value, live or pending, but those of these keys.
pub record IsTypedBut (I : Image) (keys : List Key) (held : Held) : Type 0 where
  pub settings : (key : Key) (value : Scalar) → get held.live.values key ≡ Some value → is_of_image key ≡ false → has_key keys key ≡ false
      → IsTyped I.types key value
  pub pending : (tx : List ℕ) (key : Key) (p : Pending) → value_at held.pending tx key ≡ Some p → has_key keys key ≡ false → MayPend I.types key p

-- Where each key whose value the types refuse is forgotten, the world is typed after it, so that it can be opened.
abbrev pub ForgettingMendsTypes : Type 0
ForgettingMendsTypes = (I : Image) (W : World) (keys : List Key) → IsTypedBut I keys W.held → IsTypedHeld I.types (next I W (Forgot keys)).held

-- Where no job runs, a covered file is paid after it that was.
abbrev pub ForgettingPays : Type 0
ForgettingPays = (I : Image) → IsGood I → (W : World) (keys : List Key) → is_running W.job ≡ false → (f : List ℕ) → IsCovered I f → IsPaid I W f
    → IsPaid I (next I W (Forgot keys)) f
