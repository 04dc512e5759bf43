-- Whether what is held fits a table of types, and an image.
use Rattle.std.specs.Prelude.{◌≡◌, ℕ, List, true, false, Some}
use Rattle.std.specs.declared.cmp.Ordering.TheVariants.{Less}
use Rattle.std.specs.FinMap.{get}
use Rattle.key_names.specs.Order.{bytes_cmp, key_cmp}
use Rattle.json_trees.specs.declared.scalar.Scalar.{Scalar}
use Rattle.json_trees.specs.declared.pending.Pending.{Pending}
use Rattle.settings_maps.specs.Maps.{value_at}
use Rattle.settings_tree.specs.Content.{Contents}
use Rattle.settings_tree.specs.declared.held.Held.{Held}
use Rattle.settings_machine.specs.Typed.{is_of_image, MayPend, HasTypedSettings, IsTypedHeld}
use Rattle.typed_settings.specs.Row.{IsTyped}
use Rattle.typed_settings.specs.declared.row.Row.{Row}

-- What is held is typed, and its services, configuration files, metadata and image text are those of an image with these types, this content and this text.
pub record FitsImage (types : List Row) (content : Contents) (image_text : List ℕ) (held : Held) : Type 0 where
  pub typed : IsTypedHeld types held
  pub values : (key : List (List ℕ)) → is_of_image key ≡ true → get held.live.values key ≡ get content.values key
  pub metadata : held.live.metadata ≡ content.metadata
  pub text : held.image ≡ image_text

-- ---- the first ill typed key

-- All that is pending in the transaction may be pending there.
pub record HasTypedPendingOf (types : List Row) (held : Held) (tx : List ℕ) : Type 0 where
  pub pending : (key : List (List ℕ)) (value : Pending) → value_at held.pending tx key ≡ Some value → MayPend types key value

-- And so it is in each transaction.
pub record HasTypedPending (types : List Row) (held : Held) : Type 0 where
  pub each : (tx : List ℕ) → HasTypedPendingOf types held tx

-- The live setting is ill typed.
pub record IsBadLive (types : List Row) (held : Held) (key : List (List ℕ)) : Type 0 where
  pub value : Scalar
  pub there : get held.live.values key ≡ Some value
  pub setting : is_of_image key ≡ false
  pub untyped : IsTyped types key value → ⊥

-- What is pending for the key in the transaction may not be there.
pub record IsBadPending (types : List Row) (held : Held) (tx : List ℕ) (key : List (List ℕ)) : Type 0 where
  pub value : Pending
  pub there : value_at held.pending tx key ≡ Some value
  pub unfit : MayPend types key value → ⊥

-- It is the first such live setting.
pub record IsFirstBadLive (types : List Row) (held : Held) (key : List (List ℕ)) : Type 0 where
  pub bad : IsBadLive types held key
  pub first : (earlier : List (List ℕ)) → key_cmp earlier key ≡ Less → IsBadLive types held earlier → ⊥

-- It is the first such key of the transaction.
pub record IsFirstBadPendingOf (types : List Row) (held : Held) (tx : List ℕ) (key : List (List ℕ)) : Type 0 where
  pub bad : IsBadPending types held tx key
  pub first : (earlier : List (List ℕ)) → key_cmp earlier key ≡ Less → IsBadPending types held tx earlier → ⊥

-- It is the first such key of the first transaction that has one.
pub record IsFirstBadPending (types : List Row) (held : Held) (key : List (List ℕ)) : Type 0 where
  pub tx : List ℕ
  pub of : IsFirstBadPendingOf types held tx key
  pub first : (earlier : List ℕ) → bytes_cmp earlier tx ≡ Less → HasTypedPendingOf types held earlier

-- The first ill typed key: of the live settings, and else of the transactions in their order.
pub data IsIllTyped (types : List Row) (held : Held) (key : List (List ℕ)) : Type 0 where
  live : IsFirstBadLive types held key → IsIllTyped types held key
  pending : HasTypedSettings types held.live → IsFirstBadPending types held key → IsIllTyped types held key
