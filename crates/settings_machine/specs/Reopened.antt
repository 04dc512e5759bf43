-- What an opening leaves as it was, and what one opening after another does.
use Rattle.std.specs.Prelude.{◌≡◌, Bool, true, ◌||◌, Some}
use Rattle.std.specs.FinMap.{get}
use Rattle.key_names.specs.Key.{is_prefix}
use Rattle.json_trees.specs.declared.scalar.Scalar.{Scalar}
use Rattle.settings_tree.specs.Content.{settings_key}
use Rattle.settings_machine.specs.World.{Key, Image, World}
use Rattle.settings_machine.specs.Step.{opened}
use Rattle.settings_machine.specs.Events.{Opening, opening_next}

-- Each live setting has its value, and each transaction what it has pending.
pub record KeepsSettings (W X : World) : Type 0 where
  pub settings : (key : Key) (value : Scalar) → is_prefix settings_key key ≡ true → get W.held.live.values key ≡ Some value
      → get X.held.live.values key ≡ Some value
  pub pending : X.held.pending ≡ W.held.pending

-- An opening, taken or not, changes no live setting and nothing that is pending.
abbrev pub OpeningsKeepSettings : Type 0
OpeningsKeepSettings = (I : Image) (W : World) (boot : Bool) (o : Opening) → KeepsSettings W (opening_next I W boot o)

-- Two openings one after the other are one, which is at a boot where one of them is.
abbrev pub OpeningTwiceIsOnce : Type 0
OpeningTwiceIsOnce = (I : Image) (W : World) (first second : Bool) → opened I (opened I W first) second ≡ opened I W (first || second)
