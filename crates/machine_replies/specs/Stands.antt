-- What holds of a host.
use Rattle.model_file.specs.Model.{AreTyped}
use Rattle.opening_step.specs.Step.{AreSettings}
use Rattle.plain_machine.specs.declared.image.PlainImage.{PlainImage}
use Rattle.settings_machine.specs.Typed.{IsTypedHeld}
use Rattle.settings_tree.specs.declared.held.Held.{Held}
use Rattle.typed_settings.specs.Order.{IsTable}

-- The image is one that was read, and what is held, now and as it was kept, is typed by it.
pub record Stands (image : PlainImage) (now then : Held) : Type 0 where
  pub table : IsTable image.types
  pub defaults : AreTyped image.types image.defaults.values
  pub settings : AreSettings image.defaults.values
  pub typed : IsTypedHeld image.types now
  pub kept : IsTypedHeld image.types then
