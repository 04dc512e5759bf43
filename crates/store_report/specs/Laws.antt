-- Laws of reports: which stores are reported ill typed, and what mends them.
use Rattle.std.specs.Prelude.{◌≡◌, false}
use Rattle.settings_tree.specs.declared.held.Held.{Held}
use Rattle.typed_settings.specs.Order.{IsTable}
use Rattle.store_image.specs.declared.image.Image as own
use Rattle.settings_machine.specs.World.{Image}
use Rattle.settings_machine.specs.Typed.{IsTypedHeld}
use Rattle.settings_machine.specs.Forgetting.{IsTypedBut}
use Rattle.store_open.specs.Laws.{HoldsImage}
use Rattle.store_report.specs.IllTyped.{told_keys}
use Rattle.store_report.specs.Report.{IsStoreReport}
use Rattle.store_report.specs.declared.reporting.StoreReport.{StoreReport}

-- A store of which no value is reported is typed.
abbrev pub UntoldIsTyped : Type 0
UntoldIsTyped = (I : Image) (image : own.Image) → HoldsImage I image → (held : Held) (report : StoreReport) → IsStoreReport image held report
    → report.ill_typed ≡ false → IsTypedHeld I.types held

-- Of a store that is typed no value is reported.
abbrev pub TypedIsUntold : Type 0
TypedIsUntold = (I : Image) → IsTable I.types → (image : own.Image) → HoldsImage I image → (held : Held) (report : StoreReport)
    → IsStoreReport image held report → IsTypedHeld I.types held → report.ill_typed ≡ false

-- A store is typed but for the values at the keys of the lines of ill typed values.
abbrev pub ToldMendsTypes : Type 0
ToldMendsTypes = (I : Image) (held : Held) → IsTypedBut I (told_keys I.types held) held
