-- What a report of a store is.
use Rattle.std.specs.Prelude.{◌≡◌, ℕ, Bool, true, false, List, [], ◌++◌, length, nat_lt}
use Rattle.std.specs.List.{flat_map}
use Rattle.std.specs.FinMap.{keys}
use Rattle.settings_tree.specs.declared.held.Held.{Held}
use Rattle.template_eval.specs.declared.render_error.RenderError.{RenderError}
use Rattle.store_image.specs.declared.image.Image as own
use Rattle.settings_machine.specs.World.{Image}
use Rattle.settings_machine.specs.Opening.{opened_held}
use Rattle.settings_machine.specs.Plans.{refusing}
use Rattle.store_open.specs.Laws.{HoldsImage}
use Rattle.store_report.specs.IllTyped.{ill_live, ill_pending, ill_typed}
use Rattle.store_report.specs.Lines.{ill_typed_line, render_line}
use Rattle.store_report.specs.declared.reporting.StoreReport.{StoreReport}

-- The files whose templates refuse on what an opening makes of what is held, by name; none where a value is ill typed, since an opening
-- makes nothing of it then.
abbrev pub AreRefusedBy : Bool → own.Image → Held → List (List ℕ × RenderError) → Type 0
AreRefusedBy true image held refused = refused ≡ []
AreRefusedBy false image held refused = (I : Image) → HoldsImage I image → refusing I (opened_held I held false).live (keys I.manifest.files) ≡ refused

-- The lines of the live values that the types refuse, of the pending ones, and of the files that would refuse; and whether there is one
-- of the first two kinds, and one of the third.
pub record IsStoreReport (image : own.Image) (held : Held) (report : StoreReport) : Type 0 where
  pub refused : List (List ℕ × RenderError)
  pub lines_are : report.lines ≡ flat_map ill_typed_line (ill_live image.model.types held.live.values)
      ++ flat_map ill_typed_line (ill_pending image.model.types held.pending) ++ flat_map render_line refused
  pub ill_typed_is : report.ill_typed ≡ nat_lt 0 (length (ill_typed image.model.types held))
  pub refuses_is : report.refuses ≡ nat_lt 0 (length refused)
  pub files_are : AreRefusedBy report.ill_typed image held refused

-- ---- for private clauses

-- It is what an opening makes of what is held.
pub record IsOpenedBy (image : own.Image) (held opened : Held) : Type 0 where
  pub is : (I : Image) → HoldsImage I image → opened ≡ opened_held I held false
