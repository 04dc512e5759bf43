-- A guarded change is made, or nothing changes.
use Rattle.std.proofs.Common.{ℕ, Bool, true, false, if◌then◌else◌, List, Option, Some, None}
use Rattle.settings_tree.specs.declared.entry.Owed.TheVariants as owed
use Rattle.metadata_links.specs.Links.{files_of}
use Rattle.template_eval.specs.declared.render_error.RenderError.{RenderError}
use Rattle.settings_machine.specs.World.{Key, Image, World}
use Rattle.settings_machine.specs.Requests.{is_success}
use Rattle.settings_machine.specs.Plans.{first_refusing}
use Rattle.settings_machine.specs.Step.{Next, unless_refusing, guarded_next}

-- What holds of the world before and of the one that was to come next holds of the next one.
pub guarded_one : (I : Image) (P : World → Type 0) (W : World) (changed : List Key) (n : Next) → P W → P n.world → P (guarded_next I W changed n).world
guarded_one I P W changed n old new = by (is_success n.reply) where
  unless : (o : Option (List ℕ × RenderError)) → P (unless_refusing W n o).world
  unless None = new
  unless (Some refusal) = old

  by : (b : Bool)
      → P (if b then unless_refusing W n (first_refusing I n.world.held.live (files_of I.manifest (owed.Keys changed))) else n).world
  by true = unless (first_refusing I n.world.held.live (files_of I.manifest (owed.Keys changed)))
  by false = new
