use Rattle.std.proofs.Common.{◌≡◌, ℕ, List, Ok, sym, ◌∙◌, ap, subst}
use Rattle.std.specs.FinMap.{get}
use Rattle.outside.specs.DiskCalls.{Writes}
use Rattle.outside.proofs.Told.{moves_map}
use Rattle.metadata_links.specs.declared.manifest.Manifest.{Manifest}
use Rattle.settings_machine.specs.World.{path_in, rendered}
use Rattle.affected_apply.proofs.Renders.{write_one}
use Rattle.affected_apply.proofs.files.write_file.Goals as goal

pub returns-in-Ok-clause-written : goal.returns-in-Ok-clause-written
returns-in-Ok-clause-written g c = moves_map
    (λ old new wrote I sees. write_one I c.args.view.now.live.now c.args.file.now c.as_slice.result.now c.put.result
    (subst (λ (l : List ℕ). rendered I c.args.file.now c.args.view.now.live.now ≡ Ok l) (sym c.as_slice.ensures.value)
    (ap (rendered I c.args.file.now) (sym c.of.ensures) ∙ c.in-Ok.ensures.ok.renders I sees.templates sees.os))
    c.put.ensures.cause old new
    (subst (λ (m : Manifest). Writes (path_in (get m.files c.args.file.now)) c.as_slice.result.now c.put.result old new) sees.manifest wrote))
    c.put.ensures.written
