use Rattle.std.proofs.Common.{◌∙◌, refl, sym, ap, subst, reverse}
use Rattle.std.specs.Prelude.{map}
use Rattle.outside.proofs.Told.{moves_map}
use Rattle.metadata_links.specs.Commands.{seen}
use Rattle.settings_machine.specs.World.{Work}
use Rattle.affected_apply.specs.Work.{JobAt}
use Rattle.affected_apply.specs.Turning.{Advances}
use Rattle.affected_apply.proofs.JobTurns.{files_image, files_disk, commands_advance}
use Rattle.affected_apply.proofs.Ends.{none_left}
use Rattle.affected_apply.proofs.job.Job.step.Goals as goal

-- a file is next
pub returns-then-not-is_empty-clause-image : goal.returns-then-not-is_empty-clause-image
returns-then-not-is_empty-clause-image g c = λ I sees. files_image I c.args.view.now.live.now c.args.self.now.work (reverse c.self.inside.files.items)
    (sym (ap (λ (j : JobAt). j.work.files) c.self.view_is)) c.file_turn.result (reverse c.file_turn.new.files.items) c.file_turn.ensures.files
    (c.file_turn.ensures.image I sees)

pub returns-then-not-is_empty-clause-disk : goal.returns-then-not-is_empty-clause-disk
returns-then-not-is_empty-clause-disk g c = moves_map
    (λ old new h I sees. files_disk I c.args.view.now.live.now c.args.self.now.work (reverse c.self.inside.files.items)
    (sym (ap (λ (j : JobAt). j.work.files) c.self.view_is)) c.file_turn.result (reverse c.file_turn.new.files.items) c.file_turn.ensures.files
    old new (h I sees))
    c.file_turn.ensures.disk

-- no file is left, and a command is next
pub returns-then-not-is_empty-2-clause-work : goal.returns-then-not-is_empty-2-clause-work
returns-then-not-is_empty-2-clause-work g c =
    let w : Work = record {
      files = reverse c.self.inside.files.items;
      commands = map seen (reverse c.self.inside.commands.items);
      since = c.self.inside.since;
      again = c.self.inside.again;
    } in
    let left = map seen (reverse c.command_turn.new.commands.items) in
    subst (λ (j : JobAt). Advances j.work c.command_turn.result (record w { commands = left })) c.self.view_is
    (commands_advance w w.commands (ap reverse (none_left c.self.inside.files (sym c.is_empty.ensures ∙ c.if-not-is_empty.false))) refl c.command_turn.result
    left
    c.command_turn.ensures.commands)
