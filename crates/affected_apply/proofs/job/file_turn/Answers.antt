use Rattle.std.proofs.Common.{ℕ, List, sym, subst}
use Rattle.outside.specs.Told.{Moves}
use Rattle.settings_machine.specs.World.{Image}
use Rattle.affected_apply.specs.Sees.{Sees}
use Rattle.affected_apply.specs.Parts.{FilesByImage, FilesWrite}
use Rattle.affected_apply.specs.declared.outcome.Turn.TheVariants as turn
use Rattle.affected_apply.proofs.Ends.{next_first}
use Rattle.affected_apply.proofs.job.file_turn.Goals as goal

pub returns-in-Some-clause-disk : goal.returns-in-Some-clause-disk
returns-in-Some-clause-disk g c = subst
    (λ (fs : List (List ℕ)). Moves (g.D.Disk.told c.args.disk.now) (g.D.Disk.told c.write_file.new.disk)
    (λ old new. (I : Image) → Sees I c.args.view.now → FilesWrite I c.args.view.now.live.now fs (turn.Wrote c.in-Some.file) old new))
    (sym (next_first c.args.files.now c.index.result.now c.len.result c.requires.some c.len.ensures c.index.ensures))
    c.in-Ok.ensures.written

pub returns-in-Err-clause-image : goal.returns-in-Err-clause-image
returns-in-Err-clause-image g c = λ I sees. subst
    (λ (fs : List (List ℕ)). FilesByImage I c.args.view.now.live.now fs (turn.Failed c.in-Err.cause))
    (sym (next_first c.args.files.now c.index.result.now c.len.result c.requires.some c.len.ensures c.index.ensures))
    (c.in-Err.ensures.image I sees)

pub returns-in-Err-clause-disk : goal.returns-in-Err-clause-disk
returns-in-Err-clause-disk g c = subst
    (λ (fs : List (List ℕ)). Moves (g.D.Disk.told c.args.disk.now) (g.D.Disk.told c.write_file.new.disk)
    (λ old new. (I : Image) → Sees I c.args.view.now → FilesWrite I c.args.view.now.live.now fs (turn.Failed c.in-Err.cause) old new))
    (sym (next_first c.args.files.now c.index.result.now c.len.result c.requires.some c.len.ensures c.index.ensures))
    c.in-Err.ensures.written
