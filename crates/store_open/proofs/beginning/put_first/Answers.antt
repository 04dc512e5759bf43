use Rattle.std.proofs.Common.{Result, Ok, Err, inl, sym, subst}
use Rattle.std.proofs.lemmas.Result.{err_from_is_err_and}
use Rattle.outside.specs.Told.{Moves}
use Rattle.outside.proofs.Told.{moves_map, moves_then}
use Rattle.store_open.specs.Beginning.{Places}
use Rattle.store_open.specs.declared.begin_error.InitError.{InitError}
use Rattle.store_open.proofs.Begun.{plain_disk, saved_as, unsaved, unflipped, placed}
use Rattle.store_open.proofs.beginning.put_first.Goals as goal

pub returns-in_err-save_all-clause-places : goal.returns-in_err-save_all-clause-places
returns-in_err-save_all-clause-places g c =
    let p = err_from_is_err_and c.from_residual.result c.from_residual.ensures.1 in
    let target = c.args.names.now in
    subst (λ (r : Result Unit InitError). Moves (g.D.Disk.told c.args.disk.now) (g.D.Disk.told c.save_all.new.disk) (Places target c.args.held.now r)) (sym p.1)
    (moves_map (λ old new saves. unsaved target c.args.held.now c.in_err-save_all.field-0.0 p.0 old new
    (saved_as target c.args.held.now c.directory.result.now (Err c.in_err-save_all.field-0.0) old new c.directory.ensures.path saves)
    (plain_disk c.in_err-save_all.field-0.0 p.0 p.2)) c.in_err-save_all.ensures.saves)

pub returns-in_err-flip-clause-places : goal.returns-in_err-flip-clause-places
returns-in_err-flip-clause-places g c =
    let p = err_from_is_err_and c.from_residual-in_err-flip.result c.from_residual-in_err-flip.ensures.1 in
    let target = c.args.names.now in
    subst (λ (r : Result Unit InitError). Moves (g.D.Disk.told c.args.disk.now) (g.D.Disk.told c.flip.new.disk) (Places target c.args.held.now r)) (sym p.1)
    (moves_then (λ old mid new saves flips. unflipped target c.args.held.now old mid new _
    (saved_as target c.args.held.now c.directory.result.now (Ok c.in_ok-save_all.field-0) old mid c.directory.ensures.path saves)
    c.in_err-flip.field-0.0 p.0 flips (inl p.2)) c.in_ok-save_all.ensures.saves c.in_err-flip.ensures.flips)

pub returns-clause-places : goal.returns-clause-places
returns-clause-places g c =
    let target = c.args.names.now in
    moves_then (λ old mid new saves flips. placed target c.args.held.now old mid new _
    (saved_as target c.args.held.now c.directory.result.now (Ok c.in_ok-save_all.field-0) old mid c.directory.ensures.path saves) _ flips)
    c.in_ok-save_all.ensures.saves c.in_ok-flip.ensures.flips
