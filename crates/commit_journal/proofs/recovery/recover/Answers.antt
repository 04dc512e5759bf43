use Rattle.std.proofs.Common.{refl, inl, inr}
use Rattle.std.proofs.lemmas.Option.{MatchOption-at_some, MatchOption-at_none}
use Rattle.std.proofs.lemmas.Result.{err_from_is_err_and}
use Rattle.commit_journal.proofs.Recovering.{exit_unstarted, exit_unsynced, exit_synced, exit_none, exit_bad, exit_failed, exit_carried, plain_device}
use Rattle.commit_journal.proofs.recovery.recover.Goals as goal

pub returns-in_err-path-clause-recovers : goal.returns-in_err-path-clause-recovers
returns-in_err-path-clause-recovers g c =
    let p = err_from_is_err_and c.from_residual.result c.from_residual.ensures.1 in
    exit_unstarted c.args.dir.now _ refl c.from_residual.result p.0 p.1 (inl p.2) _

pub returns-in_err-sync_first-clause-recovers : goal.returns-in_err-sync_first-clause-recovers
returns-in_err-sync_first-clause-recovers g c =
    let p = err_from_is_err_and c.from_residual-in_err-sync_first.result c.from_residual-in_err-sync_first.ensures.1 in
    exit_unsynced c.args.dir.now _ refl c.from_residual-in_err-sync_first.result p.0 p.1 (inr p.2) _ _ c.in_err-sync_first.ensures.synced

pub returns-in_err-text-clause-recovers : goal.returns-in_err-text-clause-recovers
returns-in_err-text-clause-recovers g c =
    let p = err_from_is_err_and c.from_residual-in_err-text.result c.from_residual-in_err-text.ensures.1 in
    exit_synced c.args.dir.now _ refl c.from_residual-in_err-text.result p.0 p.1 (plain_device _ p.0 p.2) _ _ _ c.in_ok-sync_first.ensures.synced
    c.read.ensures.same

pub returns-in_default-clause-recovers : goal.returns-in_default-clause-recovers
returns-in_default-clause-recovers g c =
    exit_none c.args.dir.now c.in_ok-path.path c.in_ok-path.ensures _ _ _ c.in_ok-sync_first.ensures.synced c.read.ensures.same c.in_ok-text.field-0
    c.in_ok-text.ensures.bytes c.in_default.is

pub returns-in_err-batch-clause-recovers : goal.returns-in_err-batch-clause-recovers
returns-in_err-batch-clause-recovers g c =
    let p = err_from_is_err_and c.from_residual-in_err-batch.result c.from_residual-in_err-batch.ensures.1 in
    exit_synced c.args.dir.now _ refl c.from_residual-in_err-batch.result p.0 p.1 (inl p.2) _ _ _ c.in_ok-sync_first.ensures.synced c.read.ensures.same

pub returns-in_default-2-clause-recovers : goal.returns-in_default-2-clause-recovers
returns-in_default-2-clause-recovers g c =
    exit_bad c.args.dir.now c.in_ok-path.path c.in_ok-path.ensures _ _ _ c.in_ok-sync_first.ensures.synced c.read.ensures.same c.in_ok-text.field-0
    c.in_ok-text.ensures.bytes c.in-Some.text c.in-Some.is (MatchOption-at_none _ _ c.in_default-2.is c.in_ok-batch.ensures)

pub returns-in_err-carry_out-clause-recovers : goal.returns-in_err-carry_out-clause-recovers
returns-in_err-carry_out-clause-recovers g c =
    let p = err_from_is_err_and c.from_residual-in_err-carry_out.result c.from_residual-in_err-carry_out.ensures.1 in
    exit_failed c.args.dir.now c.in_ok-path.path c.in_ok-path.ensures _ _ _ c.in_ok-sync_first.ensures.synced c.read.ensures.same c.in_ok-text.field-0
    c.in_ok-text.ensures.bytes c.in-Some.text c.in-Some.is c.in-Some-2.batch _ (MatchOption-at_some _ _ _ c.in-Some-2.is c.in_ok-batch.ensures).0
    (MatchOption-at_some _ _ _ c.in-Some-2.is c.in_ok-batch.ensures).1 c.from_residual-in_err-carry_out.result p.0 p.1 (inr p.2) _
    c.in_err-carry_out.ensures.moves

pub returns-clause-recovers : goal.returns-clause-recovers
returns-clause-recovers g c =
    exit_carried c.args.dir.now c.in_ok-path.path c.in_ok-path.ensures _ _ _ c.in_ok-sync_first.ensures.synced c.read.ensures.same c.in_ok-text.field-0
    c.in_ok-text.ensures.bytes c.in-Some.text c.in-Some.is c.in-Some-2.batch _ (MatchOption-at_some _ _ _ c.in-Some-2.is c.in_ok-batch.ensures).0
    (MatchOption-at_some _ _ _ c.in-Some-2.is c.in_ok-batch.ensures).1 _ c.in_ok-carry_out.ensures.moves
