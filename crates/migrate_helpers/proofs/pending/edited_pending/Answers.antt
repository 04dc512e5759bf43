use Rattle.std.proofs.Common.{rules, ◌≡◌, ◌≢◌, Ok, Err, ◌∙◌, ap, subst}
use Rattle.std.specs.FinMap.{entries}
use Rattle.settings_maps.specs.Maps.{with_inner}
use Rattle.migrate_helpers.specs.declared.map_error.MapError.{MapError}
use Rattle.migrate_helpers.specs.declared.map_error.MapError.TheVariants.{Memory}
use Rattle.migrate_helpers.specs.Conflict.{conflict}
use Rattle.migrate_helpers.specs.Mapped.{first_conflict, pending_edited, transactions_edited, unless_conflict}
use Rattle.migrate_helpers.specs.Borrowed.{step_of}
use Rattle.migrate_helpers.specs.Laws.Transactions.{edited_start, edited_next, edited_refused, edited_end}
use Rattle.migrate_helpers.proofs.pending.edited_pending.Goals as goal

pub loop-tx-init : goal.loop-tx-init
loop-tx-init c =
    let all : c.into_iter-tx-iterator.result ≡ entries c.args.pending.now = search rules in
    edited_start (step_of c.args.edit.now) c.args.pending.now c.new-made.result _ c.new-made.ensures all

pub loop-tx-preserved : goal.loop-tx-preserved
loop-tx-preserved c =
    let step = step_of c.args.edit.now in
    edited_next step c.args.pending.now c.loop-tx.made c.loop-tx.tx-iterator c.next.new.self c.in-Some.tx.now c.in-Some.keys.now
    c.in-Some.ensures.steps c.loop-tx.invariant c.in_ok-keys.keys c.set_keys.new.self
    (subst (λ m. unless_conflict (conflict (pending_edited step m)) (pending_edited step m) ≡ Ok c.in_ok-keys.keys) c.in_ok-copied.ensures
    c.in_ok-keys.ensures.ok)
    (c.in_ok-set_keys.ensures.ok ∙ ap (λ t. with_inner c.loop-tx.made t c.in_ok-keys.keys) c.in_ok-copy.ensures)

pub of-requires : goal.of-requires
of-requires c = c.loop-tx.invariant.pending

pub returns-clause-ok : goal.returns-clause-ok
returns-clause-ok c = edited_end (step_of c.args.edit.now) c.args.pending.now c.loop-tx.made c.of.result c.loop-tx.tx-iterator (search rules)
    c.loop-tx.invariant c.of.ensures

pub returns-in_err-keys-clause-err : goal.returns-in_err-keys-clause-err
returns-in_err-keys-clause-err c =
    let step = step_of c.args.edit.now in
    let e : MapError = c.in_err-keys.field-0.0 in
    let told : e ≢ Memory → unless_conflict (first_conflict step (entries c.args.pending.now)) (transactions_edited step c.args.pending.now) ≡ Err e =
    λ other. edited_refused step c.args.pending.now c.loop-tx.made c.loop-tx.tx-iterator c.next.new.self c.in-Some.tx.now c.in-Some.keys.now
    c.in-Some.ensures.steps c.loop-tx.invariant e
    (subst (λ m. unless_conflict (conflict (pending_edited step m)) (pending_edited step m) ≡ Err e) c.in_ok-copied.ensures (c.in_err-keys.ensures.err other))
    in
    search (rules, told)
