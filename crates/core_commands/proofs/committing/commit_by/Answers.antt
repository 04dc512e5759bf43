use Rattle.std.proofs.Common.{rules, ◌≡◌, ◌==◌, true, false, length, List, Ok, Err, subst}
use Rattle.outside.proofs.Told.{moves_map, moves_stay, moves_then}
use Rattle.settings_machine.specs.Requests.{Request}
use Rattle.core_commands.specs.Asking.{AsksEach}
use Rattle.core_commands.proofs.Causes.{error_is}
use Rattle.core_commands.proofs.Commits.{commits_asked, commits_stopped, commits_none, commits_not}
use Rattle.core_commands.proofs.committing.commit_by.Goals as goal

-- ---- there are no pairs

pub returns-then-is_empty-clause-commits : goal.returns-then-is_empty-clause-commits
returns-then-is_empty-clause-commits g c = λ store over.
    let none : (length c.args.pairs.now == 0) ≡ true = search rules in
    moves_stay (λ h. commits_none c.args.tx c.args.pairs.now store c.no_keys.result h none c.no_keys.ensures.line c.no_keys.ensures.memory)

-- ---- it ran out of memory

pub returns-in_err-asks-clause-commits : goal.returns-in_err-asks-clause-commits
returns-in_err-asks-clause-commits g c = λ store over.
    rw (error_is c.from_residual.result _ c.from_residual.ensures.1) (moves_stay (λ h. commits_not c.args.tx c.args.pairs.now store h))

-- ---- the requests were asked

pub returns-in_err-ask_each-clause-commits : goal.returns-in_err-ask_each-clause-commits
returns-in_err-ask_each-clause-commits g c = λ store over.
    let some : (length c.args.pairs.now == 0) ≡ false = search rules in
    rw (error_is c.from_residual-in_err-ask_each.result _ c.from_residual-in_err-ask_each.ensures.1)
    (moves_map
    (λ old new asks. commits_stopped c.args.tx c.args.pairs.now store c.args.core.now over.state over.image some c.ask_each.new.core c.in_err-ask_each.field-0.0
    old new
    (subst (λ (qs : List Request). AsksEach qs (Err c.in_err-ask_each.field-0.0) c.args.core.now c.ask_each.new.core old new) c.in_ok-asks.ensures.requests
    asks))
    c.in_err-ask_each.ensures.asks)

pub returns-clause-commits : goal.returns-clause-commits
returns-clause-commits g c = λ store over.
    let some : (length c.args.pairs.now == 0) ≡ false = search rules in
    moves_then
    (λ old mid new asked asks. commits_asked c.args.tx c.args.pairs.now store c.args.core.now over.state over.image some c.ask_each.new.core
    c.ask_and_print.new.core
    c.ask_and_print.result old mid new
    (subst (λ (qs : List Request). AsksEach qs (Ok tt) c.args.core.now c.ask_each.new.core old mid) c.in_ok-asks.ensures.requests asked) asks)
    c.in_ok-ask_each.ensures.asks c.ask_and_print.ensures.asks
