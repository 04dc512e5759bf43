use Rattle.std.proofs.Common.{subst, rules}
use Rattle.typed_settings.specs.Row.{AreApart, IsTyped}
use Rattle.typed_settings.specs.Faults.{IsIllTyped}
use Rattle.typed_settings.specs.declared.type_error.TypeError.TheVariants.{Wrong}
use Rattle.typed_settings.proofs.Apart.{one_cause, no_cause}
use Rattle.typed_settings.proofs.types.Types.check.Goals as goal

pub returns-then-branch-clause-exact : goal.returns-then-branch-clause-exact
returns-then-branch-clause-exact c =
    let typed : IsTyped c.args.self.now c.args.key.now c.args.value.now = search rules in
    λ fault is. no_cause c.args.self.now (subst AreApart c.self.view_is c.self.invariant.apart) c.args.key.now c.args.value.now fault typed is

pub returns-clause-exact : goal.returns-clause-exact
returns-clause-exact c =
    let here : IsIllTyped c.args.self.now c.args.key.now c.args.value.now (Wrong c.in_ok-key-2.key c.in_ok-wanted.wanted) = search rules in
    λ fault is _. one_cause c.args.self.now (subst AreApart c.self.view_is c.self.invariant.apart) c.args.key.now c.args.value.now
    (Wrong c.in_ok-key-2.key c.in_ok-wanted.wanted) fault here is

pub returns-clause-no_fault : goal.returns-clause-no_fault
returns-clause-no_fault c =
    let here : IsIllTyped c.args.self.now c.args.key.now c.args.value.now (Wrong c.in_ok-key-2.key c.in_ok-wanted.wanted) = search rules in
    λ typed. absurd (no_cause c.args.self.now (subst AreApart c.self.view_is c.self.invariant.apart) c.args.key.now c.args.value.now
    (Wrong c.in_ok-key-2.key c.in_ok-wanted.wanted) typed here)
