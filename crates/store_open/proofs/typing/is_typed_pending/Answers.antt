use Rattle.std.proofs.Common.{sym, subst}
use Rattle.std.specs.Prelude.{IfOk, IsTrue, ◌↔◌}
use Rattle.json_trees.specs.declared.pending.Pending.{Pending}
use Rattle.settings_machine.specs.Typed.{IsTaken}
use Rattle.store_open.proofs.typing.is_typed_pending.Goals as goal

pub returns-in-Put : goal.returns-in-Put
returns-in-Put c = subst (λ (v : Pending). IfOk c.is_typed.result (λ t. IsTrue t ↔ IsTaken c.args.types.now c.args.key.now v)) (sym c.in-Put.is)
    c.is_typed.ensures
