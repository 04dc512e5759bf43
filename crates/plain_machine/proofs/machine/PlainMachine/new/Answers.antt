use Rattle.std.proofs.Common.{ap}
use Rattle.settings_tree.specs.Content.{Contents}
use Rattle.settings_tree.specs.declared.entry.Owed.TheVariants.{All}
use Rattle.settings_tree.specs.declared.held.Held.{Held}
use Rattle.plain_machine.proofs.TypedHeld.{typed_unpending, typed_nothing}
use Rattle.plain_machine.proofs.machine.PlainMachine.new.Goals as goal

pub returns-clause-typed : goal.returns-clause-typed
returns-clause-typed c = λ types.
    let held : Held = record { live = c.new.result; pending = c.new-2.result; owed = All; image = c.of.result } in
    typed_unpending types held (typed_nothing types held (ap (λ (x : Contents). x.values) c.new.ensures)) c.new-2.ensures
