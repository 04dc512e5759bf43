use Rattle.std.proofs.Common.{[], ◌∷◌, ◌∙◌, ap, List}
use Rattle.std.specs.Prelude.{ℕ}
use Rattle.outside.specs.Exchange.{fresh}
use Rattle.load_input.proofs.asking.connection.Goals as goal

pub returns-clause-fresh : goal.returns-clause-fresh
returns-clause-fresh c =
    c.in_ok-accept.ensures.fresh c.in_ok-input.input c.in_ok-door.ensures.inputs ∙ ap (λ (l : List ℕ). fresh l ∷ []) c.in_ok-input.ensures
