use Rattle.std.proofs.Common.{◌≡◌, ◌∷◌, ℕ, List, rules, string_bytes, sym, subst}
use Rattle.std.specs.Prelude.{codes}
use Rattle.outside.specs.Spawner.{texts}
use Rattle.host_client.specs.Orders.{SpellsNone}
use Rattle.host_client.proofs.FirstWords.{edit_none}
use Rattle.host_client.proofs.changing.edit_in.Goals as goal

pub returns-in-None : goal.returns-in-None
returns-in-None c =
    let is : texts c.args.words.now ≡ string_bytes c.in-Some.tx.now ∷ texts c.in-Some.rest.now = search rules in
    subst (λ (ws : List (List ℕ)). SpellsNone (codes "edit" ∷ ws)) (sym is)
    (edit_none (string_bytes c.in-Some.tx.now) (texts c.in-Some.rest.now) (rw c.in-None.is at c.in_ok-body.ensures))
