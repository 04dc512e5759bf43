use Rattle.std.proofs.Common.{◌∷◌, ℕ, List, ap, sym, subst}
use Rattle.std.specs.Prelude.{codes}
use Rattle.outside.specs.Spawner.{texts}
use Rattle.change_words.proofs.Words.{some_words}
use Rattle.host_client.specs.Orders.{SaysChanges}
use Rattle.host_client.proofs.Checked.{none_matches}
use Rattle.host_client.proofs.FirstWords.{plan_none}
use Rattle.host_client.proofs.changing.plan_of.Goals as goal

pub returns-in_err-tx : goal.returns-in_err-tx
returns-in_err-tx c =
    none_matches c.from_residual.result _ _ c.from_residual.ensures
    (plan_none (texts c.args.words.now) c.requires (some_words c.args.words.now c.is_empty.result c.is_empty.ensures c.if-is_empty.false) c.in_err-tx.ensures)

pub returns : goal.returns
returns c = (
  ap (λ (ws : List (List ℕ)). codes "plan" ∷ ws) c.in_ok-tx.ensures,
  λ body says. c.requires body (subst (λ (ws : List (List ℕ)). SaysChanges ws body) (sym c.in_ok-tx.ensures) says),
)
