use Rattle.std.proofs.Common.{arith, ◌≡◌, ◌≤◌, List, [], ◌∷◌, String, Global, length, IfOk, refl, subst}
use Rattle.outside.specs.Spawner.{texts}
use Rattle.host_client.specs.Steps.{after_each, after_missing}
use Rattle.host_client.specs.declared.reply.Got.{Got}
use Rattle.host_client.specs.declared.step.Step.{Step}
use Rattle.host_client.proofs.next.after_missing.Goals as goal

-- several keys are asked for one by one
several : (keys : List (String Global)) (reply : Got) (replies : List Got) → 2 ≤ length keys
    → after_each (texts keys) replies replies ≡ after_missing (texts keys) reply replies
several [] reply replies many = absurd (omega arith)
several (key ∷ []) reply replies many = absurd (omega arith)
several (key ∷ other ∷ keys) reply replies many = refl

pub returns-in-len2-up-clause-step : goal.returns-in-len2-up-clause-step
returns-in-len2-up-clause-step c =
    subst (λ (s : Step). IfOk c.after_each.result (λ step. step ≡ s)) (several c.args.keys.now c.args.reply.now c.args.replies.now c.in-len2-up.len_at_least)
    c.after_each.ensures.step
