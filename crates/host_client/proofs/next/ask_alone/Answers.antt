use Rattle.std.proofs.Common.{◌≡◌, IfOk, subst}
use Rattle.host_client.specs.Steps.{asking}
use Rattle.host_client.specs.declared.step.Question.{Question}
use Rattle.host_client.proofs.next.ask_alone.Goals as goal

pub returns-clause-step : goal.returns-clause-step
returns-clause-step c = subst (λ (q : Question). IfOk c.asking.result (λ step. step ≡ asking q)) c.in_ok-question.ensures c.asking.ensures.step
