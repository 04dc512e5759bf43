use Rattle.std.proofs.Common.{arith, ◌≡◌, ℕ, ◌<◌, List, [], ◌∷◌, String, Global, length, get_or, drop, string_bytes, IfOk, sym, ap, ◌∙◌, subst, drop-cons}
use Rattle.outside.specs.Spawner.{texts}
use Rattle.host_client.specs.Steps.{asking, below_question, after_each}
use Rattle.host_client.specs.declared.reply.Got.{Got}
use Rattle.host_client.specs.declared.step.Step.{Step}
use Rattle.host_client.proofs.next.after_each.Goals as goal

-- with no further reply the key's question comes next
asked_next : (keys : List (String Global)) (i : ℕ) (key : String Global) (rest all : List Got) → i < length keys → length rest < 1
    → after_each (texts (drop i keys)) rest all ≡ asking (below_question (string_bytes (get_or keys i key)))
asked_next keys i key (reply ∷ rest) all within none = absurd (omega arith)
asked_next keys i key [] all within none = ap (λ ks. after_each (texts ks) [] all) (drop-cons keys i key within)

pub returns-in-empty-clause-step : goal.returns-in-empty-clause-step
returns-in-empty-clause-step c =
    let keys = c.args.keys.now in
    let next = asked_next keys c.loop-key.key-index c.key-item.result c.loop-key.rest.now c.args.replies.now c.loop-key-test.true c.in-empty.len_below in
    let is = ap (λ key. asking (below_question key)) (c.as_bytes.ensures.value ∙ ap string_bytes c.key-item.is) ∙ sym next ∙ c.loop-key.invariant in
    subst (λ (s : Step). IfOk c.ask_below.result (λ step. step ≡ s)) is c.ask_below.ensures.step
