use Rattle.std.proofs.Common.{◌∙◌}
use Rattle.std.proofs.lemmas.Result.{IfOk-weaker}
use Rattle.api_http.proofs.Sent.{sent_as_json}
use Rattle.api_http.proofs.answer.said_reply.Goals as goal

pub returns : goal.returns
returns c =
    IfOk-weaker c.print_text.result _ _
    (λ reply is. record { text = c.in_ok-text.text; is_text = c.in_ok-text.ensures; sent_is = is ∙ sent_as_json c.args.body.now c.in_ok-text.text })
    c.print_text.ensures
