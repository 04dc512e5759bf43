use Rattle.std.proofs.lemmas.Result.{IfOk-weaker}
use Rattle.api_http.proofs.answer.print_answer.Goals as goal

pub returns-in-File : goal.returns-in-File
returns-in-File c =
    IfOk-weaker c.file_reply.result _ _
    (λ reply is. rw c.in-File.is (record { text = c.as_slice.result.now; is_text = c.as_slice.ensures; sent_is = is }))
    c.file_reply.ensures
