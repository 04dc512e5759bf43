use Rattle.machine_answers.proofs.refusal_body.refusal_text.Goals as goal

pub returns-in-NoPending : goal.returns-in-NoPending
returns-in-NoPending c =
    let told = rw c.as_str-in-NoPending.ensures.bytes at c.object_text-in-NoPending.ensures in
    rw c.in-NoPending.is told
