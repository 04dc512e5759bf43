use Rattle.std.proofs.Common.{sym, ◌∙◌}
use Rattle.std.specs.Option.{option_copied}
use Rattle.outside.specs.Spawner.{texts}
use Rattle.host_client.proofs.Asking.{asks_nothing}
use Rattle.host_client.proofs.verbs.plain_in.Goals as goal

pub returns-else-is_question : goal.returns-else-is_question
returns-else-is_question c =
    let parts = c.in_ok-parts.parts in
    asks_nothing (texts c.args.words.now) parts.method.now parts.target.now (option_copied parts.body) c.in_ok-parts.ensures
    (sym c.is_question.ensures ∙ c.if-is_question.false)
