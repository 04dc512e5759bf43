use Rattle.outside.specs.Spawner.{texts}
use Rattle.change_words.proofs.Words.{says, some_words}
use Rattle.change_words.proofs.said.body_in.Goals as goal

pub returns-in-Some : goal.returns-in-Some
returns-in-Some c =
    let each = rw c.in-Some.is at c.in_ok-changes.ensures in
    says c.args.form (texts c.args.words.now) c.in-Some.changes.items c.body_of.result
    (some_words c.args.words.now c.is_empty.result c.is_empty.ensures c.if-is_empty.false) each c.body_of.ensures
