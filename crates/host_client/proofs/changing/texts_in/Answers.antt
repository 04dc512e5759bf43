use Rattle.std.proofs.Common.{◌≡◌, ◌∷◌, rules, sym, ◌∙◌}
use Rattle.std.proofs.lemmas.Slice.Eq.{bytes_eq-Decides}
use Rattle.std.specs.Prelude.{codes}
use Rattle.outside.specs.Spawner.{texts}
use Rattle.host_client.proofs.FirstWords.{texts_said}
use Rattle.host_client.proofs.changing.texts_in.Goals as goal

pub returns-then-eq : goal.returns-then-eq
returns-then-eq c =
    let is : texts c.args.words.now ≡ c.as_str.result.now ∷ texts c.in-Some.pairs.now = search rules in
    let first : c.as_str.result.now ≡ codes "--text" = (bytes_eq-Decides c.as_str.result.now (codes "--text")).0 (sym c.eq.ensures ∙ c.if-eq.true) in
    texts_said c.body_in.result c.as_str.result.now (texts c.in-Some.pairs.now) (texts c.args.words.now) is first c.body_in.ensures
