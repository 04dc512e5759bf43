use Rattle.std.proofs.Common.{map, string_bytes, Option, Some, subst}
use Rattle.std.specs.Prelude.{◌≡◌, IsTrue, ◌↔◌, codes}
use Rattle.clap.specs.Words.{Text, app_of}
use Rattle.command_words.proofs.Found.{value_found}
use Rattle.command_words.proofs.flag.take_flag.Goals as goal

pub returns-in-Ok-clause-ok : goal.returns-in-Ok-clause-ok
returns-in-Ok-clause-ok c = record {
  taken = c.in-Ok.ensures.ok;
  flag = subst (λ (t : Option Text). IsTrue c.is_true.result ↔ (t ≡ Some (codes "true")))
      (value_found c.in-Ok.matches (app_of c.args.command) c.args.id.now (map string_bytes c.args.words.now) c.get_str.result c.in-Ok.ensures.rows
      c.get_str.ensures) c.is_true.ensures;
}
