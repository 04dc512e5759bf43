use Rattle.std.proofs.Common.{sym}
use Rattle.template_reader.proofs.KeyWords.{key-from_spells, key-none}
use Rattle.template_reader.proofs.paths.read_key.Goals as goal

pub returns-in-Ok : goal.returns-in-Ok
returns-in-Ok c = sym (key-from_spells c.args.word.now c.in-Ok.key c.in-Ok.ensures.ok)

pub returns-in_default : goal.returns-in_default
returns-in_default c = key-none c.args.word.now (λ key spells. c.in_default.not-Memory (c.in-Err.ensures.exact_key key spells))
