use Rattle.std.proofs.Common.{map, string_bytes}
use Rattle.clap.specs.Words.{app_of}
use Rattle.command_words.proofs.Errors.{passed}
use Rattle.command_words.proofs.OneOrder.{forget_none}
use Rattle.command_words.proofs.reading.forget_in.Goals as goal

pub returns-in-Err-take_keys-clause-usage : goal.returns-in-Err-take_keys-clause-usage
returns-in-Err-take_keys-clause-usage c e order said =
    forget_none (map string_bytes c.args.words.now) (app_of c.in-Ok.command) c.in-Ok.ensures (c.in-Err-take_keys.ensures.usage (passed _ _ e)) order said
