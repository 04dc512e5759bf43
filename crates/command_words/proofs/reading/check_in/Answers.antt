use Rattle.std.proofs.Common.{map, string_bytes}
use Rattle.clap.specs.Words.{app_of}
use Rattle.command_words.proofs.Errors.{passed}
use Rattle.command_words.proofs.OneOrder.{check_none}
use Rattle.command_words.proofs.reading.check_in.Goals as goal

pub returns-in-Err-take_flag-clause-usage : goal.returns-in-Err-take_flag-clause-usage
returns-in-Err-take_flag-clause-usage c e order said =
    check_none (map string_bytes c.args.words.now) (app_of c.in-Ok.command) c.in-Ok.ensures (c.in-Err-take_flag.ensures.usage (passed _ _ e)) order said
