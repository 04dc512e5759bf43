use Rattle.command_words.proofs.Errors.{passed}
use Rattle.change_words.proofs.change.value_in.Goals as goal

pub returns-in-Err-clause-usage : goal.returns-in-Err-clause-usage
returns-in-Err-clause-usage c e change spells = c.in-Err.ensures.usage (passed _ _ e) (change.0, spells.value) spells.pair
