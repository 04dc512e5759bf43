use Rattle.std.proofs.lemmas.Option.{MatchOption-at_none}
use Rattle.commit_journal.proofs.Spellings.{path_none}
use Rattle.commit_journal.proofs.entry_path.read_entry_path.Goals as goal

pub returns-in_default : goal.returns-in_default
returns-in_default c = path_none _ (MatchOption-at_none _ _ c.in_default.is c.in_ok-path.ensures)
