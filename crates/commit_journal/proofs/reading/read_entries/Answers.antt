use Rattle.std.proofs.Common.{rules}
use Rattle.std.proofs.lemmas.Option.{MatchOption-at_some, MatchOption-at_none}
use Rattle.commit_journal.proofs.Readings.{read_more, read_refused, read_end, read_falls}
use Rattle.commit_journal.proofs.reading.read_entries.Goals as goal

pub returns-in_default : goal.returns-in_default
returns-in_default c = read_refused _ _ _ c.loop-rest.invariant (search rules) (MatchOption-at_none _ _ c.in_default.is c.in_ok-after.ensures)

pub loop-rest-preserved : goal.loop-rest-preserved
loop-rest-preserved c = read_more _ _ _ _ _ c.loop-rest.invariant (MatchOption-at_some _ _ _ c.in-Some.is c.in_ok-after.ensures)

pub returns-then-are_rising : goal.returns-then-are_rising
returns-then-are_rising c = read_end _ _ _ c.loop-rest.invariant (search rules) (search rules)

pub returns-else-are_rising : goal.returns-else-are_rising
returns-else-are_rising c = read_falls _ _ _ c.loop-rest.invariant (search rules) (search rules)
