use Rattle.std.proofs.lemmas.Option.{MatchOption-at_some, MatchOption-at_none}
use Rattle.commit_journal.proofs.Readings.{no_lines, removal_no_path, writing_no_path, writing_read}
use Rattle.commit_journal.proofs.reading.read_one.Goals as goal

pub returns-in_default-2 : goal.returns-in_default-2
returns-in_default-2 c = removal_no_path _ _ _ c.in-Some.ensures (MatchOption-at_none _ _ c.in_default-2.is c.in_ok-path.ensures)

pub returns-in_default-writing_of : goal.returns-in_default-writing_of
returns-in_default-writing_of c = no_lines _ c.in_default.ensures c.in_default-writing_of.ensures

pub returns-in_default-3 : goal.returns-in_default-3
returns-in_default-3 c = writing_no_path _ _ _ _ c.in-Some-writing_of.ensures (MatchOption-at_none _ _ c.in_default-3.is c.in_ok-path-2.ensures)

pub returns : goal.returns
returns c = writing_read _ _ _ _ _ _ _ _ c.in-Some-writing_of.ensures (MatchOption-at_some _ _ _ c.in-Some-3.is c.in_ok-path-2.ensures) c.in_ok-bytes.ensures
    c.in_ok-push-2.ensures.items
