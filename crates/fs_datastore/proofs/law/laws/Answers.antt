use Rattle.fs_datastore.proofs.Meaning.{one_meaning}
use Rattle.fs_datastore.proofs.Faults.{faultless, one_fault}
use Rattle.fs_datastore.proofs.Alike.{stand_alike, stands_without_journal}
use Rattle.fs_datastore.proofs.Places.{one_place, no_format}
use Rattle.fs_datastore.proofs.law.laws.Goals as goal

pub returns-clause-one_place : goal.returns-clause-one_place
returns-clause-one_place c = one_place

pub returns-clause-no_format : goal.returns-clause-no_format
returns-clause-no_format c = no_format

pub returns-clause-no_fault : goal.returns-clause-no_fault
returns-clause-no_fault c = faultless

pub returns-clause-one_fault : goal.returns-clause-one_fault
returns-clause-one_fault c = one_fault

pub returns-clause-one_meaning : goal.returns-clause-one_meaning
returns-clause-one_meaning c = one_meaning

pub returns-clause-alike : goal.returns-clause-alike
returns-clause-alike c = stand_alike

pub returns-clause-no_journal : goal.returns-clause-no_journal
returns-clause-no_journal c = stands_without_journal
