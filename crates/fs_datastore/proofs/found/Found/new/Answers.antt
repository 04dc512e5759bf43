use Rattle.fs_datastore.proofs.FoundHeld.{none_found}
use Rattle.fs_datastore.proofs.found.Found.new.Goals as goal

pub returns : goal.returns
returns c = none_found c.new.result c.new-2.result c.new-3.result c.new.ensures c.new-2.ensures c.new-3.ensures
