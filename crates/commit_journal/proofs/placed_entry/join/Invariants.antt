use Rattle.std.proofs.Common.{◌≡◌, ◌++◌, take, true}
use Rattle.outside.specs.Names.{are_names}
use Rattle.commit_journal.proofs.placed_entry.join.Given as goal

abbrev pub invariant-loop-name : goal.invariant-loop-name
invariant-loop-name l = record {
  path : l.path ≡ l.dir ++ take l.name-index l.names;
  named : are_names (take l.name-index l.names) ≡ true;
}
