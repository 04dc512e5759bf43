use Rattle.std.proofs.Common.{◌≡◌, true, take}
use Rattle.std.specs.List.{list_all}
use Rattle.toml.specs.View.{table_view}
use Rattle.release_file.specs.Checks.{is_defined}
use Rattle.release_file.proofs.transitions.are_there.Given as goal

-- those so far are there
abbrev pub invariant-loop-name : goal.invariant-loop-name
invariant-loop-name l = list_all (is_defined (table_view l.table)) (take l.name-index l.names) ≡ true
