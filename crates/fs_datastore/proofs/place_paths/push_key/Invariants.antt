use Rattle.std.proofs.Common.{◌≡◌, ◌++◌, take}
use Rattle.fs_datastore.specs.Places.{names_of}
use Rattle.fs_datastore.proofs.place_paths.push_key.Given as goal

abbrev pub invariant-loop-index : goal.invariant-loop-index
invariant-loop-index l = l.path ≡ l.initial.path ++ names_of (take l.index l.key)
