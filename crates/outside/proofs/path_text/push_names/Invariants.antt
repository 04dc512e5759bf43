use Rattle.std.proofs.Common.{◌≡◌, ◌++◌, take}
use Rattle.outside.specs.PathText.{behind_slashes}
use Rattle.outside.proofs.path_text.push_names.Given as goal

abbrev pub invariant-loop-name : goal.invariant-loop-name
invariant-loop-name l = l.text.items ≡ l.initial.text.items ++ behind_slashes (take l.name-index l.names)
