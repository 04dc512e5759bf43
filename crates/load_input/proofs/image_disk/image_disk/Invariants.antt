use Rattle.std.proofs.Common.{map, take}
use Rattle.load_input.specs.Files.{file_of}
use Rattle.load_input.specs.Starting.{AreNodesOf}
use Rattle.load_input.proofs.image_disk.image_disk.Given as goal

-- a node for each file so far
abbrev pub invariant-loop-file : goal.invariant-loop-file
invariant-loop-file l = AreNodesOf (map file_of (take l.file-index l.file-items)) l.nodes.items
