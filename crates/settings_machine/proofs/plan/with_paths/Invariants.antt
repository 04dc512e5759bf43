use Rattle.std.proofs.Common.{◌≡◌, ◌++◌, length, map}
use Rattle.std.specs.Vec.Iter.{into_iter_items, into_iter_len}
use Rattle.settings_machine.specs.PlanSeen.{path_seen}
use Rattle.settings_machine.proofs.plan.with_paths.Given as goal

-- The files so far have their paths, and the others are still to get theirs.
abbrev pub invariant-loop-file : goal.invariant-loop-file
invariant-loop-file l = record {
  can_next : (goal.iterator-loop-file).can_next l.file-iterator;
  is_finite : (goal.iterator-loop-file).is_finite l.file-iterator;
  set : l.pairs.items ++ map (λ file. (file, path_seen l.manifest file)) (into_iter_items l.file-iterator) ≡
      map (λ file. (file, path_seen l.manifest file)) l.fn.files.items;
  left : length (into_iter_items l.file-iterator) ≡ into_iter_len l.file-iterator;
}
