use Rattle.std.proofs.Common.{◌≡◌, ◌++◌}
use Rattle.fs_datastore.proofs.batch.listed.Given as goal

-- the files taken, and those that are left
abbrev pub invariant-loop-file : goal.invariant-loop-file
invariant-loop-file l =
    (goal.iterator-loop-file).can_next l.file-iterator ×
    (goal.iterator-loop-file).is_finite l.file-iterator ×
    (l.list.items ++ l.file-iterator ≡ l.fn.files.entries)
