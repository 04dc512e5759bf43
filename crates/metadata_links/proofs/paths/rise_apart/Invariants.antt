use Rattle.std.proofs.Common.{ℕ, ◌+◌, ◌<◌, get_or, Bor}
use Rattle.std.specs.Prelude.{IsTrue, List}
use Rattle.metadata_links.specs.Paths.{is_apart_before}
use Rattle.metadata_links.specs.declared.file_row.FileRow.{FileRow}
use Rattle.metadata_links.proofs.paths.rise_apart.Given as goal

abbrev pub invariant-loop-i : goal.invariant-loop-i
invariant-loop-i l = (k : ℕ) (d : Bor (List ℕ × FileRow)) → k + 1 < l.i
    → IsTrue (is_apart_before (get_or l.files k d).now.1.path (get_or l.files (k + 1) d).now.1.path)
