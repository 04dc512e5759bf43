-- The lines of a load run.
use Rattle.std.specs.Prelude.{ℕ, List, ◌+◌, ◌++◌, codes, decimal}
use Rattle.load_input.specs.declared.counts.Counts.{Counts}

-- A name, a space and a number.
unfoldable pub line : List ℕ → ℕ → List ℕ
line name n = name ++ codes " " ++ decimal n ++ codes "\n"

-- The seven lines: what was counted, with the number of live settings and that of configuration files.
abbrev pub lines_of : Counts → ℕ → ℕ → List ℕ
lines_of n keys files =
    line (codes "requests") (n.ok + n.refused) ++ line (codes "ok") n.ok ++ line (codes "refused") n.refused ++ line (codes "keys") keys
    ++ line (codes "files") files ++ line (codes "written") n.written ++ line (codes "runs") n.runs
