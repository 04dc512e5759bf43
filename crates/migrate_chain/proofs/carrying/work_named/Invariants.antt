use Rattle.std.proofs.Common.{◌≡◌, length}
use Rattle.std.specs.Prelude.{IsTrue}
use Rattle.release_file.specs.Release.{is_known, work_of}
use Rattle.migrate_chain.proofs.carrying.work_named.Given as goal

-- the name is one of the rest, with the same work
abbrev pub invariant-loop-rest : goal.invariant-loop-rest
invariant-loop-rest l = record { known : IsTrue (is_known l.rest l.name); same : work_of l.rest l.name ≡ work_of l.migrations l.name }

abbrev pub decreases-loop-rest : goal.decreases-loop-rest
decreases-loop-rest l = length l.rest
