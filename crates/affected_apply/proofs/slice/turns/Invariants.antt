use Rattle.std.proofs.Common.{◌≡◌, ◌&&◌, true, None}
use Rattle.outside.specs.Told.{Moves}
use Rattle.outside.specs.Faults.{HasCause}
use Rattle.settings_machine.specs.World.{is_running, KeepsAllButOwed}
use Rattle.affected_apply.specs.Jobs.{job_of, HasRows, left_to_do, failed_with_disk, failed_to_spawn, answer_of}
use Rattle.affected_apply.proofs.Slices.{SoFar}
use Rattle.affected_apply.proofs.slice.turns.Given as goal

abbrev pub invariant-loop-job : goal.invariant-loop-job
invariant-loop-job g l =
    Moves (g.D.Disk.told l.fn.disk) (g.D.Disk.told l.disk)
    (SoFar l.store l.fn.slice l.left l.fn.held (job_of l.fn.job) l.held (job_of l.job) (g.S.Spawner.runs l.fn.spawner) (g.S.Spawner.runs l.spawner))
    × HasRows l.store.image.now.manifest (job_of l.job)
    × (is_running (job_of l.job) ≡ true → is_running (job_of l.fn.job) ≡ true)
    × HasCause (g.D.Disk.faults l.fn.disk) (g.D.Disk.faults l.disk) (answer_of (is_running (job_of l.fn.job) && failed_with_disk (job_of l.job)))
    × HasCause (g.S.Spawner.faults l.fn.spawner) (g.S.Spawner.faults l.spawner) (answer_of (is_running (job_of l.fn.job) && failed_to_spawn (job_of l.job)))
    × (g.S.Spawner.asked l.spawner ≡ g.S.Spawner.asked l.fn.spawner)
    × (l.fn.slice ≡ None → l.left ≡ None)
    × KeepsAllButOwed l.fn.held l.held

abbrev pub decreases-loop-job : goal.decreases-loop-job
decreases-loop-job g l = left_to_do l.store.image.now.manifest (job_of l.job)
