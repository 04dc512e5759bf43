-- For private clauses: what committing an effect does to a core and a disk.
use Rattle.std.specs.Prelude.{◌≡◌, ◌⊎◌, true, false, [], Result, Ok, Err}
use Rattle.outside.specs.History.{History}
use Rattle.outside.specs.declared.disk_error.DiskErr.{DiskErr}
use Rattle.outside.specs.declared.disk_error.DiskErr.TheVariants as disk
use Rattle.outside.specs.declared.disk_error.Failed.{Failed}
use Rattle.commit_journal.specs.Entries.{Changes}
use Rattle.commit_journal.specs.Change.{Commits}
use Rattle.fs_datastore.specs.Batches.{Follows}
use Rattle.settings_tree.specs.Laid.{laid}
use Rattle.settings_machine.specs.declared.cause.Cause.TheVariants as cause
use Rattle.settings_machine.specs.Step.{failing}
use Rattle.machine_disk.specs.Kept.{CoreState}
use Rattle.api_core.specs.Jobs.{job_after}
use Rattle.api_core.specs.declared.planned.Effect.{Effect}

-- Nothing that is held changes, and the disk is left alone.
pub record IsQuiet (c : CoreState) (effect : Effect) (now : CoreState) (old new : History) : Type 0 where
  pub empty : effect.change ≡ []
  pub core : now ≡ record c { job = job_after effect.next c.job }
  pub disk : new ≡ old

-- The change is on the disk.
pub record IsWritten (c : CoreState) (effect : Effect) (now : CoreState) (old new : History) : Type 0 where
  pub batch : Changes
  pub dir : batch.dir ≡ c.place.directory
  pub follows : Follows effect.change batch.entries
  pub commits : Commits {E = Failed} batch (Ok tt) old new
  pub core : now ≡ record c { held = laid c.held effect.change; job = job_after effect.next c.job; faulted = false }

-- The disk failed at the change.
pub record IsBroken (c : CoreState) (effect : Effect) (now : CoreState) (old new : History) : Type 0 where
  pub batch : Changes
  pub dir : batch.dir ≡ c.place.directory
  pub follows : Follows effect.change batch.entries
  pub fault : Failed
  pub commits : Commits batch (Err fault) old new
  pub core : now ≡ record c { held = laid c.held effect.change; job = failing c.job cause.Disk; faulted = true }

-- It ran out of memory, and nothing happened.
pub record IsUndone (c now : CoreState) (old new : History) : Type 0 where
  pub core : now ≡ c
  pub disk : new ≡ old

-- An effect is committed.
abbrev pub Carries : CoreState → Effect → Result Unit DiskErr → CoreState → History → History → Type 0
Carries c effect (Ok done) now old new = IsQuiet c effect now old new ⊎ IsWritten c effect now old new
Carries c effect (Err disk.Failed) now old new = IsBroken c effect now old new
Carries c effect (Err disk.Memory) now old new = IsUndone c now old new
