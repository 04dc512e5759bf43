-- Errors under the names that a move gives them.
use Rattle.outside.specs.declared.disk_error.DiskErr.{DiskErr}
use Rattle.outside.specs.declared.disk_error.DiskErr.TheVariants as device
use Rattle.outside.specs.declared.disk_error.Failed.{Failed}
use Rattle.version_links.specs.declared.link_error.LinkError.{LinkError}
use Rattle.version_links.specs.declared.link_error.LinkError.TheVariants as links
use Rattle.commit_journal.specs.declared.journal_error.JournalError.{JournalError}
use Rattle.commit_journal.specs.declared.journal_error.JournalError.TheVariants as journal
use Rattle.fs_datastore.specs.declared.load_error.LoadError.{LoadError}
use Rattle.fs_datastore.specs.declared.load_error.LoadError.TheVariants as files
use Rattle.release_file.specs.declared.plan_error.PlanError.{PlanError}
use Rattle.release_file.specs.declared.plan_error.PlanError.TheVariants as plan
use Rattle.migrate_chain.specs.declared.task_error.TaskError.{TaskError}
use Rattle.migrate_chain.specs.declared.task_error.TaskError.TheVariants as unmade
use Rattle.migrate_chain.specs.declared.move_error.MoveError.{MoveError}
use Rattle.migrate_chain.specs.declared.move_error.MoveError.TheVariants as told

-- An error of the links is handed on under its own name.
abbrev pub of_link : LinkError → MoveError
of_link links.Failed = told.Failed
of_link (links.BadLink path) = told.BadLink path
of_link links.Memory = told.Memory

-- So is one of the journal.
abbrev pub of_journal : JournalError → MoveError
of_journal journal.Failed = told.Failed
of_journal (journal.BadJournal path) = told.BadJournal path
of_journal journal.Memory = told.Memory

-- So is one of the files.
abbrev pub of_load : LoadError → MoveError
of_load files.Failed = told.Failed
of_load (files.Damaged path) = told.Damaged path
of_load files.Memory = told.Memory

-- So is one of the plan.
abbrev pub of_plan : PlanError → MoveError
of_plan (plan.Missing at target) = told.Missing at target
of_plan plan.Memory = told.Memory

-- So is one of a migration, but for a failure of the spawner, which is `Spawn`.
abbrev pub of_task : TaskError → MoveError
of_task (unmade.Conflict key) = told.Conflict key
of_task (unmade.Status name number) = told.Status name number
of_task (unmade.BadAnswer name) = told.BadAnswer name
of_task (unmade.Failed name) = told.Spawn name
of_task unmade.Memory = told.Memory

-- So is one of the disk.
abbrev pub of_disk : DiskErr → MoveError
of_disk device.Failed = told.Failed
of_disk device.Memory = told.Memory

-- So is a failure.
abbrev pub of_failure : Failed → MoveError
of_failure failure = told.Failed
