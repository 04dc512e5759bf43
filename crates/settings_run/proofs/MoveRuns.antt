-- `init` and `migrate` are events of the machine.
use Rattle.std.proofs.Common.{inl, inr, ℕ, List, [], Some, Result, Ok, Err}
use Rattle.outside.specs.History.{History, tree_of}
use Rattle.version_links.specs.declared.version.Version.{Version}
use Rattle.settings_machine.specs.World.{Image, World}
use Rattle.settings_machine.specs.Events.{Began, new_held, next}
use Rattle.settings_machine.specs.Paid.{IsGood}
use Rattle.machine_disk.specs.Kept.{Folder, DiskAt}
use Rattle.machine_disk.specs.Store.{bytes_at}
use Rattle.store_open.specs.Beginning.{Begins}
use Rattle.store_open.specs.declared.begin_error.InitError.{InitError}
use Rattle.store_open.specs.declared.begin_error.InitError.TheVariants as beginning
use Rattle.migrate_chain.specs.Migrating.{Migrates}
use Rattle.migrate_chain.specs.Tasks.{Mapped, Refused}
use Rattle.migrate_chain.specs.declared.moving.Moved as answer
use Rattle.migrate_chain.specs.declared.move_error.MoveError.{MoveError}
use Rattle.migrate_chain.specs.declared.move_error.MoveError.TheVariants as moving
use Rattle.release_file.specs.declared.release.Release.{Release}
use Rattle.store_events.specs.Laws.{IsBare, IsBeginning, HasBegun}
use Rattle.store_events.proofs.Beginnings.{beginnings_are_whole, beginnings_begin}
use Rattle.store_events.proofs.Moves.{moves_move}
use Rattle.settings_cmd.specs.Carried.{AnswersBeginning, AnswersMoving}
use Rattle.settings_run.specs.Laws.{InitsRun, IsMoveBy, MigratesRun}

module _ (I : Image) (good : IsGood I) (W : World) (version : Version) (line : List ℕ) (old new : History) (bare : IsBare W old) where
  begun : (result : Result (Unit {0}) InitError) → Begins version new_held result old new → AnswersBeginning version result (Ok line)
      → IsBeginning I (next I W (Began version)) old new × HasBegun I (bytes_at (tree_of old)) (next I W (Began version)) new
  begun (Ok done) begins answers = (
    beginnings_are_whole I good W version new_held (Ok done) old new bare begins,
    beginnings_begin I good W version new_held done old new bare begins,
  )
  begun (Err (beginning.AlreadyThere other)) begins answers = absurd (cc answers)
  begun (Err (beginning.BadLink path)) begins answers = absurd (cc answers)
  begun (Err beginning.Failed) begins answers = absurd (cc answers)
  begun (Err beginning.Memory) begins answers = absurd (cc answers)

pub inits_run : InitsRun
inits_run I good W version line old new bare is = begun I good W version line old new bare is.result is.begins.told is.answers

module _ (I : Image) (good : IsGood I) (folder : Folder) (W : World) (to : Version) (line : List ℕ) (old new : History) (disk_at : DiskAt I folder W W old)
    (release : Release) (mapped : List Mapped)
    (refused : List Refused) where
  moved : (result : Result answer.Moved MoveError)
      → Migrates to release.transitions.items release.migrations.items (Some []) (Some mapped) (Some []) (Some refused) result old new
      → AnswersMoving to result (Ok line) → IsMoveBy I folder W to old new
  moved (Ok done) migrates answers = record {
    release = release;
    mapped = mapped;
    moved = moves_move I good folder W to release.transitions.items release.migrations.items [] (Some mapped) (Some []) (Some refused) done old new disk_at
        migrates;
  }
  moved (Err moving.NoStore) migrates answers = absurd (cc answers)
  moved (Err (moving.BadLink path)) migrates answers = absurd (cc answers)
  moved (Err (moving.BadJournal path)) migrates answers = absurd (cc answers)
  moved (Err (moving.Damaged path)) migrates answers = absurd (cc answers)
  moved (Err (moving.Missing at target)) migrates answers = absurd (cc answers)
  moved (Err (moving.Conflict key)) migrates answers = absurd (cc answers)
  moved (Err (moving.Status name number)) migrates answers = absurd (cc answers)
  moved (Err (moving.BadAnswer name)) migrates answers = absurd (cc answers)
  moved (Err (moving.Spawn name)) migrates answers = absurd (cc answers)
  moved (Err moving.Failed) migrates answers = absurd (cc answers)
  moved (Err moving.Memory) migrates answers = absurd (cc answers)

pub migrates_run : MigratesRun
migrates_run I good folder W to a a' line old new disk_at (inl none) = absurd (cc none.answers)
migrates_run I good folder W to a a' line old new disk_at (inr is) =
    moved I good folder W to line old new disk_at is.release is.moves.mapped is.moves.refused is.result is.moves.migrates.told is.answers
