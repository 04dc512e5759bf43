-- How the refusals of lower calls are handed on.
use Rattle.std.specs.Prelude.{◌≡◌, Err}
use Rattle.store_image.specs.declared.image_error.ImageError.{ImageError}
use Rattle.store_image.specs.declared.image_error.ImageError.TheVariants as reading
use Rattle.store_open.specs.declared.begin_error.InitError.{InitError}
use Rattle.store_open.specs.declared.begin_error.InitError.TheVariants as beginning
use Rattle.migrate_chain.specs.declared.prune_error.PruneError.{PruneError}
use Rattle.migrate_chain.specs.declared.prune_error.PruneError.TheVariants as pruning
use Rattle.migrate_chain.specs.declared.move_error.MoveError.{MoveError}
use Rattle.migrate_chain.specs.declared.move_error.MoveError.TheVariants as moving
use Rattle.command_outcome.specs.Ends.{Outcome}
use Rattle.command_outcome.specs.declared.refusal.Refusal.TheVariants as refused

-- A fault of the image is reported as one, and the others as what they are.
abbrev pub HandsImage : ImageError → Outcome → Type 0
HandsImage (reading.Bad file kind at) outcome = outcome ≡ Err (refused.BadImage file kind at)
HandsImage reading.Failed outcome = outcome ≡ Err refused.Disk
HandsImage reading.Memory outcome = outcome ≡ Err refused.Memory

-- Why a store was not begun is reported as it is.
abbrev pub HandsBeginning : InitError → Outcome → Type 0
HandsBeginning (beginning.AlreadyThere version) outcome = outcome ≡ Err (refused.AlreadyThere version)
HandsBeginning (beginning.BadLink path) outcome = outcome ≡ Err (refused.BadLink path)
HandsBeginning beginning.Failed outcome = outcome ≡ Err refused.Disk
HandsBeginning beginning.Memory outcome = outcome ≡ Err refused.Memory

-- Why nothing was pruned is reported as it is.
abbrev pub HandsPruning : PruneError → Outcome → Type 0
HandsPruning pruning.NoStore outcome = outcome ≡ Err refused.NoStore
HandsPruning (pruning.BadLink path) outcome = outcome ≡ Err (refused.BadLink path)
HandsPruning pruning.Failed outcome = outcome ≡ Err refused.Disk
HandsPruning pruning.Memory outcome = outcome ≡ Err refused.Memory

-- Why a store was not moved is reported as it is.
abbrev pub HandsMoving : MoveError → Outcome → Type 0
HandsMoving moving.NoStore outcome = outcome ≡ Err refused.NoStore
HandsMoving (moving.BadLink path) outcome = outcome ≡ Err (refused.BadLink path)
HandsMoving (moving.BadJournal path) outcome = outcome ≡ Err (refused.BadJournal path)
HandsMoving (moving.Damaged path) outcome = outcome ≡ Err (refused.Damaged path)
HandsMoving (moving.Missing at target) outcome = outcome ≡ Err (refused.Missing at target)
HandsMoving (moving.Conflict key) outcome = outcome ≡ Err (refused.Conflict key)
HandsMoving (moving.Status name number) outcome = outcome ≡ Err (refused.MigrationStatus name number)
HandsMoving (moving.BadAnswer name) outcome = outcome ≡ Err (refused.MigrationOutput name)
HandsMoving (moving.Spawn name) outcome = outcome ≡ Err (refused.Spawn name)
HandsMoving moving.Failed outcome = outcome ≡ Err refused.Disk
HandsMoving moving.Memory outcome = outcome ≡ Err refused.Memory
