-- The laws of the migrations as mappings.
pub mod Conflicts
pub mod Keeping
pub mod MappedMaps
pub mod Refusals
pub mod Standing
pub mod Transactions
use Rattle.std.specs.Prelude.{◌≡◌, ◌≢◌, Ok, Err}
use Rattle.settings_tree.specs.Laid.{KeepsPrefixRule}
use Rattle.settings_tree.specs.declared.held.Held.{Held}
use Rattle.migrate_helpers.specs.declared.map_error.MapError.{MapError}
use Rattle.migrate_helpers.specs.declared.map_error.MapError.TheVariants.{Memory}
use Rattle.migrate_helpers.specs.declared.migration.Migration.{Migration}
use Rattle.migrate_helpers.specs.Kept.{Kept}
use Rattle.migrate_helpers.specs.Mapped.{backward_of, forward_of}
use Rattle.migrate_helpers.specs.Step.{backward_step, forward_step}
use Rattle.migrate_helpers.specs.Laws.Keeping.{keeps_step, refuses_step}

-- The way forward keeps the prefix rule, the owed keys and the image text.
pub keeps_forward : (m : Migration) (h g : Held) → KeepsPrefixRule h → forward_of m h ≡ Ok g → Kept h g
keeps_forward m h g rule made = keeps_step (forward_step m) h g rule made

-- So does the way back.
pub keeps_backward : (m : Migration) (h g : Held) → KeepsPrefixRule h → backward_of m h ≡ Ok g → Kept h g
keeps_backward m h g rule made = keeps_step (backward_step m) h g rule made

-- The way forward never refuses because it is out of memory.
pub refuses_forward : (m : Migration) (h : Held) (e : MapError) → forward_of m h ≡ Err e → e ≢ Memory
refuses_forward m h e is = refuses_step (forward_step m) h e is

-- Nor does the way back.
pub refuses_backward : (m : Migration) (h : Held) (e : MapError) → backward_of m h ≡ Err e → e ≢ Memory
refuses_backward m h e is = refuses_step (backward_step m) h e is
