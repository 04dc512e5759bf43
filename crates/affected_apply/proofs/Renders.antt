-- What a file of a view renders to.
use Rattle.std.proofs.Common.{◌≡◌, ℕ, List, Result, Ok, Err}
use Rattle.std.specs.Prelude.{IfErr}
use Rattle.outside.specs.History.{History}
use Rattle.outside.specs.DiskCalls.{Writes}
use Rattle.settings_tree.specs.Content.{Contents}
use Rattle.settings_machine.specs.World.{Image, path_of, rendered}
use Rattle.settings_machine.specs.declared.cause.Cause.{Cause}
use Rattle.settings_machine.specs.declared.cause.Cause.TheVariants as cause
use Rattle.affected_apply.specs.Turning.{WritesOne}

-- One write of what the file renders to.
pub write_one : (I : Image) (live : Contents) (file bytes : List ℕ) (r : Result Unit Cause) → rendered I file live ≡ Ok bytes → IfErr r (λ e. e ≡ cause.Disk)
    → (old new : History) → Writes (path_of I file) bytes r old new → WritesOne I live file r old new
write_one I live file bytes (Ok done) is only old new wrote = record { bytes = bytes; is = is; wrote = wrote }
write_one I live file bytes (Err cause.Disk) is only old new wrote = record { bytes = bytes; is = is; wrote = wrote }
write_one I live file bytes (Err (cause.Render name error)) is only old new wrote = absurd (cc)
write_one I live file bytes (Err (cause.Spawn service)) is only old new wrote = absurd (cc)
write_one I live file bytes (Err (cause.Status service number)) is only old new wrote = absurd (cc)
write_one I live file bytes (Err cause.Memory) is only old new wrote = absurd (cc)
