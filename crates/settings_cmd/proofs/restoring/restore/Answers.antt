use Rattle.std.proofs.Common.{rules, ◌≡◌, Err}
use Rattle.outside.proofs.Told.{where_all}
use Rattle.command_outcome.specs.declared.refusal.Refusal.TheVariants as refused
use Rattle.settings_cmd.proofs.restoring.restore.Goals as goal

-- it ran out of memory after the file was read
pub returns-in_err-line-clause-restored : goal.returns-in_err-line-clause-restored
returns-in_err-line-clause-restored g c =
    let told : c.from_residual-in_err-line.result ≡ Err refused.Memory = search rules in
    record { made = Err refused.Memory; tells = where_all (λ h. tt); follows = (told, c.dump_at.ensures.same) }
