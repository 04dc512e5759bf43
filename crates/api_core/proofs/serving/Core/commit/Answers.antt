use Rattle.std.proofs.Common.{rules, ◌≡◌, Result, Err, refl, sym, subst}
use Rattle.outside.specs.Told.{Moves}
use Rattle.outside.specs.declared.disk_error.DiskErr.{DiskErr}
use Rattle.outside.specs.declared.disk_error.DiskErr.TheVariants as disk
use Rattle.outside.proofs.Told.{moves_map, moves_stay}
use Rattle.machine_disk.specs.Kept.{CoreState}
use Rattle.api_core.specs.Carried.{Carries}
use Rattle.api_core.specs.Cores.{core_state, Commits}
use Rattle.api_core.specs.declared.serving.Core.{Core}
use Rattle.api_core.proofs.Commitments.{commits_carried, commits_undone, with_job}
use Rattle.api_core.proofs.serving.Core.commit.Goals as goal

pub returns-in_err-reserve-clause-commits : goal.returns-in_err-reserve-clause-commits
returns-in_err-reserve-clause-commits g c = λ q answer planned.
    let now : Core = record c.args.self.now { job = c.reserve.new.job } in
    let is : c.from_residual.result ≡ Err disk.Memory = search rules in
    subst (λ (r : Result (Unit {0}) DiskErr). Moves (g.D.Disk.told c.args.disk.now) (g.D.Disk.told c.args.disk.now) (Commits c.args.self.now q r now)) (sym is)
    (moves_stay (λ h. commits_undone c.args.self.now q c.requires.calm now h h
    (record { core = with_job c.args.self.now c.reserve.new.job c.reserve.ensures.job; disk = refl })))

pub returns-clause-commits : goal.returns-clause-commits
returns-clause-commits g c = λ q answer planned.
    moves_map
    (λ old new carried. commits_carried c.args.self.now q c.requires.calm answer c.args.effect planned c.requires.may c.write.result c.write.new.self old new
    (subst (λ (s : CoreState). Carries s c.args.effect c.write.result (core_state c.write.new.self) old new)
    (with_job c.args.self.now c.reserve.new.job c.reserve.ensures.job) carried))
    c.write.ensures.carried
