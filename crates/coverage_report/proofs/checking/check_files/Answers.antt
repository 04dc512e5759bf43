use Rattle.std.proofs.Common.{◌∙◌}
use Rattle.coverage_report.proofs.Kept.{all_known}
use Rattle.coverage_report.proofs.checking.check_files.Goals as goal

pub check_each-requires : goal.check_each-requires
check_each-requires c = record { there = all_known c.args.image.now.manifest _ (c.deref.ensures.value ∙ c.in_ok-files.ensures) }
