use Rattle.std.proofs.Common.{◌≡◌, take, map}
use Rattle.std.specs.List.{All}
use Rattle.coverage_report.specs.Checked.{IsChecked, file_in}
use Rattle.coverage_report.proofs.checking.check_each.Given as goal

abbrev pub invariant-loop-file : goal.invariant-loop-file
invariant-loop-file l = record {
  files : map file_in l.checks.items ≡ take l.file-index l.files;
  checked : All (IsChecked l.image) l.checks.items;
}
