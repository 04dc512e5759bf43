-- What is found of a configuration file of an image.
use Rattle.std.specs.Prelude.{◌≡◌, ℕ, Bool, true, false, List, Some}
use Rattle.template_reader.specs.Kept.{source_of}
use Rattle.template_reader.specs.Parses.{Parses}
use Rattle.template_reader.specs.Tree.{Tree}
use Rattle.depend_check.specs.Coverage.{IsCoverage}
use Rattle.depend_check.specs.declared.coverage.Coverage.{Coverage}
use Rattle.depend_check.specs.declared.coverage.Coverage.TheVariants.{Covered}
use Rattle.store_image.specs.declared.image.Image.{Image}
use Rattle.coverage_report.specs.declared.file_coverage.FileCoverage.{FileCoverage}

-- The file of a check.
abbrev pub file_in : FileCoverage → List ℕ
file_in check = check.file

-- The coverage is that of the template that the file has in the image.
pub record IsChecked (image : Image) (check : FileCoverage) : Type 0 where
  pub source : List ℕ
  pub tree : Tree
  pub kept : source_of image.templates check.file ≡ Some source
  pub parsed : Parses source tree
  pub coverage : IsCoverage image.manifest image.model.types tree check.file check.coverage

-- Whether a coverage is that of a covered file.
abbrev pub is_full : Coverage → Bool
is_full Covered = true
is_full _ = false

-- Whether the file is covered.
abbrev pub is_covered : FileCoverage → Bool
is_covered check = is_full check.coverage
