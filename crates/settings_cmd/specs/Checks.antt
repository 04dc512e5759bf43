-- What `check` says of an image.
use Rattle.std.specs.Prelude.{◌≡◌, ℕ, Bool, true, false, List, All, Ok, Err, map, ⊤}
use Rattle.std.specs.List.{flat_map, list_all}
use Rattle.std.specs.FinMap.{keys}
use Rattle.store_image.specs.Paths.{Sources}
use Rattle.store_image.specs.Image.{IsImageOf}
use Rattle.store_image.specs.Refused.{IsRefused}
use Rattle.store_image.specs.declared.image.Image.{Image}
use Rattle.coverage_report.specs.Checked.{IsChecked, file_in, is_covered}
use Rattle.coverage_report.specs.Lines.{line}
use Rattle.coverage_report.specs.declared.file_coverage.FileCoverage.{FileCoverage}
use Rattle.command_outcome.specs.Ends.{Outcome}
use Rattle.command_outcome.specs.declared.refusal.Refusal.{Refusal}
use Rattle.command_outcome.specs.declared.refusal.Refusal.TheVariants as refused

-- These are the lines of the configuration files of the image, by name, of which each is covered or not.
pub record IsReportOn (image : Image) (lines : List ℕ) (covered : Bool) : Type 0 where
  pub checks : List FileCoverage
  pub files_are : map file_in checks ≡ keys image.manifest.files
  pub checked : All (IsChecked image) checks
  pub lines_are : lines ≡ flat_map line checks
  pub covered_are : list_all is_covered checks ≡ covered

-- What is reported of an image: the lines of its files, where all are covered or where not all are, or that it ran out of memory.
abbrev pub Reports : Image → Outcome → Type 0
Reports image (Ok lines) = IsReportOn image lines true
Reports image (Err (refused.NotCovered lines)) = IsReportOn image lines false
Reports image (Err refused.Memory) = ⊤
Reports image (Err _) = ⊥

-- The files make an image, and these are the lines of its configuration files, of which each is covered or not.
pub record IsReport (files : Sources) (lines : List ℕ) (covered : Bool) : Type 0 where
  pub image : Image
  pub read : IsImageOf files image.model image.manifest image.templates image.text
  pub report : IsReportOn image lines covered

-- What `check` comes to tells of these files: their lines where all are covered, their lines where not all are, or the first fault of the image.
abbrev pub TellsOfImage : Sources → Outcome → Type 0
TellsOfImage files (Ok lines) = IsReport files lines true
TellsOfImage files (Err (refused.NotCovered lines)) = IsReport files lines false
TellsOfImage files (Err (refused.BadImage file kind at)) = IsRefused files file (kind, at)
TellsOfImage files (Err refused.Disk) = ⊤
TellsOfImage files (Err refused.Memory) = ⊤
TellsOfImage files (Err _) = ⊥

-- Why a check is refused: no program has to do with it, and no door.
abbrev pub IsOfCheck : Refusal → Type 0
IsOfCheck (refused.Spawn name) = ⊥
IsOfCheck refused.Door = ⊥
IsOfCheck _ = ⊤
