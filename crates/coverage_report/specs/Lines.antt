-- The lines of a report.
use Rattle.std.specs.Prelude.{ℕ, List, ◌∷◌, ◌++◌, codes}
use Rattle.key_names.specs.Key.{printed}
use Rattle.depend_check.specs.declared.coverage.Coverage.{Coverage}
use Rattle.depend_check.specs.declared.coverage.Coverage.TheVariants.{Covered, NoService, NotInModel, Uncovered}
use Rattle.coverage_report.specs.declared.file_coverage.FileCoverage.{FileCoverage}

-- What is said of a file after its name.
abbrev pub told : Coverage → List ℕ
told Covered = codes " covered"
told NoService = codes " no service"
told (NotInModel path) = codes " not in model " ++ printed path
told (Uncovered path at service) = codes " uncovered " ++ printed path ++ 32 ∷ printed at ++ 32 ∷ service

-- The line of a file.
abbrev pub line : FileCoverage → List ℕ
line check = check.file ++ told check.coverage ++ codes "\n"
