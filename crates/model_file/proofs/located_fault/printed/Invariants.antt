use Rattle.std.proofs.Common.{◌≡◌, ◌∷◌, take, string_bytes}
use Rattle.model_file.specs.Model.{printed_path}
use Rattle.model_file.proofs.located_fault.printed.Given as goal

abbrev pub invariant-loop-name : goal.invariant-loop-name
invariant-loop-name l = string_bytes l.text ≡ printed_path (l.section ∷ take l.name-index l.path)
