use Rattle.std.proofs.Common.{◌≡◌, ◌∷◌, map}
use Rattle.load_input.specs.Numbers.{below}
use Rattle.load_input.specs.Image.{model_file, template_file}
use Rattle.load_input.specs.Files.{file_of}
use Rattle.load_input.proofs.image_files.files.Given as goal

-- the model, and the templates so far
abbrev pub invariant-loop-service : goal.invariant-loop-service
invariant-loop-service l = map file_of l.files.items ≡ model_file l.count ∷ map (template_file l.count) (below l.service)
