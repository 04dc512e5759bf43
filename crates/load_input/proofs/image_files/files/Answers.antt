use Rattle.std.proofs.Common.{arith, [], ◌∷◌}
use Rattle.std.proofs.lemmas.List.{map_push}
use Rattle.load_input.specs.Image.{model_file, template_file}
use Rattle.load_input.specs.Files.{file_of}
use Rattle.load_input.proofs.Counting.{made_more}
use Rattle.load_input.proofs.image_files.files.Goals as goal

pub loop-service-preserved : goal.loop-service-preserved
loop-service-preserved c = grind (arith, map_push file_of, made_more (template_file c.args.count) (model_file c.args.count ∷ []) c.loop-service.service)
