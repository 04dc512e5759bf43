use Rattle.model_file.proofs.MetaChecks.{all_before}
use Rattle.model_file.proofs.metadata_section.all_but_last.Goals as goal

pub returns-in-Some : goal.returns-in-Some
returns-in-Some c = all_before c.args.path.now c.in-Some.before.now _ c.in-Some.ensures.cases.0
