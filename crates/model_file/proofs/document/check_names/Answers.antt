use Rattle.std.proofs.Common.{sym, ◌∙◌, ap}
use Rattle.std.specs.Option.{option_copied}
use Rattle.toml.specs.View.{table_view}
use Rattle.model_file.proofs.Names.{names_hold, names_refused}
use Rattle.model_file.proofs.document.check_names.Goals as goal

pub returns-in-Some-clause-refused : goal.returns-in-Some-clause-refused
returns-in-Some-clause-refused c = names_refused (table_view c.args.document.now) c.in-Some.name.now c.refused.result
    (sym c.other_name.ensures ∙ ap option_copied c.in-Some.is) c.refused.ensures

pub returns-in-None-clause-passes : goal.returns-in-None-clause-passes
returns-in-None-clause-passes c = names_hold (table_view c.args.document.now) (sym c.other_name.ensures ∙ ap option_copied c.in-None.is)
