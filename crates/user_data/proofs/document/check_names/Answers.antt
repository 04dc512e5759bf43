use Rattle.std.proofs.Common.{sym, ◌∙◌, ap}
use Rattle.std.specs.Option.{option_copied}
use Rattle.user_data.proofs.Documents.{refuses_name}
use Rattle.user_data.proofs.document.check_names.Goals as goal

pub returns-in-Some-clause-refused : goal.returns-in-Some-clause-refused
returns-in-Some-clause-refused c =
    refuses_name _ c.in-Some.name.now c.refused.result (sym c.other_name.ensures ∙ ap option_copied c.in-Some.is) c.refused.ensures
