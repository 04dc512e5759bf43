use Rattle.std.proofs.Common.{sym, ap, ◌∙◌}
use Rattle.std.specs.Option.{option_copied}
use Rattle.toml.specs.View.{view}
use Rattle.model_file.proofs.OsNames.{os_refused}
use Rattle.model_file.proofs.os_section.name_of.Goals as goal

pub returns-in_default-clause-refused : goal.returns-in_default-clause-refused
returns-in_default-clause-refused c =
    os_refused c.args.name.now (view c.args.value.now) c.bad_os.result (sym (ap option_copied c.in_default.is) ∙ c.os_text.ensures) c.bad_os.ensures
