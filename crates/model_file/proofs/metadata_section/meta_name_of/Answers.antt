use Rattle.std.proofs.Common.{◌≡◌, true, false, sym, ap, ◌∙◌, rules}
use Rattle.settings_maps.specs.TxName.{is_meta_name}
use Rattle.model_file.proofs.MetaChecks.{last_of}
use Rattle.model_file.proofs.metadata_section.meta_name_of.Goals as goal

pub returns-then-is_meta_name-clause-name : goal.returns-then-is_meta_name-clause-name
returns-then-is_meta_name-clause-name c =
    let named : is_meta_name c.in-Some.name.now ≡ true = search rules in
    (last_of c.args.path.now _ c.in-Some.name.now c.in-Some.ensures.cases.0, named)

pub returns-else-is_meta_name-clause-none : goal.returns-else-is_meta_name-clause-none
returns-else-is_meta_name-clause-none c =
    let other : is_meta_name c.in-Some.name.now ≡ false = search rules in
    ap is_meta_name (sym (last_of c.args.path.now _ c.in-Some.name.now c.in-Some.ensures.cases.0)) ∙ other
