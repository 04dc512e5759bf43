use Rattle.std.proofs.Common.{rules, tests, ◌∙◌}
use Rattle.std.specs.Ordering.{eq_by_cmp}
use Rattle.std.proofs.lemmas.Iterator.{YieldsList-from_slice}
use Rattle.std.proofs.lemmas.Iterator.Search.{any_from_yields_List}
use Rattle.key_names.specs.Order.{bytes_cmp}
use Rattle.toml_values.proofs.OtherNames.{any_mapped}
use Rattle.toml_values.proofs.names.is_among.Goals as goal

pub returns : goal.returns
returns c =
    any_from_yields_List (λ n. eq_by_cmp bytes_cmp c.args.name.now n.now) _ _ _ c.any.ensures.ran (YieldsList-from_slice c.args.names.now cc)
    (λ x b q k. search (rules, tests))
    ∙ any_mapped (eq_by_cmp bytes_cmp c.args.name.now) c.args.names.now
