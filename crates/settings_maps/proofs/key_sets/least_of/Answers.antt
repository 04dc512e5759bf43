use Rattle.std.proofs.Common.{sym, ◌∙◌}
use Rattle.settings_maps.proofs.Merged.{least_less, least_equal, least_greater}
use Rattle.settings_maps.proofs.key_sets.least_of.Goals as goal

pub returns-in-Less : goal.returns-in-Less
returns-in-Less c = least_less c.args.one.now c.args.two.now _ _ c.index-one-0-in-Less.result c.requires.first c.requires.second c.index-one-0.is
    c.index-two-0.is c.index-one-0-in-Less.is (sym c.cmp.ensures ∙ c.in-Less.is)

pub returns-in-Equal : goal.returns-in-Equal
returns-in-Equal c = least_equal c.args.one.now c.args.two.now _ _ c.index-one-0-in-Equal.result c.requires.first c.requires.second c.index-one-0.is
    c.index-two-0.is c.index-one-0-in-Equal.is (sym c.cmp.ensures ∙ c.in-Equal.is)

pub returns-in-Greater : goal.returns-in-Greater
returns-in-Greater c = least_greater c.args.one.now c.args.two.now _ _ c.index-two-0-in-Greater.result c.requires.first c.requires.second c.index-one-0.is
    c.index-two-0.is c.index-two-0-in-Greater.is (sym c.cmp.ensures ∙ c.in-Greater.is)
