use Rattle.std.proofs.Common.{◌∙◌}
use Rattle.settings_maps.proofs.KeySets.{search_has}
use Rattle.settings_maps.proofs.key_list.has_key.Goals as goal

pub returns : goal.returns
returns c = c.is_ok.ensures.value ∙ search_has c.args.keys.now c.args.key.now c.binary_search.result c.requires c.binary_search.ensures.bound
    c.binary_search.ensures.position
