use Rattle.std.proofs.Common.{arith, ◌∙◌, ap, List, ℕ}
use Rattle.std.proofs.lemmas.List.{take_all}
use Rattle.settings_maps.specs.KeyList.{without_keys}
use Rattle.settings_maps.proofs.KeySets.{rest_rises}
use Rattle.settings_maps.proofs.key_list.KeyList.without.Goals as goal

pub of-requires : goal.of-requires
of-requires c =
    rest_rises c.args.self.now c.args.others.now c.loop-key.rest.items c.as_slice-key-items.ensures.rising
    (c.loop-key.invariant ∙ ap (λ (l : List (List (List ℕ))). without_keys l c.args.others.now)
    (take_all c.loop-key.key-index c.as_slice-key-items.result.now (omega arith) ∙ c.as_slice-key-items.ensures.items))
