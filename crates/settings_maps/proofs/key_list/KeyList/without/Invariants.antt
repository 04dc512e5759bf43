use Rattle.std.proofs.Common.{◌≡◌, take}
use Rattle.settings_maps.specs.KeyList.{without_keys}
use Rattle.settings_maps.proofs.key_list.KeyList.without.Given as goal

abbrev pub invariant-loop-key : goal.invariant-loop-key
invariant-loop-key l = l.rest.items ≡ without_keys (take l.key-index l.key-items) l.others
