use Rattle.std.proofs.Common.{◌≡◌, true, take}
use Rattle.std.specs.List.{list_all}
use Rattle.typed_settings.specs.Takes.{takes_item}
use Rattle.typed_settings.proofs.word.takes_items.Given as goal

abbrev pub invariant-loop-item : goal.invariant-loop-item
invariant-loop-item l = list_all (takes_item l.word) (take l.item-index l.items) ≡ true
