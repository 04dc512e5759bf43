use Rattle.std.proofs.Common.{rules}
use Rattle.std.proofs.lemmas.List.Sorted.{answers_always}
use Rattle.std.specs.Ordering.{is_lt}
use Rattle.key_names.specs.Order.{key_cmp}
use Rattle.settings_maps.proofs.RisingTests.{Tells, tells_rising, rising_told}
use Rattle.settings_maps.proofs.key_list.KeyList.rise.Goals as goal

told : (c : goal.After-is_sorted_by) → Tells c.args.keys.now c.is_sorted_by.result
told c = c.is_sorted_by.ensures.cases (λ x y. is_lt (key_cmp x y)) (answers_always _ _ _ (λ f a r g called. search rules))

pub returns : goal.returns
returns c = (tells_rising c.args.keys.now c.is_sorted_by.result (told c), rising_told c.args.keys.now c.is_sorted_by.result (told c))
