use Rattle.std.proofs.Common.{rules}
use Rattle.std.proofs.lemmas.Fn.{always_returns_same}
use Rattle.std.specs.Ordering.{is_lt}
use Rattle.key_names.specs.Order.{key_cmp}
use Rattle.change_words.proofs.Trees.{ranked}
use Rattle.change_words.proofs.body.sorted.Goals as goal

pub returns-clause-sorted : goal.returns-clause-sorted
returns-clause-sorted c = c.in_ok-sort_by.ensures.sorted (λ a b. is_lt (key_cmp a.0 b.0)) ranked (always_returns_same _ _ _ (λ a r q k. search rules))
