use Rattle.std.proofs.Common.{rules}
use Rattle.std.proofs.lemmas.Fn.{always_returns_same}
use Rattle.std.specs.Ordering.{is_lt}
use Rattle.release_file.specs.Release.{transition_cmp}
use Rattle.release_file.proofs.Rising.{transitions_ranked}
use Rattle.release_file.proofs.transitions.sorted.Goals as goal

pub returns-clause-sorted : goal.returns-clause-sorted
returns-clause-sorted c = c.in_ok-sort_by.ensures.sorted (λ t u. is_lt (transition_cmp t u)) transitions_ranked
    (always_returns_same _ _ _ (λ a r q k. search rules))
