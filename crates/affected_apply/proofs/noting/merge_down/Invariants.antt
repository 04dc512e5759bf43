use Rattle.std.proofs.Common.{◌≡◌, ◌+◌, ◌≤◌, ◌++◌, reverse}
use Rattle.std.specs.Vec.{vec_len, vec_capacity}
use Rattle.settings_maps.specs.KeyList.{joined}
use Rattle.affected_apply.proofs.noting.merge_down.Given as goal

abbrev pub invariant-loop-two : goal.invariant-loop-two
invariant-loop-two l = record {
  merged : l.all.items ++ joined (reverse l.one.items) (reverse l.two.items) ≡ l.initial.all.items
      ++ joined (reverse l.initial.one.items) (reverse l.initial.two.items);
  len : vec_len l.all + vec_len l.one + vec_len l.two ≤ vec_len l.initial.all + vec_len l.initial.one + vec_len l.initial.two;
  room : vec_capacity l.initial.all ≤ vec_capacity l.all;
}

abbrev pub decreases-loop-two : goal.decreases-loop-two
decreases-loop-two l = vec_len l.one + vec_len l.two
