use Rattle.std.proofs.Common.{◌≡◌, drop}
use Rattle.typed_settings.specs.Order.{is_plainly_before}
use Rattle.typed_settings.proofs.pattern.Pattern.is_plainly_before.Given as goal

abbrev pub invariant-loop-i : goal.invariant-loop-i
invariant-loop-i l = is_plainly_before l.self l.other ≡ is_plainly_before (drop l.i l.self) (drop l.i l.other)
