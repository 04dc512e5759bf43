use Rattle.std.proofs.Common.{◌≡◌, drop}
use Rattle.typed_settings.specs.Order.{order_to}
use Rattle.typed_settings.proofs.pattern.Pattern.order_to.Given as goal

abbrev pub invariant-loop-i : goal.invariant-loop-i
invariant-loop-i l = order_to l.self l.key ≡ order_to (drop l.i l.self) (drop l.i l.key)
