use Rattle.std.proofs.Common.{length, sym, ◌∙◌, ap, arith}
use Rattle.typed_settings.proofs.Orders.{through}
use Rattle.typed_settings.proofs.pattern.Pattern.order_to.Goals as goal

pub returns : goal.returns
returns c =
    sym (c.loop-i.invariant ∙ through c.args.self.now c.args.key.now c.loop-i.i
    (omega (arith, c.len.ensures, c.len-2.ensures.count, c.min-i-end.ensures, c.loop-i-test.false, ap length c.self.view_is)))
