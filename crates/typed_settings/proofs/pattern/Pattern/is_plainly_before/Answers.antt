use Rattle.std.proofs.Common.{length, sym, ◌∙◌, ap, arith}
use Rattle.typed_settings.proofs.Plainly.{none_before}
use Rattle.typed_settings.proofs.pattern.Pattern.is_plainly_before.Goals as goal

pub returns : goal.returns
returns c =
    sym (c.loop-i.invariant ∙ none_before c.args.self.now c.args.other.now c.loop-i.i
    (omega (arith, c.len.ensures, c.len-2.ensures, c.min-i-end.ensures, c.loop-i-test.false, ap length c.self.view_is, ap length c.other.view_is)))
