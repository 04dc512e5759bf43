use Rattle.std.proofs.Common.{subst}
use Rattle.typed_settings.specs.Row.{AreApart}
use Rattle.typed_settings.proofs.Apart.{prefix_free}
use Rattle.typed_settings.proofs.types.Types.len.Goals as goal

pub returns-clause-prefix_free : goal.returns-clause-prefix_free
returns-clause-prefix_free c = prefix_free c.args.self.now (subst AreApart c.self.view_is c.self.invariant.apart)
