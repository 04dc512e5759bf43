use Rattle.std.proofs.Common.{subst}
use Rattle.typed_settings.specs.Row.{AreApart}
use Rattle.typed_settings.proofs.Apart.{one_row, prefix_free}
use Rattle.typed_settings.proofs.types.Types.matches.Goals as goal

pub returns-clause-one_row : goal.returns-clause-one_row
returns-clause-one_row c = one_row c.args.self.now (subst AreApart c.self.view_is c.self.invariant.apart) c.args.key.now

pub returns-clause-prefix_free : goal.returns-clause-prefix_free
returns-clause-prefix_free c = prefix_free c.args.self.now (subst AreApart c.self.view_is c.self.invariant.apart)
