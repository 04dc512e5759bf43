use Rattle.std.proofs.Common.{sym, subst}
use Rattle.version_links.specs.Glyphs.{Glyphs, Ends}
use Rattle.version_links.proofs.FirstNumbers.{digits_before, ends_behind, digits_all}
use Rattle.version_links.proofs.number.split_digits.Goals as goal

pub returns-in-Some-clause-digits : goal.returns-in-Some-clause-digits
returns-in-Some-clause-digits c = subst (λ l. Glyphs l) (sym c.split_at.ensures.front) (digits_before c.args.text.now c.in-Some.at c.in-Some.ensures.value)

pub returns-in-Some-clause-rest : goal.returns-in-Some-clause-rest
returns-in-Some-clause-rest c = subst (λ l. Ends l) (sym c.split_at.ensures.back) (ends_behind c.args.text.now c.in-Some.at c.in-Some.ensures.value)

pub returns-in-None-clause-digits : goal.returns-in-None-clause-digits
returns-in-None-clause-digits c = digits_all c.args.text.now c.in-None.ensures.value
