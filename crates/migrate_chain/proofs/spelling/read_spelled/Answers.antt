use Rattle.std.proofs.Common.{rules, ◌∙◌, sym}
use Rattle.std.specs.Prelude.{string_bytes}
use Rattle.migrate_chain.specs.Spelling.{IsCompact}
use Rattle.migrate_chain.proofs.Spelled.{compact_prints, print_spelled, none_spelled, both_ok}
use Rattle.migrate_chain.proofs.spelling.read_spelled.Goals as goal

pub returns-clause-exact : goal.returns-clause-exact
returns-clause-exact c =
    let is : IsCompact c.args.text.now (string_bytes c.in-Some.compact) = search rules in
    λ h spells. c.read.ensures.exact h spells.valid (compact_prints c.args.text.now _ h is spells ∙ sym c.as_bytes.ensures.value)

pub returns-clause-ok : goal.returns-clause-ok
returns-clause-ok c =
    let is : IsCompact c.args.text.now (string_bytes c.in-Some.compact) = search rules in
    both_ok c.read.result c.read.ensures.ok c.read.ensures.valid (λ h prints valid. print_spelled c.args.text.now _ h is valid
    (prints ∙ c.as_bytes.ensures.value))

pub returns-clause-bad : goal.returns-clause-bad
returns-clause-bad c =
    let is : IsCompact c.args.text.now (string_bytes c.in-Some.compact) = search rules in
    none_spelled c.args.text.now c.read.result (λ h spells. c.read.ensures.exact h spells.valid
    (compact_prints c.args.text.now _ h is spells ∙ sym c.as_bytes.ensures.value))
