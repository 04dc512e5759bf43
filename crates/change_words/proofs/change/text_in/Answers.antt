use Rattle.std.proofs.Common.{rules, ℕ, List, subst}
use Rattle.std.specs.Str.{IsUtf8}
use Rattle.command_words.specs.Values.{SplitsInto, SpellsSetting}
use Rattle.command_words.proofs.Pairs.{one_split}
use Rattle.change_words.proofs.change.text_in.Goals as goal

pub returns-in-Some-clause-usage : goal.returns-in-Some-clause-usage
returns-in-Some-clause-usage c e change spells =
    let splits : SplitsInto c.args.word.now c.in-Some.key.now c.in-Some.text.now = search rules in
    let same = one_split _ spells.key spells.text _ _ spells.splits splits in
    c.parts_in.ensures.usage e change.0 (subst (λ (k : List ℕ). SpellsSetting k change.0) same.0 spells.setting) (subst IsUtf8 same.1 spells.utf8)
