use Rattle.std.proofs.Common.{◌≡◌, [], sym, ◌∙◌, rules}
use Rattle.toml.specs.View.{view}
use Rattle.typed_settings.specs.Row.{IsKnown}
use Rattle.setting_generators.specs.Reading.{command_of, no_key, unknown, no_word}
use Rattle.setting_generators.proofs.EntryParts.{entry_refused, no_texts}
use Rattle.setting_generators.proofs.entry.generator_of.Goals as goal

pub returns-in_default-clause-refused : goal.returns-in_default-clause-refused
returns-in_default-clause-refused c =
    let none = rw c.in_default.is at c.in_ok-key.ensures in
    entry_refused c.args.types.now c.args.before.now.keys (c.args.name.now, view c.args.value.now) _ c.refused.result (no_key none) c.refused.ensures

pub returns-then-not-matches-clause-refused : goal.returns-then-not-matches-clause-refused
returns-then-not-matches-clause-refused c =
    let key = rw c.in-Some.is at c.in_ok-key.ensures in
    let none : IsKnown c.args.types.now c.in-Some.key → ⊥ = search rules in
    entry_refused c.args.types.now c.args.before.now.keys (c.args.name.now, view c.args.value.now) _ c.refused-then-not-matches.result
    (unknown c.in-Some.key key none) c.refused-then-not-matches.ensures

pub returns-then-is_empty-clause-refused : goal.returns-then-is_empty-clause-refused
returns-then-is_empty-clause-refused c =
    let key = rw c.in-Some.is at c.in_ok-key.ensures in
    let known : IsKnown c.args.types.now c.in-Some.key = search rules in
    let none : command_of (view c.args.value.now) ≡ [] = sym c.in_ok-words.ensures ∙ no_texts c.in_ok-words.words c.if-is_empty.ensures in
    entry_refused c.args.types.now c.args.before.now.keys (c.args.name.now, view c.args.value.now) _ c.refused-then-is_empty.result
    (no_word c.in-Some.key key known none) c.refused-then-is_empty.ensures
