use Rattle.std.proofs.Common.{◌≡◌, sym, ◌∙◌, ap, subst}
use Rattle.std.specs.List.{list_all}
use Rattle.settings_tree.specs.Change.{is_once, has_bare_name}
use Rattle.settings_tree.specs.Laid.{laid, TellsWeak}
use Rattle.settings_tree.specs.declared.held.Held.{Held}
use Rattle.opening_step.specs.Entries.{opening_entries}
use Rattle.opening_step.specs.Step.{MakesStep}
use Rattle.opening_step.proofs.OpenedEntries.{all_laid, entries_laid}
use Rattle.opening_step.proofs.ToldWeak.{opening_told}
use Rattle.opening_step.proofs.OnceNamed.{opening_once}
use Rattle.opening_step.proofs.OpenedRules.{opening_names, opening_weak, opened_rule}
use Rattle.opening_step.proofs.entries.opening_change.Goals as goal

is_all : (c : goal.After-of) → c.of.result ≡ opening_entries c.args.boot c.args.defaults.now c.args.text.now c.args.held.now
is_all c = c.of.ensures ∙ c.in_ok-make_entries.ensures.made

pub of-requires-clause-once : goal.of-requires-clause-once
of-requires-clause-once c = ap is_once c.in_ok-make_entries.ensures.made ∙ opening_once c.args.boot c.args.defaults.now c.args.text.now c.args.held.now

pub of-requires-clause-names : goal.of-requires-clause-names
of-requires-clause-names c = ap (list_all has_bare_name) c.in_ok-make_entries.ensures.made
    ∙ opening_names c.args.boot c.args.defaults.now c.args.text.now c.args.held.now c.in_ok-make_entries.ensures.image c.in_ok-make_entries.ensures.live

pub returns-clause-made : goal.returns-clause-made
returns-clause-made c = subst (MakesStep c.args.boot c.args.defaults.now c.args.text.now c.args.held.now) (sym (is_all c))
    (entries_laid c.args.boot c.args.defaults.now c.args.text.now c.args.held.now c.in_ok-make_entries.ensures.image c.in_ok-make_entries.ensures.live
    c.in_ok-make_entries.ensures.weak c.in_ok-make_entries.ensures.owes)

pub returns-clause-rule : goal.returns-clause-rule
returns-clause-rule c =
    let step = ap (laid c.args.held.now) (is_all c) ∙ all_laid c.args.boot c.args.defaults.now c.args.text.now c.args.held.now
    c.in_ok-make_entries.ensures.image c.in_ok-make_entries.ensures.live c.in_ok-make_entries.ensures.weak c.in_ok-make_entries.ensures.owes in
    opened_rule c.args.defaults.now c.args.held.now (laid c.args.held.now c.of.result) c.requires.types
    (ap (λ (h : Held). h.live.values) step) (ap (λ (h : Held). h.pending) step)

pub returns-clause-weak : goal.returns-clause-weak
returns-clause-weak c =
    let step = ap (laid c.args.held.now) (is_all c) ∙ all_laid c.args.boot c.args.defaults.now c.args.text.now c.args.held.now
    c.in_ok-make_entries.ensures.image c.in_ok-make_entries.ensures.live c.in_ok-make_entries.ensures.weak c.in_ok-make_entries.ensures.owes in
    opening_weak c.args.defaults.now c.args.held.now c.of.result c.requires.settings
    (ap (λ (h : Held). h.live.values) step) (ap (λ (h : Held). h.live.weak) step)
    (ap is_once (is_all c) ∙ opening_once c.args.boot c.args.defaults.now c.args.text.now c.args.held.now) c.in_ok-make_entries.ensures.live

pub returns-clause-told : goal.returns-clause-told
returns-clause-told c = subst (TellsWeak c.args.held.now) (sym (is_all c))
    (opening_told c.args.boot c.args.defaults.now c.args.text.now c.args.held.now c.in_ok-make_entries.ensures.live)
