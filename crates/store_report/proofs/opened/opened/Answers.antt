use Rattle.std.proofs.Common.{sym, ◌∙◌, ap}
use Rattle.settings_tree.specs.Laid.{laid}
use Rattle.settings_tree.specs.declared.held.Held.{Held}
use Rattle.store_report.proofs.opened.opened.Goals as goal

pub returns : goal.returns
returns c = record {
  is = λ I holds. c.in_ok-lay.ensures.ok ∙ ap (λ (h : Held). laid h c.in_ok-change.change) c.in_ok-opened.ensures
      ∙ c.in_ok-change.ensures.made.laid_is I (sym holds.defaults_are) (sym holds.text_is);
}
