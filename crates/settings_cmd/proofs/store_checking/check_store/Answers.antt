use Rattle.std.proofs.Common.{Option, ◌∙◌, subst}
use Rattle.outside.specs.History.{History}
use Rattle.settings_cmd.proofs.StoreChecked.{Told, store_report}
use Rattle.settings_cmd.proofs.store_checking.check_store.Goals as goal

pub returns-in-Ok-clause-checked : goal.returns-in-Ok-clause-checked
returns-in-Ok-clause-checked g c = (
  store_report c.in-Ok.stored c.check_held.result _ c.in-Ok.ensures.holds
      (subst (λ (d : Option History). Told c.in-Ok.stored.held c.check_held.result d) c.peek_store.ensures.same c.check_held.ensures.checks),
  c.check_held.ensures.same ∙ c.peek_store.ensures.same,
)
