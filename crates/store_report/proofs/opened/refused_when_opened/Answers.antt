use Rattle.std.proofs.Common.{false, sym, ◌∙◌, ap}
use Rattle.std.specs.FinMap.{keys}
use Rattle.std.proofs.lemmas.Result.{IfOk-weaker}
use Rattle.settings_tree.specs.Content.{Contents}
use Rattle.settings_tree.specs.declared.held.Held.{Held}
use Rattle.metadata_links.specs.declared.manifest.Manifest.{Manifest}
use Rattle.settings_machine.specs.Opening.{opened_held}
use Rattle.settings_machine.specs.Plans.{refusing}
use Rattle.store_report.proofs.opened.refused_when_opened.Goals as goal

pub returns : goal.returns
returns c = IfOk-weaker c.refusing.result _ _ (λ refused are I holds.
    ap (λ (m : Manifest). refusing I (opened_held I c.args.held.now false).live (keys m.files)) (sym holds.manifest_is)
    ∙ ap (refusing I (opened_held I c.args.held.now false).live) (sym (c.deref.ensures.value ∙ c.in_ok-files.ensures))
    ∙ ap (λ (h : Held). refusing I h.live c.deref.result.now) (sym (c.in_ok-opened.ensures.is I holds))
    ∙ ap (λ (live : Contents). refusing I live c.deref.result.now) (sym c.of.ensures)
    ∙ are.are I holds.templates_are holds.os_is) c.refusing.ensures
