use Rattle.std.proofs.Common.{rules, ap, ◌∙◌}
use Rattle.settings_tree.specs.Content.{Contents}
use Rattle.held_text.proofs.ContentReadings.{err_others, live_metadata, others_put, others_strong}
use Rattle.held_text.proofs.reading.put_others.Goals as goal

pub returns-in_err-put_rows : goal.returns-in_err-put_rows
returns-in_err-put_rows c =
    err_others _ _ _ _ _ c.from_residual.result c.from_residual.ensures.1
    (λ x live begun m w e gives. gives ∙ c.in_err-put_rows.ensures.puts x.metadata (live_metadata x live) (ap (λ (y : Contents). y.metadata) begun) m)

pub returns-in_err-weak : goal.returns-in_err-weak
returns-in_err-weak c =
    err_others _ _ _ _ _ c.from_residual-in_err-weak.result c.from_residual-in_err-weak.ensures.1
    (λ x live begun m w e gives. gives ∙ c.in_err-weak.ensures.finds x.weak live.weak w)

pub returns-then-not-may_be_weak : goal.returns-then-not-may_be_weak
returns-then-not-may_be_weak c = others_strong _ _ _ _ _ c.in_ok-put_rows.ensures c.in_ok-weak.ensures _ (search rules)

pub returns : goal.returns
returns c = others_put _ _ _ _ _ c.in_ok-put_rows.ensures c.in_ok-weak.ensures _ c.set_weak.ensures
