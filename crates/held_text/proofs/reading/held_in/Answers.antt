use Rattle.std.proofs.Common.{◌∙◌, arith}
use Rattle.held_text.proofs.HeldReadings.{member_parts, members_missing, members_short, held_is, err_members}
use Rattle.held_text.proofs.reading.held_in.Goals as goal

pub returns-in_err-image : goal.returns-in_err-image
returns-in_err-image c =
    err_members _ _ c.from_residual.result c.from_residual.ensures.1 (λ h valid is e gives. absurd
    (members_missing _ 3 h is c.in_err-image.ensures.none (omega arith)))

pub returns-in_err-owed : goal.returns-in_err-owed
returns-in_err-owed c =
    err_members _ _ c.from_residual-in_err-owed.result c.from_residual-in_err-owed.ensures.1
    (λ h valid is e gives. absurd (members_short _ _ _ _ _ h is c.in_ok-image.ensures.next c.in_err-owed.ensures.none))

pub returns-in_err-rest : goal.returns-in_err-rest
returns-in_err-rest c =
    err_members _ _ c.from_residual-in_err-rest.result c.from_residual-in_err-rest.ensures.1
    (λ h valid is e gives.
    let p = member_parts _ _ _ _ _ _ _ _ _ h is c.in_ok-image.ensures.next c.in_ok-owed.ensures.next in
    gives ∙ c.in_err-rest.ensures.finds h.owed h.pending h.image valid.owed valid.pending valid.image p.3 p.4 p.0)

pub returns-in_err-live : goal.returns-in_err-live
returns-in_err-live c =
    err_members _ _ c.from_residual-in_err-live.result c.from_residual-in_err-live.ensures.1
    (λ h valid is e gives.
    let p = member_parts _ _ _ _ _ _ _ _ _ h is c.in_ok-image.ensures.next c.in_ok-owed.ensures.next in
    gives ∙ c.in_err-live.ensures.finds h.live valid.live p.1 p.2 p.5)

pub returns : goal.returns
returns c = record {
  finds = λ h valid is.
      let p = member_parts _ _ _ _ _ _ _ _ _ h is c.in_ok-image.ensures.next c.in_ok-owed.ensures.next in
      held_is h _ _ (c.in_ok-live.ensures.finds h.live valid.live p.1 p.2 p.5)
      (c.in_ok-rest.ensures.finds h.owed h.pending h.image valid.owed valid.pending valid.image p.3 p.4 p.0);
}
