use Rattle.std.proofs.Common.{◌∙◌}
use Rattle.held_text.proofs.HeldReadings.{err_rest, rest_is}
use Rattle.held_text.proofs.reading.rest_of.Goals as goal

pub returns-in_err-image : goal.returns-in_err-image
returns-in_err-image c = err_rest _ _ _ _ c.from_residual.result c.from_residual.ensures.1
    (λ o p i owed pending image x y z e gives. gives ∙ c.in_err-image.ensures.finds i image z)

pub returns-in_err-owed : goal.returns-in_err-owed
returns-in_err-owed c =
    err_rest _ _ _ _ c.from_residual-in_err-owed.result c.from_residual-in_err-owed.ensures.1
    (λ o p i owed pending image x y z e gives. gives ∙ c.in_err-owed.ensures.finds o owed x)

pub returns-in_err-pending : goal.returns-in_err-pending
returns-in_err-pending c =
    err_rest _ _ _ _ c.from_residual-in_err-pending.result c.from_residual-in_err-pending.ensures.1
    (λ o p i owed pending image x y z e gives. gives ∙ c.in_err-pending.ensures.finds p pending y)

pub returns : goal.returns
returns c = record {
  finds = λ o p i owed pending image x y z. rest_is _ _ _ _ _ _ (c.in_ok-owed.ensures.finds o owed x) (c.in_ok-pending.ensures.finds p pending y)
      (c.in_ok-image.ensures.finds i image z);
}
