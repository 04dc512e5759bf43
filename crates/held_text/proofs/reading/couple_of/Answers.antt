use Rattle.std.proofs.Common.{◌≢◌, [], ◌∷◌, refl, sym, ◌∙◌}
use Rattle.std.proofs.lemmas.Result.{IfOk-weaker, on_err_weaker}
use Rattle.serde_json.specs.Data.{Data}
use Rattle.serde_json.specs.View.{view}
use Rattle.held_text.specs.HeldText.{list_data}
use Rattle.held_text.proofs.Fillings.{too_few}
use Rattle.held_text.proofs.Readings.{at_error, listed, no_list, two_values}
use Rattle.held_text.proofs.reading.couple_of.Goals as goal

pub returns-in_err-list_of-clause-err : goal.returns-in_err-list_of-clause-err
returns-in_err-list_of-clause-err c =
    let none : (a b : Data) → view c.args.list ≢ list_data (a ∷ b ∷ []) = λ a b is. no_list (view c.args.list) (a ∷ b ∷ []) c.in_err-list_of.ensures.err is in
    at_error _ none

pub returns-clause-ok : goal.returns-clause-ok
returns-clause-ok c = IfOk-weaker c.two_of.result _ _ (λ v next a b is. two_values _ _ _ _ a b (sym c.into_iter-values.ensures.rest ∙ next)
    (listed _ _ _ c.in_ok-list_of.ensures.ok is)) c.two_of.ensures.next

pub returns-clause-err : goal.returns-clause-err
returns-clause-err c = on_err_weaker c.two_of.result (λ few a b is. too_few _ _ (a ∷ b ∷ []) 2 c.into_iter-values.ensures.rest
    (listed _ _ _ c.in_ok-list_of.ensures.ok is) few refl) c.two_of.ensures.none
