use Rattle.std.proofs.Common.{◌≡◌, ◌⊎◌, Err, inl, inr, refl, ap, ◌∙◌, subst, rules}
use Rattle.std.proofs.lemmas.Result.{err_from_is_err_and}
use Rattle.outside.proofs.Told.{moves_stay}
use Rattle.setting_generators.specs.Asking.{answer_value}
use Rattle.setting_generators.specs.declared.generate_error.GenerateError.TheVariants.{Failed, Memory}
use Rattle.setting_generators.proofs.AskedParts.{answered, unanswered, value_or_memory, answer_kept, failure_rose}
use Rattle.setting_generators.proofs.asking.ask_one.Goals as goal

pub returns-in_err-key-clause-asked : goal.returns-in_err-key-clause-asked
returns-in_err-key-clause-asked g c =
    let p = err_from_is_err_and c.from_residual.result c.from_residual.ensures.1 in
    unanswered c.args.generator.now _ _ c.from_residual.result (moves_stay (λ s. refl)) (inr (p.1 ∙ ap Err p.2))

pub returns-in-Ok-clause-asked : goal.returns-in-Ok-clause-asked
returns-in-Ok-clause-asked g c =
    let key : c.in_ok-key.key ≡ c.args.generator.now.key = search rules in
    answered c.args.generator.now _ _ c.answer_value.result c.deref.result.now c.in-Ok.answer c.deref.ensures.value c.in-Ok.ensures.asked
    (subst (λ k. (c.answer_value.result ≡ answer_value k c.in-Ok.answer.status c.in-Ok.answer.output.items) ⊎ (c.answer_value.result ≡ Err Memory)) key
    (value_or_memory c.answer_value.result _ c.answer_value.ensures.ok c.answer_value.ensures.refused))

pub returns-in-Ok-clause-cause : goal.returns-in-Ok-clause-cause
returns-in-Ok-clause-cause g c =
    answer_kept _ _ c.in_ok-key.key c.in-Ok.answer.status c.in-Ok.answer.output.items c.answer_value.result c.in-Ok.ensures.cause.kept
    (value_or_memory c.answer_value.result _ c.answer_value.ensures.ok c.answer_value.ensures.refused)

pub returns-in-Err-Failed-clause-asked : goal.returns-in-Err-Failed-clause-asked
returns-in-Err-Failed-clause-asked g c =
    let key : c.in_ok-key.key ≡ c.args.generator.now.key = search rules in
    unanswered c.args.generator.now _ _ (Err (Failed c.in_ok-key.key)) c.in-Err-Failed.ensures.asked (inl (ap (λ k. Err (Failed k)) key))

pub returns-in-Err-Failed-clause-cause : goal.returns-in-Err-Failed-clause-cause
returns-in-Err-Failed-clause-cause g c = failure_rose _ _ c.in_ok-key.key c.in-Err-Failed.ensures.cause.later
    (c.in-Err-Failed.ensures.cause.failed (ap Err c.in-Err-Failed.field-0-is))

pub returns-in-Err-Memory-clause-asked : goal.returns-in-Err-Memory-clause-asked
returns-in-Err-Memory-clause-asked g c = unanswered c.args.generator.now _ _ (Err Memory) c.in-Err-Memory.ensures.asked (inr refl)
