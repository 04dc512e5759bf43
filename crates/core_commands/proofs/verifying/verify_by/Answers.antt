use Rattle.std.proofs.Common.{List, subst}
use Rattle.std.proofs.lemmas.Result.{err_from_is_err_and}
use Rattle.outside.proofs.Told.{moves_map}
use Rattle.settings_machine.specs.declared.states.VerifiedFile.{VerifiedFile}
use Rattle.core_commands.specs.Verifying.{Reports}
use Rattle.core_commands.proofs.Verifications.{states_told, states_untold}
use Rattle.core_commands.proofs.verifying.verify_by.Goals as goal

pub returns-in_err-files-clause-verifies : goal.returns-in_err-files-clause-verifies
returns-in_err-files-clause-verifies g c = λ store over.
    let told = err_from_is_err_and c.from_residual.result c.from_residual.ensures.1 in
    rw told.1
    (moves_map
    (λ old new answers. states_untold c.args.core.now c.verify.new.self store over.state over.image old new c.in_err-files.field-0.0 told.0 told.2 answers)
    c.in_err-files.ensures.verifies)

pub returns-clause-verifies : goal.returns-clause-verifies
returns-clause-verifies g c = λ store over.
    moves_map
    (λ old new answers. states_told c.args.core.now c.verify.new.self store over.state over.image old new c.in_ok-files.files.items c.report.result answers
    (subst (λ (files : List VerifiedFile). Reports files c.report.result) c.deref.ensures.value c.report.ensures.reports))
    c.in_ok-files.ensures.verifies
