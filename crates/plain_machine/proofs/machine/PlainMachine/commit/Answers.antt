use Rattle.std.proofs.Common.{◌≡◌, List, Result, Err, refl, sym, ◌∙◌, ap, subst}
use Rattle.std.proofs.lemmas.Result.{err_from_is_err_and}
use Rattle.pending_tx.specs.declared.answers.Commit.{Commit}
use Rattle.pending_tx.specs.declared.answers.CommitError.{CommitError}
use Rattle.pending_tx.specs.declared.answers.CommitError.TheVariants.{NoPending}
use Rattle.typed_settings.proofs.Apart.{prefix_free}
use Rattle.settings_machine.specs.JobSeen.{job_seen}
use Rattle.settings_machine.specs.Typed.{IsTypedHeld}
use Rattle.settings_machine.specs.World.{Key}
use Rattle.settings_machine.proofs.Typing.{committed_typed}
use Rattle.settings_machine.proofs.Fitting.{fit_live}
use Rattle.plain_machine.specs.Jobs.{noted, with_since}
use Rattle.plain_machine.proofs.RequestsAnswered.{asked_missing, asked_commit, noting_is}
use Rattle.plain_machine.proofs.machine.PlainMachine.commit.Goals as goal

pub returns-in_err-commit-clause-missing : goal.returns-in_err-commit-clause-missing
returns-in_err-commit-clause-missing c is =
    let p = err_from_is_err_and c.from_residual.result c.from_residual.ensures.1 in
    let same : c.in_err-commit.field-0.0 ≡ NoPending = cc (p.1, p.2, is) in
    let err : CommitError → Result Commit CommitError = λ e. Err e in
    asked_missing c.args.image.now c.args.self.now c.args.tx.now (c.in_err-commit.ensures.refused (ap err same))

pub returns-in_err-commit-clause-exact : goal.returns-in_err-commit-clause-exact
returns-in_err-commit-clause-exact c is =
    let p = err_from_is_err_and c.from_residual.result c.from_residual.ensures.1 in
    let same : c.in_err-commit.field-0.0 ≡ NoPending = cc (p.1, p.2, is) in
    let err : CommitError → Result Commit CommitError = λ e. Err e in
    c.in_err-commit.ensures.refused (ap err same)

pub returns-in_err-commit-clause-refused : goal.returns-in_err-commit-clause-refused
returns-in_err-commit-clause-refused c none =
    let p = err_from_is_err_and c.from_residual.result c.from_residual.ensures.1 in
    let same : c.in_err-commit.field-0.0 ≡ NoPending = cc (c.in_err-commit.ensures.missing none) in
    cc (p.1, p.2, same)

pub lay-requires-clause-rule : goal.lay-requires-clause-rule
lay-requires-clause-rule c = c.in_ok-commit.ensures.rule c.keep_rule.ensures
    (fit_live c.args.image.now.types (prefix_free c.args.image.now.types c.requires.table.apart) c.args.self.now.held c.requires.typed c.args.tx.now)

pub returns-clause-asked : goal.returns-clause-asked
returns-clause-asked c =
    let j = job_seen c.args.self.now.job in
    asked_commit c.args.image.now c.args.self.now c.args.tx.now (λ none. cc (c.in_ok-commit.ensures.missing none)) _ _ c.in_ok-commit.ensures.keys
    (c.in_ok-lay.ensures.ok ∙ c.in_ok-commit.ensures.laid)
    (c.note.ensures ∙ ap (with_since j) c.in_ok-since.ensures ∙ ap (λ (keys : List Key). with_since j (noted j keys)) c.in_ok-commit.ensures.changed
    ∙ noting_is j _) refl

pub returns-clause-typed : goal.returns-clause-typed
returns-clause-typed c = subst (IsTypedHeld c.args.image.now.types) (sym (c.in_ok-lay.ensures.ok ∙ c.in_ok-commit.ensures.laid))
    (committed_typed c.args.image.now.types c.args.self.now.held c.requires.typed c.args.tx.now)
