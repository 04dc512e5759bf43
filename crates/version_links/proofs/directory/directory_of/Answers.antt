use Rattle.std.proofs.Common.{◌==◌, ℕ, List, length, ◌∙◌, ap}
use Rattle.std.proofs.lemmas.Bool.{false≢true}
use Rattle.version_links.proofs.FirstNumbers.{no_minor, no_patch, no_id, no_rest}
use Rattle.version_links.proofs.directory.directory_of.Goals as goal

pub returns-in_err-minor-clause-exact : goal.returns-in_err-minor-clause-exact
returns-in_err-minor-clause-exact c = rw c.from_residual-in_err-minor.ensures
    (λ target fits is. no_minor c.args.name.now target fits is _ _ c.in_ok-major.ensures c.in_err-minor.ensures)

pub returns-in_err-patch-clause-exact : goal.returns-in_err-patch-clause-exact
returns-in_err-patch-clause-exact c = rw c.from_residual-in_err-patch.ensures
    (λ target fits is. no_patch c.args.name.now target fits is _ _ c.in_ok-major.ensures _ _ c.in_ok-minor.ensures c.in_err-patch.ensures)

pub returns-in_err-id-clause-exact : goal.returns-in_err-id-clause-exact
returns-in_err-id-clause-exact c = rw c.from_residual-in_err-id.ensures
    (λ target fits is. no_id c.args.name.now target fits is _ _ c.in_ok-major.ensures _ _ c.in_ok-minor.ensures _ _ c.in_ok-patch.ensures c.in_err-id.ensures)

pub returns-then-not-is_empty-clause-exact : goal.returns-then-not-is_empty-clause-exact
returns-then-not-is_empty-clause-exact c = λ target fits is. let none =
    no_rest c.args.name.now target fits is _ _ c.in_ok-major.ensures _ _ c.in_ok-minor.ensures _ _ c.in_ok-patch.ensures _ _ c.in_ok-id.ensures in
    false≢true (c.if-not-is_empty.ensures ∙ ap (λ (l : List ℕ). length l == 0) none)
