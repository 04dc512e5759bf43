use Rattle.std.proofs.Common.{arith, [], ◌∷◌, ◌%◌, append_assoc, eq-eqb}
use Rattle.load_input.specs.Requests.{patch_of, commit_and_apply_of, changes_of}
use Rattle.load_input.proofs.request_bytes.push_changes.Goals as goal

pub returns-in_ok-push-2 : goal.returns-in_ok-push-2
unfolding changes_of
returns-in_ok-push-2 c =
    rw (eq-eqb (c.args.i % 100) 99 c.if-i-eq99.true)
    (grind (arith, append_assoc c.args.out.now.items (patch_of c.args.i ∷ []) (commit_and_apply_of (c.args.i % 7) ∷ [])))
