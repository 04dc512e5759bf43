use Rattle.std.proofs.Common.{ℕ, List, [], ◌∷◌, ◌++◌, append_assoc, ◌∙◌, ap}
use Rattle.std.specs.Prelude.{codes, decimal, if◌then◌else◌}
use Rattle.std.proofs.lemmas.Result.{IfOk-weaker}
use Rattle.settings_machine.specs.Asked.{request_of}
use Rattle.event_lines.specs.Logfmt.{Pair, line}
use Rattle.event_lines.specs.Lines.{target_of, subject, deeds, is_of_success}
use Rattle.event_lines.proofs.Made.{worded, one_pair, more_pairs, ended}
use Rattle.event_lines.proofs.requests.with_request.Goals as goal

pub returns : goal.returns
returns c =
    let q = request_of c.args.request.now in
    let did : List Pair = if is_of_success c.args.status then deeds q c.args.changed.now else [] in
    let status : Pair = (codes "status", decimal c.args.status) in
    IfOk-weaker c.end.result _ _
    (λ text is. ended text
    (more_pairs did _
    (one_pair (codes "status") (decimal c.args.status) _ _
    (more_pairs (subject q) _
    (one_pair (codes "path") (target_of q).1 _ _
    (one_pair (codes "method") (target_of q).0 _ _
    (worded [] (codes "request") c.in_ok-begin.field-0 (c.in_ok-begin.ensures ∙ ap (λ (l : List ℕ). l ++ codes "request") c.new.ensures))
    c.method_of.ensures c.in_ok-pair.ensures)
    c.path_of.ensures c.in_ok-lines.ensures)
    c.in_ok-with_subject.ensures)
    (ap decimal c.from.ensures) c.in_ok-lines-2.ensures)
    c.in_ok-with_success.ensures)
    is
    ∙ ap (λ (ps : List Pair). line (codes "request") ((codes "method", (target_of q).0) ∷ (codes "path", (target_of q).1) ∷ ps))
    (append_assoc (subject q) (status ∷ []) did))
    c.end.ensures
