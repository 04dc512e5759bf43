use Rattle.std.proofs.Common.{List, ℕ, map, sym, ◌∙◌, ap}
use Rattle.std.specs.List.{find}
use Rattle.metadata_links.specs.Faults.{pairs_of}
use Rattle.metadata_links.specs.Paths.{clash_in}
use Rattle.metadata_links.specs.declared.file_row.FileRow.{FileRow}
use Rattle.metadata_links.proofs.Clashes.{pair_here, pair_later}
use Rattle.metadata_links.proofs.paths.first_pair.Goals as goal

pub returns-in-Some-first_behind-clause-some : goal.returns-in-Some-first_behind-clause-some
returns-in-Some-first_behind-clause-some c =
    sym c.loop-row.invariant ∙ ap (λ (l : List (List ℕ × FileRow)). find (λ (q : FileRow × FileRow). clash_in c.args.clash q.0 q.1)
    (pairs_of (map (λ e. e.1) l))) c.in-Some.ensures.cases.0
    ∙ pair_here (clash_in c.args.clash) c.in-Some.field-0-0.now.1 c.in-Some-first_behind.other.now (map (λ e. e.1) c.in-Some.others.now)
    (sym c.in-Some-first_behind.ensures)

pub loop-row-preserved : goal.loop-row-preserved
loop-row-preserved c =
    sym (pair_later (clash_in c.args.clash) c.in-Some.field-0-0.now.1 (map (λ e. e.1) c.in-Some.others.now) (sym c.in-None.ensures))
    ∙ sym (ap (λ (l : List (List ℕ × FileRow)). find (λ (q : FileRow × FileRow). clash_in c.args.clash q.0 q.1) (pairs_of (map (λ e. e.1) l)))
    c.in-Some.ensures.cases.0) ∙ c.loop-row.invariant
