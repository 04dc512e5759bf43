use Rattle.std.proofs.lemmas.Result.{IfOk-weaker}
use Rattle.api_core.proofs.PlanParts.{same_file, file_of_keys}
use Rattle.api_core.proofs.serving.Core.committed_file.Goals as goal

pub returns-in-Some-clause-reads : goal.returns-in-Some-clause-reads
returns-in-Some-clause-reads c =
    let core = c.args.self.now in
    IfOk-weaker c.rendered.result _ _
    (λ answer renders. file_of_keys core c.args.file.now c.requires c.args.tx.now c.in-Some.keys.now answer c.in-Some.ensures.keys
    (same_file core _ _ c.args.file.now answer c.over.ensures renders))
    c.rendered.ensures.renders
