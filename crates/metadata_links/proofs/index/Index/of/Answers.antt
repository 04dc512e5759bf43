use Rattle.std.proofs.Common.{sym, ap, ◌∙◌}
use Rattle.std.proofs.lemmas.Result.{IfErr-weaker}
use Rattle.metadata_links.specs.Faults.{first_of}
use Rattle.metadata_links.specs.Lists.{lists_in}
use Rattle.metadata_links.proofs.Filtered.{faults_alone}
use Rattle.metadata_links.proofs.index.Index.of.Goals as goal

pub returns-clause-fault : goal.returns-clause-fault
returns-clause-fault c = IfErr-weaker c.lists_in.result _ _ (λ e told other. ap first_of (sym (faults_alone (lists_in c.args.content.now.metadata)))
    ∙ told other) c.lists_in.ensures.err
