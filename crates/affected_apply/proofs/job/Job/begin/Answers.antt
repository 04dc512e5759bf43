use Rattle.std.proofs.Common.{List, sym, subst}
use Rattle.std.specs.Prelude.{All}
use Rattle.metadata_links.specs.Commands.{seen}
use Rattle.metadata_links.specs.declared.command.Command.{Command}
use Rattle.affected_apply.specs.Work.{HasWord}
use Rattle.affected_apply.proofs.Ends.{words_reversed}
use Rattle.affected_apply.proofs.job.Job.begin.Goals as goal

pub invariant_of-result : goal.invariant_of-result
invariant_of-result c = (
  c.new-2.ensures.items,
  subst (λ (l : List Command). All (λ k. HasWord (seen k)) l) (sym c.reverse-2.ensures.items)
      (words_reversed c.in_ok-commands.commands.items c.in_ok-commands.ensures.worded),
)
