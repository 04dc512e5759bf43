use Rattle.std.proofs.Common.{codes}
use Rattle.pending_tx.specs.Transactions.{pending_of}
use Rattle.api_core.proofs.Nesting.{nest_kept, pending_settings}
use Rattle.api_core.proofs.serving.Core.pending.Goals as goal

pub returns-clause-prints : goal.returns-clause-prints
returns-clause-prints c =
    let held = c.args.self.now.held in
    nest_kept (pending_of held c.args.tx.now) (codes "settings") (pending_settings c.args.self.now.image.model.types held c.requires.sound.typed c.args.tx.now)
    c.in_ok-pairs.pairs.items c.in_ok-pairs.ensures.pairs c.in_ok-pairs.ensures.apart
