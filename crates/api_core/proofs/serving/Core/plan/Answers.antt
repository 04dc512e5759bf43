use Rattle.settings_machine.specs.Asked.{request_of}
use Rattle.api_core.proofs.Commitments.{replies_planned}
use Rattle.api_core.proofs.serving.Core.plan.Goals as goal

pub returns-clause-replies : goal.returns-clause-replies
returns-clause-replies c = replies_planned c.args.self.now (request_of c.args.request.now) c.in_ok-planned.planned.answer c.in_ok-planned.planned.effect
    c.in_ok-planned.ensures.planned
