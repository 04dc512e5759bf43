use Rattle.std.proofs.Common.{rules}
use Rattle.std.proofs.lemmas.Result.{on_ok_weaker}
use Rattle.template_eval.specs.Views.{place_of, pair_of}
use Rattle.template_eval.proofs.Additions.{adds_onto}
use Rattle.template_eval.proofs.joins.push_behind.Goals as goal

pub returns-clause-ok : goal.returns-clause-ok
returns-clause-ok c = on_ok_weaker c.push_child.result (λ adds. adds_onto c.args.lead.now
    (pair_of c.args.inputs.now c.args.joiner.now c.args.path.now (place_of c.args.place.now)) c.args.out.now.items c.extend_from_slice.new.self.items
    c.push_child.new.out.items (search rules) adds) c.push_child.ensures.ok
