use Rattle.std.proofs.Common.{◌++◌, ◌∷◌, [], ap, ◌∙◌}
use Rattle.outside.specs.Names.{Names}
use Rattle.store_open.proofs.Copied.{copies_some, copies_none}
use Rattle.store_open.proofs.copying.copy_node.Goals as goal

pub returns-in_default-clause-copies : goal.returns-in_default-clause-copies
returns-in_default-clause-copies g c =
    copies_none (g.D.Disk.told c.args.disk.now) c.args.path.now c.in_ok-node.field-0 c.args.nodes.now.items c.in_default.is c.in_ok-node.ensures.node

pub returns-clause-copies : goal.returns-clause-copies
returns-clause-copies g c =
    copies_some (g.D.Disk.told c.args.disk.now) c.args.path.now c.in_ok-node.field-0 c.in-Some.node c.args.nodes.now.items c.push.new.self.items c.in-Some.is
    (c.in_ok-push.ensures.items ∙ ap (λ (p : Names). c.args.nodes.now.items ++ (p, c.in-Some.node) ∷ []) c.in_ok-copy.ensures) c.in_ok-node.ensures.node
