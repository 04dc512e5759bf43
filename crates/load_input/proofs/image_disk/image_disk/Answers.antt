use Rattle.std.proofs.Common.{◌≡◌, ◌∙◌, ◌+◌, List, sym, subst, map, take, ap}
use Rattle.std.proofs.lemmas.List.{take_all}
use Rattle.std.proofs.lemmas.Result.{IfOk-weaker}
use Rattle.outside.specs.Names.{Names}
use Rattle.disk_memory.specs.declared.node.Node.{Node}
use Rattle.load_input.specs.Image.{File, image_files}
use Rattle.load_input.specs.Files.{file_of}
use Rattle.load_input.specs.Starting.{AreNodesOf}
use Rattle.load_input.proofs.Nodes.{nodes_more}
use Rattle.load_input.proofs.image_disk.image_disk.Goals as goal

pub loop-file-preserved : goal.loop-file-preserved
loop-file-preserved c =
    let files = c.deref-file-items.result.now in
    subst (λ (ns : List (Names × Node)). AreNodesOf (map file_of (take (c.loop-file.file-index + 1) files)) ns) (sym c.in_ok-push.ensures.items)
    (nodes_more files c.loop-file.file-index c.file-item.result c.loop-file.nodes.items _ c.loop-file-test.true c.file-item.is c.loop-file.invariant
    c.in_ok-node_of.ensures)

pub returns : goal.returns
returns c =
    let files = c.deref-file-items.result.now in
    let all : map file_of (take c.loop-file.file-index files) ≡ image_files c.args.count =
    ap (map file_of) (take_all c.loop-file.file-index files c.loop-file-test.false) ∙ ap (map file_of) c.deref-file-items.ensures.value
    ∙ c.in_ok-image.ensures in
    IfOk-weaker c.of_tree.result _ _
    (λ disk stands. record {
      nodes = c.loop-file.nodes.items;
      are = subst (λ (fs : List File). AreNodesOf fs c.loop-file.nodes.items) all c.loop-file.invariant;
      stands = stands;
    })
    c.of_tree.ensures.history
