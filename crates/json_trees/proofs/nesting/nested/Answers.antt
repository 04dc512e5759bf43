use Rattle.std.proofs.Common.{◌++◌, ap, ◌∙◌}
use Rattle.std.specs.Map.{keys_of}
use Rattle.serde_json.specs.Data.{object}
use Rattle.json_trees.specs.Written.{data_tokens}
use Rattle.json_trees.proofs.Shared.{IsNestable-shared}
use Rattle.json_trees.proofs.Texts.{NestsAs-text, FlattensBack-text}
use Rattle.json_trees.proofs.nesting.nested.Goals as goal

pub write_members-requires : goal.write_members-requires
write_members-requires g c = IsNestable-shared c.args.level (keys_of c.args.pairs.now) c.requires.apart c.requires.shared

pub returns-clause-tree : goal.returns-clause-tree
returns-clause-tree g c =
    let tree = c.in_ok-write_members.ensures.tree in
    let written = tree.2 ∙ ap (λ ts. ts ++ data_tokens (object tree.0)) c.new-writer.ensures.tokens in
    let made = c.text_of.ensures in
    NestsAs-text g.L.Leaf.leaf g.L.Leaf.written c.args.level c.args.pairs.now tree.0 tree.1 c.text_of.result _ made.text made.utf8 made.reads_back written

pub returns-clause-flattens_back : goal.returns-clause-flattens_back
returns-clause-flattens_back g c =
    let tree = c.in_ok-write_members.ensures.tree in
    let written = tree.2 ∙ ap (λ ts. ts ++ data_tokens (object tree.0)) c.new-writer.ensures.tokens in
    FlattensBack-text g.L.Leaf.leaf g.L.Leaf.written c.args.level c.args.pairs.now tree.0 tree.1 c.text_of.result c.text_of.ensures.utf8
    (c.text_of.ensures.reads_back ∙ written)
