use Rattle.std.proofs.Common.{◌≡◌, drop}
use Rattle.serde_json.specs.View.{members_view}
use Rattle.host_client.specs.Trees.{with_trees, one_tree}
use Rattle.host_client.proofs.trees.one_tree.Given as goal

-- the bodies that are left are to be merged with the tree so far
abbrev pub invariant-loop-reply : goal.invariant-loop-reply
invariant-loop-reply l = with_trees (members_view l.tree.entries) (drop l.reply-index l.replies) ≡ one_tree l.replies
