use Rattle.std.proofs.Common.{rules, ◌≡◌, ◌≢◌, Err, ap, ◌∙◌}
use Rattle.serde_json.proofs.Views.{view-Object}
use Rattle.serde_json.specs.View.{view}
use Rattle.json_trees.specs.Tree.{path_of, tree_pairs}
use Rattle.json_trees.specs.declared.tree_error.TreeError.TheVariants.{Memory}
use Rattle.json_trees.proofs.flattening.object_pairs.Goals as goal

pub returns-in_err-push_members-in-Object-clause-err :
    goal.returns-in_err-push_members-in-Object-clause-err
returns-in_err-push_members-in-Object-clause-err g c =
    let e = c.in_err-push_members-in-Object.field-0.0 in
    let pairs = tree_pairs g.L.Leaf.leaf (path_of c.args.under) in
    let refused : e ≢ Memory → pairs (view c.args.value) ≡ Err e = λ other.
    ap (λ v. pairs (view v)) c.in-Object.is ∙ ap pairs (view-Object c.in-Object.members) ∙ c.in_err-push_members-in-Object.ensures.err other in
    search (rules, refused)
