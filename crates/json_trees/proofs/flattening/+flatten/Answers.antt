use Rattle.std.proofs.Common.{rules, ◌≡◌, ◌≢◌, Err, string_bytes, [], ◌∷◌, ◌++◌, ap, sym, ◌∙◌}
use Rattle.key_names.specs.Key.{is_key}
use Rattle.serde_json.specs.View.{view, members_view}
use Rattle.json_trees.specs.Tree.{path_of, members_pairs}
use Rattle.json_trees.specs.declared.tree_error.TreeError.TheVariants.{Memory}
use Rattle.json_trees.proofs.Gathering.{named_by, gathering_begun, gathering_grown, gathering_refused, gathering_no_key}
use Rattle.json_trees.proofs.flattening.+flatten.Goals as goal

pub push_members-loop-name-init : goal.push_members-loop-name-init
push_members-loop-name-init g t c = (
  tt,
  tt,
  rw c.into_iter-name-iterator.ensures.into_iter_gives.0 (gathering_begun g.L.Leaf.leaf (path_of c.args.under) (members_view c.args.members.entries)
      c.args.pairs.now.items),
)

pub push_members-loop-name-preserved : goal.push_members-loop-name-preserved
push_members-loop-name-preserved g t c =
    let named : c.in_ok-key.key ≡ path_of c.args.under ++ string_bytes c.in-Some.name ∷ [] =
    named_by c.in_ok-key.key (path_of c.args.under) c.as_str.result.now (string_bytes c.in-Some.name) c.in_ok-key.ensures.ok c.as_str.ensures.value in (
      tt,
      tt,
      gathering_grown g.L.Leaf.leaf (path_of c.args.under) c.in_ok-key.key (members_view c.args.members.entries) (members_view c.loop-name.name-iterator)
          (string_bytes c.in-Some.name)
          (view c.in-Some.value) (members_view c.next.new.self) c.args.pairs.now.items c.loop-name.pairs.items c.push_value.new.pairs.items
          c.loop-name.invariant.2
          (ap members_view c.in-Some.ensures.steps) named c.in_ok-key.ensures.valid c.in_ok-push_value.ensures.ok,
    )

pub push_members-returns-in_err-key-clause-err :
    goal.push_members-returns-in_err-key-clause-err
push_members-returns-in_err-key-clause-err g t c =
    let refused : c.in_err-key.field-0.0 ≢ Memory → members_pairs g.L.Leaf.leaf (path_of c.args.under) (members_view c.args.members.entries) ≡ Err
    c.in_err-key.field-0.0 = λ other.
    let bad = c.in_err-key.ensures.err other in
    gathering_no_key g.L.Leaf.leaf (path_of c.args.under) (members_view c.args.members.entries) (members_view c.loop-name.name-iterator)
    (string_bytes c.in-Some.name) (view c.in-Some.value)
    (members_view c.next.new.self) c.args.pairs.now.items c.loop-name.pairs.items c.loop-name.invariant.2 (ap members_view c.in-Some.ensures.steps)
    (ap (λ n. is_key (path_of c.args.under ++ n ∷ [])) (sym c.as_str.ensures.value) ∙ bad.1)
    ∙ ap Err (sym bad.0) in
    search (rules, refused)

pub push_members-returns-in_err-push_value-clause-err :
    goal.push_members-returns-in_err-push_value-clause-err
push_members-returns-in_err-push_value-clause-err g t c =
    let named : c.in_ok-key.key ≡ path_of c.args.under ++ string_bytes c.in-Some.name ∷ [] =
    named_by c.in_ok-key.key (path_of c.args.under) c.as_str.result.now (string_bytes c.in-Some.name) c.in_ok-key.ensures.ok c.as_str.ensures.value in
    let refused : c.in_err-push_value.field-0.0 ≢ Memory → members_pairs g.L.Leaf.leaf (path_of c.args.under) (members_view c.args.members.entries) ≡ Err
    c.in_err-push_value.field-0.0 = λ other.
    gathering_refused g.L.Leaf.leaf (path_of c.args.under) c.in_ok-key.key (members_view c.args.members.entries) (members_view c.loop-name.name-iterator)
    (string_bytes c.in-Some.name)
    (view c.in-Some.value) (members_view c.next.new.self) c.args.pairs.now.items c.loop-name.pairs.items c.in_err-push_value.field-0.0 c.loop-name.invariant.2
    (ap members_view c.in-Some.ensures.steps) named c.in_ok-key.ensures.valid (c.in_err-push_value.ensures.err other) in
    search (rules, refused)
