use Rattle.std.proofs.Common.{rules, ◌≡◌, length, refl, sym, ◌∙◌, arith}
use Rattle.std.proofs.lemmas.Result.{on_ok_weaker}
use Rattle.std.specs.Map.{keys_of}
use Rattle.json_trees.specs.Nested.{first_name}
use Rattle.json_trees.proofs.Objects.{nesting_begun, nesting_cut, nesting_ended, nestable_take, cut_some}
use Rattle.serde_json.specs.Data.{object}
use Rattle.json_trees.proofs.Branches.{level_within, nestable_next, leaf_branch, object_branch, member_tokens, on_ok_both}
use Rattle.json_trees.proofs.Groups.{named}
use Rattle.json_trees.proofs.nesting.+nest.Goals as goal

pub write_members-loop-rest-init : goal.write_members-loop-rest-init
write_members-loop-rest-init g t c = record {
  nesting = nesting_begun g.L.Leaf.leaf g.L.Leaf.written c.args.level c.args.pairs.now c.begin_object.new.self.tokens c.requires;
  before = refl;
}

pub write_members-write_member-requires : goal.write_members-write_member-requires
write_members-write_member-requires g t c κs within = (
  omega arith,
  (
    within,
    (
      cut_some c.loop-rest.rest.now c.split_at.result.0.now c.group_len.result c.split_at.ensures.front c.group_len.ensures.some c.group_len.ensures.within,
      (
        rw c.split_at.ensures.front (nestable_take c.args.level c.loop-rest.rest.now c.group_len.result c.loop-rest.invariant.nesting.nestable),
        rw c.split_at.ensures.front c.group_len.ensures.same,
      ),
    ),
  ),
)

pub write_members-loop-rest-preserved : goal.write_members-loop-rest-preserved
write_members-loop-rest-preserved g t c =
    let cut = c.group_len.ensures in
    let branch = c.in_ok-write_member.ensures.branch in
    record {
      nesting =
          nesting_cut g.L.Leaf.leaf g.L.Leaf.written c.args.level c.args.pairs.now c.loop-rest.rest.now c.split_at.result.0.now c.split_at.result.1.now
          c.group_len.result branch.0 _ _ _
          c.loop-rest.invariant.nesting c.split_at.ensures.front c.split_at.ensures.back cut.some cut.within cut.same cut.later branch.1 branch.2;
      before = search rules;
    }

pub write_members-returns-clause-tree : goal.write_members-returns-clause-tree
write_members-returns-clause-tree g t c =
    let none : length c.loop-rest.rest.now ≡ 0 = search rules in
    on_ok_weaker c.end_object.result
    (λ ended. nesting_ended g.L.Leaf.leaf g.L.Leaf.written c.args.level c.args.pairs.now _ _ _ _ _ c.loop-rest.invariant.nesting none
    c.in_ok-begin_object.ensures.ok ended) c.end_object.ensures.ok

pub write_member-write_members-requires : goal.write_member-write_members-requires
write_member-write_members-requires g t c κs within =
    let shallow = level_within c.args.level c.args.group.now c.index-group-0.result c.index-group-0.is c.requires.some c.requires.nestable c.len.ensures.valid
    in (
      omega (arith, shallow),
      (
        within,
        nestable_next c.args.level c.args.group.now c.index-group-0.result c.index-group-0.is c.requires.some c.requires.nestable c.requires.same
            (λ e. c.if-len-level.false (c.len.ensures.count ∙ e)),
      ),
    )

pub write_member-returns-then-len-level-clause-branch :
    goal.write_member-returns-then-len-level-clause-branch
write_member-returns-then-len-level-clause-branch g t c =
    let first = c.index-group-0.result in
    on_ok_both c.write.result
    (λ tokens writable. (
      g.L.Leaf.written first.1,
      leaf_branch g.L.Leaf.leaf g.L.Leaf.written c.args.level c.args.group.now first c.index-group-0.is c.requires.some c.requires.nestable c.requires.same
          (sym c.len.ensures.count ∙ c.if-len-level.true)
          c.len.ensures.valid writable,
      member_tokens c.args.writer.now.tokens c.key.new.self.tokens _ _ c.name_at.result.now (first_name c.args.level (keys_of c.args.group.now))
          c.in_ok-key.ensures.ok
          (named c.args.level c.args.group.now c.index-group-0.result c.name_at.result.now c.index-group-0.is c.requires.some c.name_at.ensures)
          tokens,
    )) c.write.ensures.tokens c.write.ensures.writable

pub write_member-returns-else-len-level-clause-branch :
    goal.write_member-returns-else-len-level-clause-branch
write_member-returns-else-len-level-clause-branch g t c =
    let first = c.index-group-0.result in
    let shallow = level_within c.args.level c.args.group.now first c.index-group-0.is c.requires.some c.requires.nestable c.len.ensures.valid in
    on_ok_weaker c.write_members.result
    (λ tree. (
      object tree.0,
      object_branch g.L.Leaf.leaf g.L.Leaf.written c.args.level c.args.group.now tree.0 c.requires.some shallow tree.1,
      member_tokens c.args.writer.now.tokens c.key.new.self.tokens _ _ c.name_at.result.now (first_name c.args.level (keys_of c.args.group.now))
          c.in_ok-key.ensures.ok
          (named c.args.level c.args.group.now c.index-group-0.result c.name_at.result.now c.index-group-0.is c.requires.some c.name_at.ensures)
          tree.2,
    )) c.write_members.ensures.tree
