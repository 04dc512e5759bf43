use Rattle.std.proofs.Common.{◌≡◌, string_cmp}
use Rattle.std.specs.List.Sorted.{IsStrictlySortedBy}
use Rattle.std.specs.Map.{keys_of}
use Rattle.serde_json.specs.View.{members_view}
use Rattle.host_client.specs.Trees.{merged_members}
use Rattle.host_client.proofs.trees.+merge.Given as goal

-- the members that are left are to be merged with those so far
abbrev pub invariant-merge_members-loop-name : goal.invariant-merge_members-loop-name
invariant-merge_members-loop-name l = record {
  can_next : (goal.iterator-merge_members-loop-name).can_next l.name-iterator;
  is_finite : (goal.iterator-merge_members-loop-name).is_finite l.name-iterator;
  rising : IsStrictlySortedBy string_cmp (keys_of l.name-iterator);
  merged : merged_members (members_view l.members.entries) (members_view l.name-iterator)
      ≡ merged_members (members_view l.initial.members.entries) (members_view l.fn.more.entries);
}
