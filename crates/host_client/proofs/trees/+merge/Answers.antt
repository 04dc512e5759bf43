use Rattle.std.proofs.Common.{rules, ◌≡◌, ◌∷◌, List, string_cmp, unwrap_or, sym, ap, ◌∙◌, subst}
use Rattle.std.proofs.lemmas.Map.Keys.{sorted_tail}
use Rattle.std.specs.BTreeMap.{is_at}
use Rattle.std.specs.BTreeMap.Entry.{map_with_value}
use Rattle.std.specs.List.Sorted.{IsStrictlySortedBy}
use Rattle.std.specs.Map.{keys_of, lookup}
use Rattle.serde_json.specs.View.{members_view}
use Rattle.serde_json.specs.declared.value.Value.{Null}
use Rattle.serde_json.proofs.Views.{Entry}
use Rattle.host_client.specs.Trees.{merged_members}
use Rattle.host_client.proofs.Merging.{merged_more, objects_merged}
use Rattle.host_client.proofs.trees.+merge.Goals as goal

pub merge-returns-in_ok-merge_members-in-Object-Object :
    goal.merge-returns-in_ok-merge_members-in-Object-Object
merge-returns-in_ok-merge_members-in-Object-Object t c =
    objects_merged c.args.old c.args.new c.in-Object-Object.members c.in-Object-Object.more c.merge_members.new.members (search rules) (search rules)
    (search rules)

pub merge_members-loop-name-preserved : goal.merge_members-loop-name-preserved
merge_members-loop-name-preserved t c =
    let es = c.loop-name.members.entries in
    let e : Entry = (c.in-Some.name, c.in-Some.new) in
    let rest = c.next.new.self in
    let left : c.loop-name.name-iterator ≡ e ∷ rest = c.in-Some.ensures.steps in
    let rising = subst (λ fs. IsStrictlySortedBy string_cmp (keys_of fs)) left c.loop-name.invariant.rising in
    let was : c.take.result ≡ unwrap_or (lookup (is_at (string_cmp c.in-Some.name)) es) Null = search rules in
    let merged : (fs : List Entry) → fs ≡ (map_with_value c.in_ok-members.field-0 c.in_ok-value.field-0).entries
    → merged_members (members_view fs) (members_view rest) ≡ merged_members (members_view es) (members_view c.loop-name.name-iterator) = λ fs is.
    merged_more es fs rest c.in-Some.name c.take.result c.in-Some.new c.in_ok-value.field-0 c.in_ok-members.ensures.ordered rising was
    c.in_ok-value.ensures (is ∙ c.in_ok-members.ensures.update.1 c.in_ok-value.field-0)
    ∙ ap (λ gs. merged_members (members_view es) (members_view gs)) (sym left) in
    record {
      can_next = tt;
      is_finite = tt;
      rising = sorted_tail string_cmp c.in-Some.name (keys_of rest) rising;
      merged = merged _ (search rules) ∙ c.loop-name.invariant.merged;
    }
