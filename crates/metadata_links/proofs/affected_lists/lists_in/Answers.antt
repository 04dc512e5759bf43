use Rattle.std.proofs.Common.{rules, ◌≡◌, ◌++◌, [], sym, ◌∙◌, ap, refl}
use Rattle.std.specs.FinMap.{entries}
use Rattle.std.specs.List.{flat_map}
use Rattle.std.specs.Option.{option_copied}
use Rattle.metadata_links.specs.Faults.{list_faults, is_among}
use Rattle.metadata_links.specs.Lists.{lists_of, lists_at}
use Rattle.metadata_links.proofs.Filtered.{sound}
use Rattle.metadata_links.proofs.Listings.{lists_next, lists_rise, read_more, sound_more, fault_first}
use Rattle.metadata_links.proofs.Rests.{taken_all}
use Rattle.metadata_links.proofs.affected_lists.lists_in.Goals as goal
use Rattle.outside.proofs.Results.{handed_on}

pub loop-key-init : goal.loop-key-init
loop-key-init c =
    let all : c.into_iter-key-iterator.result ≡ entries c.args.content.now.metadata = search rules in
    record {
      read = ap (λ l. sound l ++ lists_of c.into_iter-key-iterator.result) c.new-lists.ensures.items ∙ ap lists_of all;
      left = ap (λ l. flat_map (list_faults (is_among (option_copied c.args.services))) (lists_of l)) all;
    }

pub loop-key-preserved : goal.loop-key-preserved
loop-key-preserved c =
    let next = lists_next c.in-Some.key.now c.in-Some.names.now c.loop-key.key-iterator c.next.new.self (option_copied c.get-value.result)
    c.in-Some.ensures.steps c.get-value.ensures in
    record {
      read = read_more _ (sound c.loop-key.lists.items) _ (lists_at c.in-Some.key.now (option_copied c.get-value.result)) _ _ next
          c.in_ok-push_list.ensures.read c.loop-key.invariant.read;
      left = sound_more (list_faults (is_among (option_copied c.args.services))) (lists_at c.in-Some.key.now (option_copied c.get-value.result)) _ _ _ next
          c.in_ok-push_list.ensures.sound c.loop-key.invariant.left;
    }

pub of_rising-requires : goal.of_rising-requires
of_rising-requires c = lists_rise c.args.content.now.metadata c.loop-key.lists.items
    (taken_all lists_of refl c.loop-key.key-iterator _ (sound c.loop-key.lists.items) (search rules) c.loop-key.invariant.read)

pub returns-clause-ok : goal.returns-clause-ok
returns-clause-ok c = ap sound c.of_rising.ensures
    ∙ taken_all lists_of refl c.loop-key.key-iterator _ (sound c.loop-key.lists.items) (search rules) c.loop-key.invariant.read

pub returns-clause-sound : goal.returns-clause-sound
returns-clause-sound c =
    let none : c.loop-key.key-iterator ≡ [] = search rules in
    sym c.loop-key.invariant.left ∙ ap (λ l. flat_map (list_faults (is_among (option_copied c.args.services))) (lists_of l)) none

pub returns-in_err-push_list-clause-err : goal.returns-in_err-push_list-clause-err
returns-in_err-push_list-clause-err c =
    let next = lists_next c.in-Some.key.now c.in-Some.names.now c.loop-key.key-iterator c.next.new.self (option_copied c.get-value.result)
    c.in-Some.ensures.steps c.get-value.ensures in
    handed_on c.from_residual.result c.in_err-push_list.field-0.0 _ c.from_residual.ensures.1
    (λ other. fault_first (list_faults (is_among (option_copied c.args.services))) (lists_at c.in-Some.key.now (option_copied c.get-value.result)) _ _ _
    c.in_err-push_list.field-0.0 next (c.in_err-push_list.ensures.err other) c.loop-key.invariant.left)
