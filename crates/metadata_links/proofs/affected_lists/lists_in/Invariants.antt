use Rattle.std.proofs.Common.{◌≡◌, ◌++◌, Ok, map}
use Rattle.std.specs.List.{flat_map}
use Rattle.std.specs.Option.{option_copied}
use Rattle.metadata_links.specs.Faults.{list_faults, is_among}
use Rattle.metadata_links.specs.Lists.{lists_in, lists_of}
use Rattle.metadata_links.proofs.affected_lists.lists_in.Given as goal

abbrev pub invariant-loop-key : goal.invariant-loop-key
invariant-loop-key l = record {
  read : map (λ e. (e.0, Ok e.1)) l.lists.items ++ lists_of l.key-iterator ≡ lists_in l.content.metadata;
  left : flat_map (list_faults (is_among (option_copied l.services))) (lists_of l.key-iterator) ≡ flat_map
      (list_faults (is_among (option_copied l.services))) (lists_in l.content.metadata);
}
