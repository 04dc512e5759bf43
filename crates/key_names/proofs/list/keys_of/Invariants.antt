use Rattle.std.proofs.Common.{◌≤◌, ◌-◌, length, take}
use Rattle.key_names.specs.Joined.{Leads}
use Rattle.key_names.specs.Spelling.{SpellsKey}
use Rattle.key_names.proofs.list.keys_of.Given as goal

abbrev pub invariant-loop-key : goal.invariant-loop-key
invariant-loop-key l = record {
  within : l.start ≤ length l.text;
  leads : Leads SpellsKey 44 (take l.start l.text) l.keys.items;
}

abbrev pub decreases-loop-key : goal.decreases-loop-key
decreases-loop-key l = length l.text - l.start
