use Rattle.std.proofs.Common.{◌≡◌, ◌≤◌, length, drop}
use Rattle.std.specs.Option.{option_copied}
use Rattle.settings_machine.specs.Answers.{missing_key}
use Rattle.api_core.specs.Gathered.{no_key}
use Rattle.api_core.proofs.settings_at.missing_key.Given as goal

abbrev pub invariant-loop-index : goal.invariant-loop-index
invariant-loop-index l = record {
  within : l.index ≤ length l.keys;
  first_is : no_key (option_copied l.first) ≡ missing_key l.live.values (drop l.index l.keys);
}

abbrev pub decreases-loop-index : goal.decreases-loop-index
decreases-loop-index l = l.index
