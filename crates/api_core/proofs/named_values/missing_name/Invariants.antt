use Rattle.std.proofs.Common.{◌≡◌, ◌≤◌, length, drop}
use Rattle.std.specs.Option.{option_copied}
use Rattle.settings_machine.specs.Answers.{missing_name}
use Rattle.api_core.specs.Gathered.{no_name}
use Rattle.api_core.proofs.named_values.missing_name.Given as goal

abbrev pub invariant-loop-index : goal.invariant-loop-index
invariant-loop-index l = record {
  within : l.index ≤ length l.names;
  missing_is : no_name (option_copied l.missing) ≡ missing_name l.live.values l.first (drop l.index l.names);
}

abbrev pub decreases-loop-index : goal.decreases-loop-index
decreases-loop-index l = l.index
