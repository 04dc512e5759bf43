use Rattle.std.proofs.Common.{◌≡◌}
use Rattle.toml.specs.View.{items_view}
use Rattle.toml_values.specs.Values.{items_of}
use Rattle.toml_values.proofs.Items.{behind, items_from}
use Rattle.toml_values.proofs.values.items_of.Given as goal

abbrev pub invariant-loop-value : goal.invariant-loop-value
invariant-loop-value l = behind l.items.items (items_from l.values l.value-index) ≡ items_of (items_view l.values)
