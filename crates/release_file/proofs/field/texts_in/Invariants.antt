use Rattle.std.proofs.Common.{◌≡◌}
use Rattle.toml.specs.View.{items_view}
use Rattle.release_file.specs.Fields.{texts_in}
use Rattle.release_file.proofs.TextsLeft.{behind, texts_from}
use Rattle.release_file.proofs.field.texts_in.Given as goal

abbrev pub invariant-loop-value : goal.invariant-loop-value
invariant-loop-value l = behind l.texts.items (texts_from l.values l.value-index) ≡ texts_in (items_view l.values)
