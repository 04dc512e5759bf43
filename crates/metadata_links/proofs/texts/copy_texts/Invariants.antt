use Rattle.std.proofs.Common.{◌≡◌, ◌++◌, drop}
use Rattle.std.specs.List.{filter_map}
use Rattle.metadata_links.specs.Texts.{text_of}
use Rattle.metadata_links.proofs.texts.copy_texts.Given as goal

abbrev pub invariant-loop-item : goal.invariant-loop-item
invariant-loop-item l = l.texts.items ++ filter_map text_of (drop l.item-index l.items) ≡ filter_map text_of l.items
