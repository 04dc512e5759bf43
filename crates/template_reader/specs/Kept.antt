-- The templates that are kept.
use Rattle.std.specs.Prelude.{ℕ, List, Option}
use Rattle.std.specs.Option.{option_map}
use Rattle.std.specs.BTreeMap.{get_by}
use Rattle.key_names.specs.Order.{bytes_cmp}
use Rattle.template_reader.specs.declared.templates.Templates.{Templates}

-- The source that is kept for a file, if one is.
abbrev pub source_of : Templates → List ℕ → Option (List ℕ)
source_of t file = option_map (λ k. k.source) (get_by (λ name. bytes_cmp file name.items) t.kept)
