use Rattle.std.proofs.Common.{map}
use Rattle.toml.specs.View.{table_view}
use Rattle.release_file.proofs.SectionNames.{only_these}
use Rattle.release_file.proofs.migration.has_only.Goals as goal

pub returns : goal.returns
returns c = only_these (map (λ n. n.now) c.args.names.now) (table_view c.args.table.now) c.other_name.result c.is_none.result c.other_name.ensures
    c.is_none.ensures
