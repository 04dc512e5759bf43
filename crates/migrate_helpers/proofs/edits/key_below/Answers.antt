use Rattle.std.proofs.Common.{sym, ◌∙◌}
use Rattle.settings_tree.proofs.Below.{first_none}
use Rattle.migrate_helpers.proofs.edits.key_below.Goals as goal

pub returns-else-is_prefix-clause-none : goal.returns-else-is_prefix-clause-none
returns-else-is_prefix-clause-none g c = first_none c.args.map.now c.args.prefix.now c.in-Some.key.now _ c.in-Some.ensures.least
    (sym c.is_prefix.ensures ∙ c.if-is_prefix.false)
