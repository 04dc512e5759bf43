use Rattle.std.proofs.Common.{◌≡◌, take}
use Rattle.migrate_helpers.specs.Mapped.{without_names}
use Rattle.migrate_helpers.proofs.metadata.remove_names.Given as goal

abbrev pub invariant-loop-name : goal.invariant-loop-name
invariant-loop-name l = l.content ≡ record l.fn.content { metadata = without_names l.fn.content.metadata l.key (take l.name-index l.names) }
