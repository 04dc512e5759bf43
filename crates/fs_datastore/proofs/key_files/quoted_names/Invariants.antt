use Rattle.std.proofs.Common.{take}
use Rattle.fs_datastore.specs.FoundFiles.{Quotes}
use Rattle.fs_datastore.proofs.key_files.quoted_names.Given as goal

abbrev pub invariant-loop-name : goal.invariant-loop-name
invariant-loop-name l = Quotes (take l.name-index l.names) l.text.items
