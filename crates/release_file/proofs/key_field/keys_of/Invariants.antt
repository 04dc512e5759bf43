use Rattle.std.proofs.Common.{take}
use Rattle.release_file.specs.Fields.{SpellSettings}
use Rattle.release_file.proofs.key_field.keys_of.Given as goal

-- the texts so far spell these keys
abbrev pub invariant-loop-text : goal.invariant-loop-text
invariant-loop-text l = SpellSettings l.least (take l.text-index l.texts) l.keys.items
