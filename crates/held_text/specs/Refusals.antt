-- What a refusal from below is to the reader of a held text, and of a dump.
use Rattle.key_names.specs.declared.key_error.KeyFault.{KeyFault}
use Rattle.key_names.specs.declared.key_error.KeyFault.TheVariants as key_fault
use Rattle.json_trees.specs.declared.tree_error.TreeError.{TreeError}
use Rattle.json_trees.specs.declared.tree_error.TreeError.TheVariants as tree_error
use Rattle.held_text.specs.declared.held_error.HeldError.{HeldError}
use Rattle.held_text.specs.declared.dump_error.DumpError.{DumpError}
use Rattle.held_text.specs.declared.dump_error.DumpError.TheVariants as dump_error
use Rattle.held_text.specs.declared.held_error.HeldError.TheVariants.{BadHeld, Memory}

-- Out of memory stays out of memory, and any fault of a key spoils the text.
abbrev pub of_key_fault : KeyFault → HeldError
of_key_fault key_fault.Memory = Memory
of_key_fault _ = BadHeld

-- Out of memory stays out of memory, and any other refusal spoils the text.
abbrev pub of_tree_error : TreeError → HeldError
of_tree_error tree_error.Memory = Memory
of_tree_error _ = BadHeld

-- A held text that is bad spoils the dump, and out of memory stays out of memory.
abbrev pub of_held_error : HeldError → DumpError
of_held_error BadHeld = dump_error.BadHeld
of_held_error Memory = dump_error.Memory
