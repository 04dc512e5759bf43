-- Refusals of the names of entries.
use Rattle.std.proofs.Common.{◌≡◌, ◌≢◌}
use Rattle.key_names.specs.declared.key_error.KeyFault.{KeyFault}
use Rattle.key_names.specs.declared.key_error.KeyFault.TheVariants as key_fault
use Rattle.json_trees.specs.Tree.{refusal_of}
use Rattle.json_trees.specs.declared.tree_error.TreeError.{TreeError}
use Rattle.json_trees.specs.declared.tree_error.TreeError.TheVariants.{BadKey, Memory}

-- a fault of a key other than out of memory is a bad key
pub bad_key : (kind : KeyFault) (r : TreeError) → r ≡ refusal_of kind → r ≢ Memory → (r ≡ BadKey) × (kind ≢ key_fault.Memory)
bad_key key_fault.Memory r is other = absurd (other is)
bad_key _ r is other = (is, λ e. cc)
