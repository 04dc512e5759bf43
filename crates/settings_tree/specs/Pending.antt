-- The pending maps.
use Rattle.std.specs.Prelude.{ℕ, List}
use Rattle.std.specs.FinMap.{FinMap}
use Rattle.key_names.specs.Order.{bytes_cmp, key_cmp}
use Rattle.json_trees.specs.declared.pending.Pending.{Pending}
use Rattle.settings_maps.specs.Maps.{inner, IsFull}
use Rattle.settings_tree.specs.Rule.{IsPrefixFree}

-- Each transaction has a key, and the prefix rule holds in each.
pub record IsPending (pending : FinMap bytes_cmp (FinMap key_cmp Pending)) : Type 0 where
  pub full : IsFull pending
  pub rule : (tx : List ℕ) → IsPrefixFree (inner pending tx)
