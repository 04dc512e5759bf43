-- Live settings with pending ones laid over them.
use Rattle.std.specs.Prelude.{ℕ, List, Option, Some, None, fold}
use Rattle.std.specs.FinMap.{FinMap, insert, remove, entries, keys}
use Rattle.key_names.specs.Order.{key_cmp}
use Rattle.json_trees.specs.declared.scalar.Scalar.{Scalar}
use Rattle.json_trees.specs.declared.pending.Pending.{Pending}
use Rattle.json_trees.specs.declared.pending.Pending.TheVariants.{Put, Gone}
use Rattle.settings_maps.specs.KeyList.{without_keys}
use Rattle.settings_tree.specs.Content.{Contents}

-- The values with a pending value laid over them, or a removed key taken from them.
abbrev pub with_pending : FinMap key_cmp Scalar → List (List ℕ) → Pending → FinMap key_cmp Scalar
with_pending values k (Put v) = insert values k v
with_pending values k Gone = remove values k

-- The live settings once these values and removals are laid over them: each value is put there and each removed key taken away, and all their keys are strong.
abbrev pub laid_over : Contents → FinMap key_cmp Pending → Contents
laid_over live m = record live {
  values = fold (λ v e. with_pending v e.0 e.1) live.values (entries m);
  weak = without_keys live.weak (keys m);
}

-- The live settings, with what is laid over them if anything is.
abbrev pub shown : Contents → Option (FinMap key_cmp Pending) → Contents
shown live None = live
shown live (Some m) = laid_over live m
