-- For private clauses: texts that are read and written.
use Rattle.std.specs.Prelude.{ℕ, List, map, Option, Result, IfOk, MatchOption}
use Rattle.key_names.specs.Key.{printed}
use Rattle.json_trees.specs.declared.item.Item.{Item}
use Rattle.json_trees.specs.declared.item.Item.TheVariants as item

-- What is found is R, or nothing is; unless it ran out of memory.
pub record Finds {X E : Type 0} (R : X → Type 0) (result : Result (Option X) E) : Type 0 where
  pub found : IfOk result (λ o. MatchOption o ((x : X) → R x → ⊥) R)

-- The items of a list of keys are their printed texts.
abbrev pub key_items : List (List (List ℕ)) → List Item
key_items keys = map (λ key. item.Text (printed key)) keys
