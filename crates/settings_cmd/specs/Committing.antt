-- Pairs that a command makes of an open store, and commits.
use Rattle.std.specs.Prelude.{◌≡◌, ℕ, List, Option, Result, Ok, Err}
use Rattle.outside.specs.History.{History}
use Rattle.outside.specs.Told.{Moves}
use Rattle.json_trees.specs.declared.scalar.Scalar.{Scalar}
use Rattle.store_open.specs.declared.opened.Opened.{Opened}
use Rattle.command_outcome.specs.Ends.{Outcome}
use Rattle.command_outcome.specs.declared.refusal.Refusal.{Refusal}
use Rattle.core_commands.specs.Committing.{Commits}

-- Pairs of a key and its value, or why there are none.
abbrev pub Made : Type 0
Made = Result (List (List (List ℕ) × Scalar)) Refusal

-- The pairs are committed to the store by this transaction. Why there are none is reported as it is, and then the disk is as before.
abbrev pub CommitsMade : List ℕ → Opened → Made → Outcome → Option History → Option History → Type 0
CommitsMade tx store (Ok pairs) outcome d d' = Moves d d' (Commits tx pairs store outcome)
CommitsMade tx store (Err refusal) outcome d d' = (outcome ≡ Err refusal) × (d' ≡ d)
