-- The table of the migrations: what each does on the way forward, and what on the way back.
use Rattle.std.specs.Prelude.{ℕ, List, map, reverse}
use Rattle.json_trees.specs.declared.scalar.Scalar.{Scalar}
use Rattle.migrate_helpers.specs.declared.migration.Migration.{Migration}
use Rattle.migrate_helpers.specs.declared.migration.Migration.TheVariants.{AddSettings, AddPrefixes, RemoveSettings, ReplaceString, RenameSettings}
use Rattle.migrate_helpers.specs.declared.migration.Migration.TheVariants.{AddMetadata, RemoveMetadata, ReplaceMetadata, RemoveWeak, NoOp}

-- What a migration does on one of its ways.
pub data Step : Type 0 where
  -- Nothing changes.
  Stays : Step
  -- These keys are removed.
  Removes : List (List (List ℕ)) → Step
  -- All keys that begin with one of these prefixes are removed.
  RemovesBelow : List (List (List ℕ)) → Step
  -- At the key a text equal to the first becomes the second.
  Replaces : List (List ℕ) → List ℕ → List ℕ → Step
  -- For each pair in order, what is at its first key moves to its second.
  Renames : List (List (List ℕ) × List (List ℕ)) → Step
  -- The names at the key lose their metadata.
  RemovesNames : List (List ℕ) → List (List ℕ) → Step
  -- At the key and the name metadata equal to the first becomes the second.
  ReplacesName : List (List ℕ) → List ℕ → Scalar → Scalar → Step
  -- Every weak setting is removed.
  RemovesWeak : Step

-- A pair the other way round.
abbrev pub swapped : List (List ℕ) × List (List ℕ) → List (List ℕ) × List (List ℕ)
swapped pair = (pair.1, pair.0)

-- The pairs in reverse order, each the other way round.
abbrev pub swapped_back : List (List (List ℕ) × List (List ℕ)) → List (List (List ℕ) × List (List ℕ))
swapped_back pairs = reverse (map swapped pairs)

-- What a migration does on the way forward.
abbrev pub forward_step : Migration → Step
forward_step (AddSettings settings) = Stays
forward_step (AddPrefixes prefixes) = Stays
forward_step (RemoveSettings settings) = Removes settings.items
forward_step (ReplaceString setting old new) = Replaces setting old new
forward_step (RenameSettings pairs) = Renames pairs.items
forward_step (AddMetadata key names) = Stays
forward_step (RemoveMetadata key names) = RemovesNames key names.items
forward_step (ReplaceMetadata key name old new) = ReplacesName key name old new
forward_step RemoveWeak = RemovesWeak
forward_step NoOp = Stays

-- What a migration does on the way back.
abbrev pub backward_step : Migration → Step
backward_step (AddSettings settings) = Removes settings.items
backward_step (AddPrefixes prefixes) = RemovesBelow prefixes.items
backward_step (RemoveSettings settings) = Stays
backward_step (ReplaceString setting old new) = Replaces setting new old
backward_step (RenameSettings pairs) = Renames (swapped_back pairs.items)
backward_step (AddMetadata key names) = RemovesNames key names.items
backward_step (RemoveMetadata key names) = Stays
backward_step (ReplaceMetadata key name old new) = ReplacesName key name new old
backward_step RemoveWeak = Stays
backward_step NoOp = Stays
