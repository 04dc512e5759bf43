-- What commands print.
use Rattle.std.specs.Prelude.{◌≡◌, ◌++◌, ℕ, List, [], ◌∷◌}
use Rattle.json_trees.specs.Nested.{NestsAs}
use Rattle.json_trees.specs.Scalar.{scalar_data}
use Rattle.settings_tree.specs.Below.{Values, values_below}
use Rattle.settings_tree.specs.Content.{settings_key}
use Rattle.settings_machine.specs.World.{World}
use Rattle.settings_machine.specs.Requests.{JobIs, job_status}
use Rattle.machine_answers.specs.Bodies.{IsTextOf}

-- The line is the tree of the values at the keys and below them, and a line feed.
pub record IsTreeLine (values : Values) (keys : List (List (List ℕ))) (line : List ℕ) : Type 0 where
  pub text : List ℕ
  pub tree : NestsAs scalar_data 0 (values_below values keys) text
  pub line_is : line ≡ text ++ 10 ∷ []

-- The line is the tree of the world's live settings, and a line feed.
abbrev pub IsSettingsLine : World → List ℕ → Type 0
IsSettingsLine W line = IsTreeLine W.held.live.values (settings_key ∷ []) line

-- The line is what a client learns of the world's job and of what is owed, and a line feed.
pub record IsJobLine (W : World) (line : List ℕ) : Type 0 where
  pub text : List ℕ
  pub job : IsTextOf (JobIs (job_status W.job) W.held.owed) text
  pub line_is : line ≡ text ++ 10 ∷ []
