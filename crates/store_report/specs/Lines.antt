-- The lines of a report. The byte 10 is a line feed.
use Rattle.std.specs.Prelude.{ℕ, List, [], ◌∷◌, ◌++◌, Option, Some, None, codes}
use Rattle.key_names.specs.Key.{printed}
use Rattle.template_eval.specs.declared.render_error.RenderError.{RenderError}
use Rattle.machine_answers.specs.RenderWords.{render_word, render_path}
use Rattle.store_report.specs.declared.ill_typed.IllTyped.{IllTyped}

-- The name of the transaction and a space, where there is one. It has bare characters alone.
abbrev pub tx_word : Option (List ℕ) → List ℕ
tx_word None = []
tx_word (Some tx) = tx ++ codes " "

-- `ill typed`, the transaction of a pending value, its key as it is printed, and what is wanted there.
abbrev pub ill_typed_line : IllTyped → List ℕ
ill_typed_line ill = codes "ill typed " ++ tx_word ill.tx ++ printed ill.key ++ codes " " ++ ill.wanted ++ 10 ∷ []

-- `render`, the name of the file, why its template refuses, and where in it.
abbrev pub render_line : List ℕ × RenderError → List ℕ
render_line refused = codes "render " ++ refused.0 ++ codes " " ++ render_word refused.1 ++ codes " " ++ render_path refused.1 ++ 10 ∷ []
