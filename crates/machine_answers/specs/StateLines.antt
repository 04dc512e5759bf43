-- The states of configuration files, in words and in lines.
use Rattle.std.specs.Prelude.{ℕ, List, [], ◌∷◌, ◌++◌, codes}
use Rattle.std.specs.List.{flat_map}
use Rattle.settings_machine.specs.declared.states.FileState.{FileState}
use Rattle.settings_machine.specs.declared.states.FileState.TheVariants.{Current, Owed, Refused, Differs, Absent}
use Rattle.settings_machine.specs.declared.states.VerifiedFile.{VerifiedFile}
use Rattle.machine_answers.specs.RenderWords.{render_word, render_path}

-- The word for a state.
abbrev pub state_word : FileState → List ℕ
state_word Current = codes "current"
state_word Owed = codes "owed"
state_word (Refused error) = codes "refused"
state_word Differs = codes "differs"
state_word Absent = codes "absent"

-- What follows the word: why the template refuses, and where in it, each after a space.
abbrev pub reason : FileState → List ℕ
reason (Refused error) = codes " " ++ render_word error ++ codes " " ++ render_path error
reason _ = []

-- The line of a file: its name, a space, the word for its state, and the reason.
abbrev pub state_line : VerifiedFile → List ℕ
state_line file = file.name ++ codes " " ++ state_word file.state ++ reason file.state ++ 10 ∷ []

-- The lines of the files.
abbrev pub states_text : List VerifiedFile → List ℕ
states_text files = flat_map state_line files
