-- Paths as texts.
use Rattle.std.specs.Prelude.{ℕ, List, [], ◌∷◌, ◌++◌, length, ◌==◌, nat_lt, if◌then◌else◌, Result, Ok, Err, IfOk, IfErr, ◌≡◌, ◌≢◌}
use Rattle.std.specs.List.{slice_split, flat_map}
use Rattle.outside.specs.declared.path_error.PathError.{PathError}
use Rattle.outside.specs.declared.path_error.PathError.TheVariants.{BadName, TooDeep, Memory}
use Rattle.outside.specs.Names.{Names, is_name}

-- A slash and the name, for each name.
abbrev pub behind_slashes : Names → List ℕ
behind_slashes names = flat_map (λ name. 47 ∷ name) names

-- The names joined by slashes.
abbrev pub joined : Names → List ℕ
joined [] = []
joined (name ∷ names) = name ++ behind_slashes names

-- The text without a slash at its front.
abbrev pub without_slash : List ℕ → List ℕ
without_slash [] = []
without_slash (b ∷ bs) = if b == 47 then bs else b ∷ bs

-- The parts between slashes, or none where nothing is left.
abbrev pub parts_in : List ℕ → Names
parts_in [] = []
parts_in (b ∷ bs) = slice_split (λ c. c == 47) (b ∷ bs)

-- The path with one name more, or why there is none.
abbrev pub added : Names → List ℕ → Result Names PathError
added path name = if is_name name then (if nat_lt (length path) 40 then Ok (path ++ name ∷ []) else Err TooDeep) else Err BadName

-- More is done with the path, if there is one.
abbrev pub and_then : Result Names PathError → (Names → Result Names PathError) → Result Names PathError
and_then (Ok path) more = more path
and_then (Err e) more = Err e

-- The path with the parts added one by one, up to the first that can't be.
abbrev pub with_parts : Names → Names → Result Names PathError
with_parts path [] = Ok path
with_parts path (name ∷ names) = and_then (added path name) (λ longer. with_parts longer names)

-- What a text of names joined by slashes is.
abbrev pub path_of : List ℕ → Result Names PathError
path_of text = with_parts [] (parts_in (without_slash text))

-- The result is this answer, unless it ran out of memory.
pub record Answers (result answer : Result Names PathError) : Type 0 where
  pub ok : IfOk result (λ path. answer ≡ Ok path)
  pub err : IfErr result (λ e. e ≢ Memory → answer ≡ Err e)
