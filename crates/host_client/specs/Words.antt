-- The words METHOD, TARGET and BODY.
use Rattle.std.specs.Prelude.{◌≡◌, ℕ, true, List, [], ◌∷◌, Option, Some, None}
use Rattle.host_client.specs.Question.{is_question}

-- The words METHOD, TARGET and, where it is given, BODY.
abbrev pub words_of : List ℕ → List ℕ → Option (List ℕ) → List (List ℕ)
words_of method target None = method ∷ target ∷ []
words_of method target (Some body) = method ∷ target ∷ body ∷ []

-- The words are those of a question that can be asked.
pub record AsksFor (words : List (List ℕ)) (method target : List ℕ) (body : Option (List ℕ)) : Type 0 where
  pub spelled : words ≡ words_of method target body
  pub sound : is_question method target body ≡ true
