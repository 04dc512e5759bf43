-- Which generators are asked, and what their answers give.
use Rattle.std.specs.Prelude.{◌≡◌, ◌⊎◌, ◌≤◌, ℕ, ◌==◌, nat_le, not, List, [], ◌∷◌, ◌++◌, length, filter, Option, Result, Ok, Err, ok_or, if◌then◌else◌}
use Rattle.std.specs.FinMap.{contains_key}
use Rattle.std.specs.Result.{result_ok}
use Rattle.json_trees.specs.Collected.{result_map}
use Rattle.json_trees.specs.Scalar.{scalar_read}
use Rattle.json_trees.specs.declared.scalar.Scalar.{Scalar}
use Rattle.outside.specs.Faults.{Rose}
use Rattle.outside.specs.Spawner.{Question}
use Rattle.outside.specs.Told.{Moves}
use Rattle.settings_tree.specs.Content.{Contents}
use Rattle.setting_generators.specs.Generators.{Path, Given}
use Rattle.setting_generators.specs.declared.generate_error.GenerateError.{GenerateError}
use Rattle.setting_generators.specs.declared.generate_error.GenerateError.TheVariants.{Failed, Status, BadOutput, Memory}

-- What is generated: pairs of a key and its value, or a refusal.
abbrev pub Generated : Type 0
Generated = Result (List (Path × Scalar)) GenerateError

-- The generators whose key has no live value, in their order.
abbrev pub wanted : Contents → List Given → List Given
wanted live generators = filter (λ g. not (contains_key live.values g.0)) generators

-- ---- one answer

-- The most bytes that an output may have.
abbrev pub most_output : ℕ
most_output = 1048576

-- What an output gives to a key: the scalar that it reads as, where it isn't too long.
abbrev pub output_value : Path → List ℕ → Result Scalar GenerateError
output_value key output = if nat_le (length output) most_output then ok_or (result_ok (scalar_read output)) (BadOutput key) else Err (BadOutput key)

-- What an answer gives to a key: where its status is 0, what its output gives.
abbrev pub answer_value : Path → ℕ → List ℕ → Result Scalar GenerateError
answer_value key status output = if status == 0 then output_value key output else Err (Status key status)

-- The question of a generator, without input, with its answer.
abbrev pub question : Given → ℕ → List ℕ → Question
question generator status output = record { words = generator.1; input = []; status = status; output = output }

-- The generator was asked and answered: that is the one question, and the value is what the answer gives, unless it ran out of memory.
pub record IsAnswered (generator : Given) (questions : List Question) (value : Result Scalar GenerateError) : Type 0 where
  pub status : ℕ
  pub output : List ℕ
  pub asked : questions ≡ question generator status output ∷ []
  pub value_is : (value ≡ answer_value generator.0 status output) ⊎ (value ≡ Err Memory)

-- The generator was not answered: its program failed, or it ran out of memory.
pub record IsUnanswered (generator : Given) (questions : List Question) (value : Result Scalar GenerateError) : Type 0 where
  pub asked : questions ≡ []
  pub value_is : (value ≡ Err (Failed generator.0)) ⊎ (value ≡ Err Memory)

-- One of the two.
abbrev pub IsAsked : Given → List Question → Result Scalar GenerateError → Type 0
IsAsked generator questions value = IsAnswered generator questions value ⊎ IsUnanswered generator questions value

-- ---- one after the other

-- What is generated with a pair before the others.
abbrev pub with_pair : Path → Scalar → Generated → Generated
with_pair key value generated = result_map (λ pairs. (key, value) ∷ pairs) generated

-- The first generator gives a value, and so on with those after it.
pub record GoesOn (Rest : List Question → Generated → Type 0) (generator : Given) (questions : List Question) (generated : Generated) : Type 0 where
  pub first : List Question
  pub value : Scalar
  pub answered : IsAsked generator first (Ok value)
  pub others : List Question
  pub rest : Generated
  pub goes_on : Rest others rest
  pub asked : questions ≡ first ++ others
  pub generated_is : generated ≡ with_pair generator.0 value rest

-- The first generator gives none, and no other is asked.
pub record Stops (generator : Given) (questions : List Question) (generated : Generated) : Type 0 where
  pub error : GenerateError
  pub refused : IsAsked generator questions (Err error)
  pub generated_is : generated ≡ Err error

-- The generators were asked one after the other up to the first refusal: these are the questions, and this is generated.
abbrev pub AreAsked : List Given → List Question → Generated → Type 0
AreAsked [] questions generated = (questions ≡ []) × (generated ≡ Ok [])
AreAsked (generator ∷ generators) questions generated = GoesOn (AreAsked generators) generator questions generated ⊎ Stops generator questions generated

-- So they were, and where the spawner tells what it was asked, it was asked these questions more.
pub record Asks (generators : List Given) (before after : Option (List Question)) (generated : Generated) : Type 0 where
  pub questions : List Question
  pub told : Moves before after (λ old new. new ≡ old ++ questions)
  pub outcome : AreAsked generators questions generated

-- The count of faults never falls; it rises where a program failed, and is kept else.
pub record FailsBy {T : Type 0} (before now : ℕ) (result : Result T GenerateError) : Type 0 where
  pub later : before ≤ now
  pub failed : (key : Path) → result ≡ Err (Failed key) → Rose before now
  pub kept : ((key : Path) → result ≡ Err (Failed key) → ⊥) → now ≡ before

-- ---- for private clauses

-- One generator was asked, and where the spawner tells what it was asked, it was asked that more.
pub record AsksOne (generator : Given) (before after : Option (List Question)) (value : Result Scalar GenerateError) : Type 0 where
  pub questions : List Question
  pub told : Moves before after (λ old new. new ≡ old ++ questions)
  pub is : IsAsked generator questions value

-- These generators were asked, and their pairs were appended, unless one was refused.
abbrev pub AppendsBy : List Given → List Question → List (Path × Scalar) → List (Path × Scalar) → Result Unit GenerateError → Type 0
AppendsBy generators questions old new (Ok done) = (found : List (Path × Scalar)) × AreAsked generators questions (Ok found) × (new ≡ old ++ found)
AppendsBy generators questions old new (Err e) = AreAsked generators questions (Err e)

-- So they were, and where the spawner tells what it was asked, it was asked that more.
pub record Appends (generators : List Given) (before after : Option (List Question)) (old new : List (Path × Scalar))
    (result : Result Unit GenerateError) : Type 0 where
  pub questions : List Question
  pub told : Moves before after (λ told more. more ≡ told ++ questions)
  pub is : AppendsBy generators questions old new result
