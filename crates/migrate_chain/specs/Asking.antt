-- What a program is asked, and what it may answer.
use Rattle.std.specs.Prelude.{◌≡◌, ◌≢◌, ◌≤◌, ◌⊎◌, ◌++◌, ◌∷◌, [], codes, ℕ, Bool, true, false, List, length, Result, Ok, Err, ⊤}
use Rattle.outside.specs.Spawner.{Question}
use Rattle.settings_tree.specs.declared.held.Held.{Held}
use Rattle.held_text.specs.HeldText.{held_text}
use Rattle.migrate_chain.specs.Tasks.{Task, Deed, mapping, program, Mapped}
use Rattle.migrate_chain.specs.declared.task_error.TaskError.{TaskError}
use Rattle.migrate_chain.specs.declared.task_error.TaskError.TheVariants.{Conflict, Status, BadAnswer, Failed, Memory}
use Rattle.migrate_chain.specs.Spelling.{SpellsHeld}

-- The last word that a program is given.
abbrev pub direction : Bool → List ℕ
direction false = codes "--forward"
direction true = codes "--backward"

-- The most bytes of an answer.
abbrev pub most : ℕ
most = 16777216

-- The question is the one of the program of these words, for this direction, about what is held.
pub record IsQuestion (words : List (List ℕ)) (back : Bool) (held : Held) (question : Question) : Type 0 where
  pub words_are : question.words ≡ words ++ direction back ∷ []
  pub input_is : question.input ≡ held_text held

-- The output spells what a store may hold after what was held: with the same keys owed, and the same image text.
pub record IsStateAfter (held : Held) (output : List ℕ) (made : Held) : Type 0 where
  pub short : length output ≤ most
  pub spelled : SpellsHeld output made
  pub owed_same : made.owed ≡ held.owed
  pub image_same : made.image ≡ held.image

-- What is made of a status and an output: what the output spells, or its refusal. Memory may always run out.
abbrev pub Takes : Held → ℕ → List ℕ → Result Held TaskError → Type 0
Takes held status output (Ok made) = (status ≡ 0) × IsStateAfter held output made
Takes held status output (Err (Status name number)) = (status ≢ 0) × (number ≡ status)
Takes held status output (Err (BadAnswer name)) = (status ≡ 0) × ((made : Held) → IsStateAfter held output made → ⊥)
Takes held status output (Err Memory) = ⊤
Takes held status output (Err (Conflict key)) = ⊥
Takes held status output (Err (Failed name)) = ⊥

-- An answer that comes without an asked program: it could not be asked, or it ran out of memory.
abbrev pub IsUnasked : Result Held TaskError → Type 0
IsUnasked (Ok made) = ⊥
IsUnasked (Err (Status name number)) = ⊥
IsUnasked (Err (BadAnswer name)) = ⊥
IsUnasked (Err Memory) = ⊤
IsUnasked (Err (Conflict key)) = ⊥
IsUnasked (Err (Failed name)) = ⊤

-- The program was asked this once, and the result is made of what it answered.
pub record IsAskedBy (words : List (List ℕ)) (back : Bool) (held : Held) (result : Result Held TaskError) (asked : List Question) : Type 0 where
  pub question : Question
  pub asked_are : asked ≡ question ∷ []
  pub asks : IsQuestion words back held question
  pub takes : Takes held question.status question.output result

-- What is asked for a migration that came to this: a mapping asks nothing, and a program is asked once, or not at all.
abbrev pub AsksBy : Deed → Bool → Held → Result Held TaskError → List Question → Type 0
AsksBy (mapping forward backward) back held result asked = asked ≡ []
AsksBy (program words) back held result asked = IsAskedBy words back held result asked ⊎ (IsUnasked result × (asked ≡ []))

-- What is asked for a task that came to this.
abbrev pub Asks : Task → Held → Result Held TaskError → List Question → Type 0
Asks task held result asked = AsksBy task.deed task.back held result asked

-- The task came to this, and what was asked for it came after what was asked before.
pub record HasAsked (task : Task) (held : Held) (result : Result Held TaskError) (old new : List Question) : Type 0 where
  pub asked : List Question
  pub new_is : new ≡ old ++ asked
  pub asks : Asks task held result asked

-- These were asked for these migrations, one after another: nothing for a mapping, and its one question for a program.
abbrev pub AreAsked : List Mapped → List Question → Type 0
AreAsked [] asked = asked ≡ []
AreAsked (m ∷ ms) asked = (first rest : List Question) × (asked ≡ first ++ rest) × Asks m.task m.input (Ok m.output) first × AreAsked ms rest

-- What was asked for the migrations that were carried out came after what was asked before.
pub record HasAskedFor (mapped : List Mapped) (old new : List Question) : Type 0 where
  pub asked : List Question
  pub new_is : new ≡ old ++ asked
  pub are : AreAsked mapped asked

-- The same, and after it what was asked for the one that met the error.
pub record HasAskedUpTo (mapped : List Mapped) (task : Task) (held : Held) (why : TaskError) (old new : List Question) : Type 0 where
  pub asked : List Question
  pub last : List Question
  pub new_is : new ≡ old ++ asked ++ last
  pub are : AreAsked mapped asked
  pub ends : Asks task held (Err why) last
