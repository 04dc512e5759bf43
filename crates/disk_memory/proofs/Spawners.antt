-- What child programs in memory keep.
use Rattle.std.proofs.Common.{◌≡◌, ℕ, List, [], ◌∷◌, ◌++◌, map, ◌∙◌, ap}
use Rattle.std.proofs.lemmas.List.{map-append}
use Rattle.outside.specs.Spawner as outside
use Rattle.outside.specs.declared.spawner.Answer.{Answer}
use Rattle.disk_memory.specs.Asked.{run_of, question_of, answer_in}
use Rattle.disk_memory.specs.declared.spawner.Run.{Run}
use Rattle.disk_memory.specs.declared.spawner.Question.{Question}

-- a run is added
pub kept_run : (old new : List Run) (run : Run) (words : List (List ℕ)) → outside.texts run.words.items ≡ words → new ≡ old ++ run ∷ []
    → map run_of new ≡ map run_of old ++ record { words = words; status = run.status } ∷ []
kept_run old new run words same is =
    ap (map run_of) is ∙ map-append run_of old (run ∷ [])
    ∙ ap (λ (ws : List (List ℕ)). map run_of old ++ record { words = ws; status = run.status } ∷ []) same

-- a question is added
pub kept_question : (old new : List Question) (q : Question) (words : List (List ℕ)) (input : List ℕ) (answer : Answer) → outside.texts q.words.items ≡ words
    → q.input.items ≡ input → answer_in q.answer ≡ answer_in answer → new ≡ old ++ q ∷ []
    → map question_of new ≡ map question_of old ++ record { words = words; input = input; status = answer.status; output = answer.output.items } ∷ []
kept_question old new q words input answer same_words same_input same_answer is =
    ap (map question_of) is ∙ map-append question_of old (q ∷ [])
    ∙ (λ i. map question_of old ++ record { words = same_words i; input = same_input i; status = (same_answer i).0; output = (same_answer i).1 } ∷ [])
