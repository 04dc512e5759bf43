-- Programs that were run.
use Rattle.std.proofs.Common.{◌≡◌, ℕ, List, [], ◌∷◌, ◌++◌, ◌∙◌, ap}
use Rattle.std.specs.Prelude.{String}
use Rattle.std.specs.declared.alloc.Global.{Global}
use Rattle.outside.specs.Spawner.{Run, texts}
use Rattle.affected_apply.specs.Turning.{RunsWords}

run_of : List (List ℕ) → ℕ → Run
run_of words status = record { words = words; status = status }

-- The same words and the same status.
pub ran_words : (one other : List (List ℕ)) (n m : ℕ) → one ≡ other → n ≡ m → (old new : List Run) → RunsWords one n old new → RunsWords other m old new
unfolding run_of
ran_words one other n m words status old new ran =
    ran ∙ ap (λ (l : List (List ℕ)). old ++ run_of l n ∷ []) words ∙ ap (λ (s : ℕ). old ++ run_of other s ∷ []) status

-- The texts of the same strings.
pub words_are : (one other : List (String Global)) → one ≡ other → texts one ≡ texts other
words_are one other e = ap texts e
