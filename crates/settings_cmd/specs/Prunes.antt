-- What `prune` answers.
use Rattle.std.specs.Prelude.{◌≡◌, ◌⊎◌, ◌++◌, ℕ, List, Result, Ok, Err, codes, decimal}
use Rattle.migrate_chain.specs.declared.prune_error.PruneError.{PruneError}
use Rattle.command_outcome.specs.Ends.{Outcome}
use Rattle.command_outcome.specs.declared.refusal.Refusal.TheVariants as refused
use Rattle.settings_cmd.specs.Handing.{HandsPruning}

-- The line that tells how many files were removed.
abbrev pub pruned_line : ℕ → List ℕ
pruned_line count = codes "pruned " ++ decimal count ++ codes "\n"

-- The line, unless it ran out of memory, or why nothing was pruned.
abbrev pub AnswersPruning : Result ℕ PruneError → Outcome → Type 0
AnswersPruning (Ok count) outcome = (outcome ≡ Ok (pruned_line count)) ⊎ (outcome ≡ Err refused.Memory)
AnswersPruning (Err e) outcome = HandsPruning e outcome
