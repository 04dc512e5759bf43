-- What `get` answers.
use Rattle.std.specs.Prelude.{◌≡◌, ℕ, List, [], ◌∷◌, All, Result, Ok, Err, ⊤}
use Rattle.settings_tree.specs.Content.{settings_key}
use Rattle.settings_machine.specs.declared.refusal.Refusal.TheVariants as machine
use Rattle.settings_tree.specs.Below.{Values, HasBelow, IsFirstWithout}
use Rattle.store_open.specs.declared.open_error.OpenError.{OpenError}
use Rattle.store_open.specs.declared.opened.Opened.{Opened}
use Rattle.command_outcome.specs.Ends.{Outcome}
use Rattle.command_outcome.specs.declared.refusal.Refusal.TheVariants as refused
use Rattle.core_commands.specs.Handing.{not_opened}
use Rattle.core_commands.specs.Lines.{IsTreeLine}

-- The keys that are asked for: `settings` where none is given.
abbrev pub asked : List (List (List ℕ)) → List (List (List ℕ))
asked [] = settings_key ∷ []
asked (key ∷ keys) = key ∷ keys

-- The tree of what is asked for, or the first key that was given and has no value.
abbrev pub Answers : Values → List (List (List ℕ)) → Outcome → Type 0
Answers values given (Ok line) = All (HasBelow values) given × IsTreeLine values (asked given) line
Answers values given (Err (refused.Refused (machine.NoKey key))) = IsFirstWithout values given key
Answers values given (Err refused.Memory) = ⊤
Answers values given (Err _) = ⊥

-- What is answered of an open store, or why it was not opened.
abbrev pub AnswersOpening : List (List (List ℕ)) → Result Opened OpenError → Outcome → Type 0
AnswersOpening given (Ok store) outcome = Answers store.held.live.values given outcome
AnswersOpening given (Err e) outcome = outcome ≡ Err (not_opened e)
