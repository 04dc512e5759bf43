-- What `dump`, `restore` and `forget` come to: what a store holds is printed, begun anew, and taken away key by key.
use Rattle.std.specs.Prelude.{◌≡◌, ◌≢◌, ◌⊎◌, ◌++◌, ℕ, List, [], ◌∷◌, Option, Some, Result, Ok, Err, codes, ⊤}
use Rattle.outside.specs.History.{History, tree_of}
use Rattle.outside.specs.Names.{Names}
use Rattle.outside.specs.Told.{Moves, WhereTold}
use Rattle.outside.specs.Tree.{node_at, file_in}
use Rattle.serde_json.specs.Written.{compact_text}
use Rattle.settings_tree.specs.declared.entry.Owed.TheVariants as owed
use Rattle.held_text.specs.Dump.{dump_text, SpellsDump, IsNoDump}
use Rattle.held_text.specs.HeldText.{keys_data}
use Rattle.held_text.specs.declared.dump.Dump.{Dump}
use Rattle.held_text.specs.declared.dump_error.DumpError.{DumpError}
use Rattle.held_text.specs.declared.dump_error.DumpError.TheVariants as fault
use Rattle.pending_tx.specs.Transactions.{rising}
use Rattle.settings_machine.specs.declared.refusal.Refusal.TheVariants as machine
use Rattle.store_open.specs.Beginning.{Begins}
use Rattle.store_open.specs.Forgetting.{Forgets}
use Rattle.store_open.specs.Reading.{Reads}
use Rattle.store_open.specs.declared.begin_error.InitError.{InitError}
use Rattle.store_open.specs.declared.forget_error.ForgetError.{ForgetError}
use Rattle.store_open.specs.declared.forget_error.ForgetError.TheVariants as forgetting
use Rattle.store_open.specs.declared.open_error.OpenError.{OpenError}
use Rattle.store_open.specs.declared.stored.Stored.{Stored}
use Rattle.command_outcome.specs.Ends.{Outcome}
use Rattle.command_outcome.specs.declared.refusal.Refusal.{Refusal}
use Rattle.command_outcome.specs.declared.refusal.Refusal.TheVariants as refused
use Rattle.core_commands.specs.Handing.{not_opened}
use Rattle.settings_cmd.specs.Carried.{AnswersBeginning}
use Rattle.settings_cmd.specs.UserData.{IsNoFile}

-- ---- dump

-- The dump of what was read and a line feed, unless it ran out of memory, or why nothing was read.
abbrev pub AnswersDump : Result Stored OpenError → Outcome → Type 0
AnswersDump (Ok stored) outcome = (outcome ≡ Ok (dump_text stored.place.version stored.held ++ 10 ∷ [])) ⊎ (outcome ≡ Err refused.Memory)
AnswersDump (Err e) outcome = outcome ≡ Err (not_opened e)

-- The store is read, and what it holds is printed.
pub record IsDumped (outcome : Outcome) (d d' : Option History) : Type 0 where
  pub result : Result Stored OpenError
  pub reads : Moves d d' (Reads result)
  pub answers : AnswersDump result outcome

-- ---- restore

-- The word for a fault of a dump.
abbrev pub dump_word : DumpError → List ℕ
dump_word fault.NotJson = codes "not-json"
dump_word fault.BadHeld = codes "bad-held"
dump_word fault.BadVersion = codes "bad-version"
dump_word fault.Memory = []

-- A file is there, and its text spells this dump.
pub record GivesDump (found : Option (List ℕ)) (dump : Dump) : Type 0 where
  pub text : List ℕ
  pub there : found ≡ Some text
  pub spelled : SpellsDump text dump.version dump.held

-- A file is there, and its text is no dump, for this reason. It has no place.
pub record HasDumpFault (found : Option (List ℕ)) (word at : List ℕ) : Type 0 where
  pub text : List ℕ
  pub there : found ≡ Some text
  pub error : DumpError
  pub known : error ≢ fault.Memory
  pub is_none : IsNoDump error text
  pub word_is : word ≡ dump_word error
  pub at_is : at ≡ codes "-"

-- A dump, or why there is none.
abbrev pub MadeDump : Type 0
MadeDump = Result Dump Refusal

-- The dump of what was found, or why there is none: no file is there, or it has a fault; or the disk or memory failed.
abbrev pub TellsOfDump : Option (List ℕ) → MadeDump → Type 0
TellsOfDump found (Ok dump) = GivesDump found dump
TellsOfDump found (Err (refused.Dump word at)) = IsNoFile found word at ⊎ HasDumpFault found word at
TellsOfDump found (Err refused.Disk) = ⊤
TellsOfDump found (Err refused.Memory) = ⊤
TellsOfDump found (Err _) = ⊥

-- Why there is none.
abbrev pub IsOfDump : Refusal → Type 0
IsOfDump (refused.Dump word at) = ⊤
IsOfDump refused.Disk = ⊤
IsOfDump refused.Memory = ⊤
IsOfDump _ = ⊥

-- A store of the dump's version is begun that holds what the dump holds, and owes all.
pub record BeginsBy (dump : Dump) (outcome : Outcome) (d d' : Option History) : Type 0 where
  pub result : Result (Unit {0}) InitError
  pub begins : Moves d d' (Begins dump.version (record dump.held { owed = owed.All }) result)
  pub answers : AnswersBeginning dump.version result outcome

-- It is, where there is a dump. Why there is none is reported as it is, and then the disk is as before.
abbrev pub RestoresMade : MadeDump → Outcome → Option History → Option History → Type 0
RestoresMade (Ok dump) outcome d d' = BeginsBy dump outcome d d'
RestoresMade (Err refusal) outcome d d' = (outcome ≡ Err refusal) × (d' ≡ d)

-- The file at the path is read, and a store is begun by its dump.
pub record IsRestored (path : Names) (outcome : Outcome) (d d' : Option History) : Type 0 where
  pub made : MadeDump
  pub tells : WhereTold d (λ h. TellsOfDump (file_in (node_at (tree_of h) path)) made)
  pub follows : RestoresMade made outcome d d'

-- ---- forget

-- Why no keys were forgotten, as it is: a key without a value is reported as to a client.
abbrev pub not_forgotten : ForgetError → Refusal
not_forgotten (forgetting.Store e) = not_opened e
not_forgotten (forgetting.NotHeld key) = refused.Refused (machine.NoKey key)

-- The keys, each once and rising, as compact JSON, and a line feed; or why they were not forgotten.
abbrev pub AnswersForgetting : List (List (List ℕ)) → Result (Unit {0}) ForgetError → Outcome → Type 0
AnswersForgetting keys (Ok done) outcome = outcome ≡ Ok (compact_text (keys_data (rising keys)) ++ 10 ∷ [])
AnswersForgetting keys (Err e) outcome = outcome ≡ Err (not_forgotten e)

-- The store is read, and its keys are forgotten.
pub record IsForgotten (keys : List (List (List ℕ))) (outcome : Outcome) (d d' : Option History) : Type 0 where
  pub result : Result (Unit {0}) ForgetError
  pub forgets : Moves d d' (Forgets keys result)
  pub answers : AnswersForgetting keys result outcome

-- ---- for private clauses

-- Out of memory is reported as that, and any other fault under its word, without a place.
abbrev pub TellsOfDumpFault : DumpError → Refusal → Type 0
TellsOfDumpFault error refusal = (refusal ≡ refused.Memory) ⊎ ((error ≢ fault.Memory) × (refusal ≡ refused.Dump (dump_word error) (codes "-")))
