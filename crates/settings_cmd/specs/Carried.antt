-- What carrying out a command comes to, and what it does to the disk.
use Rattle.std.specs.Prelude.{◌≡◌, ◌⊎◌, ℕ, Bool, true, false, List, [], ◌∷◌, ◌++◌, Option, Result, Ok, Err, IfOk, IfErr}
use Rattle.outside.specs.History.{History, tree_of}
use Rattle.outside.specs.Names.{Names}
use Rattle.outside.specs.Told.{Moves, WhereTold}
use Rattle.outside.specs.Tree.{node_at, file_in}
use Rattle.outside.specs.Spawner.{Question}
use Rattle.store_image.specs.Paths.{sources_in}
use Rattle.settings_machine.specs.Events.{new_held}
use Rattle.version_links.specs.Versions.{version_text}
use Rattle.version_links.specs.declared.version.Version.{Version}
use Rattle.store_open.specs.Beginning.{Begins}
use Rattle.store_open.specs.Opening.{Opens}
use Rattle.store_open.specs.declared.begin_error.InitError.{InitError}
use Rattle.store_open.specs.declared.open_error.OpenError.{OpenError}
use Rattle.store_open.specs.declared.opened.Opened.{Opened}
use Rattle.release_file.specs.declared.release.Release.{Release}
use Rattle.migrate_chain.specs.declared.moving.Moved.{Moved}
use Rattle.migrate_chain.specs.declared.move_error.MoveError.{MoveError}
use Rattle.migrate_chain.specs.ByPrograms.{MovesByPrograms}
use Rattle.migrate_chain.specs.Pruning.{Prunes}
use Rattle.migrate_chain.specs.declared.prune_error.PruneError.{PruneError}
use Rattle.command_words.specs.Orders.{Spells, serve, set, apply, migrate, generate}
use Rattle.json_trees.specs.declared.scalar.Scalar.{Scalar}
use Rattle.command_outcome.specs.Ends.{Outcome}
use Rattle.command_outcome.specs.declared.refusal.Refusal.{Refusal}
use Rattle.command_outcome.specs.declared.refusal.Refusal.TheVariants as refused
use Rattle.core_commands.specs.Handing.{not_opened}
use Rattle.load_input.specs.Loads.{Loads}
use Rattle.settings_cmd.specs.Checks.{TellsOfImage}
use Rattle.settings_cmd.specs.Committing.{Made, CommitsMade}
use Rattle.settings_cmd.specs.Generators.{generate_tx, IsGenerated}
use Rattle.settings_cmd.specs.Gets.{AnswersOpening}
use Rattle.settings_cmd.specs.Handing.{HandsBeginning, HandsMoving}
use Rattle.settings_cmd.specs.Prunes.{AnswersPruning}
use Rattle.settings_cmd.specs.Releases.{IsReleaseIn, TellsOfRelease}
use Rattle.settings_cmd.specs.StoreChecks.{IsStoreChecked}
use Rattle.settings_cmd.specs.UserData.{data_tx, TellsOfData}

-- What a command comes to, with the disk before and after, where the disk tells.
abbrev pub Carrying : Type 1
Carrying = Outcome → Option History → Option History → Type 0

-- The command was carried out, or it ran out of memory before it began.
abbrev pub Carried : Carrying → Carrying
Carried Does outcome d d' = Does outcome d d' ⊎ ((outcome ≡ Err refused.Memory) × (d' ≡ d))

-- The words are refused, and the disk is as before.
abbrev pub IsMisused : Carrying
IsMisused outcome d d' = (outcome ≡ Err refused.Usage) × (d' ≡ d)

-- The run is made over devices of its own: it comes to its lines, or it ran out of memory. The disk is as before.
pub record IsLoaded (count : ℕ) (outcome : Outcome) (d d' : Option History) : Type 0 where
  pub lines : IfOk outcome (Loads count)
  pub memory : IfErr outcome (λ refusal. refusal ≡ refused.Memory)
  pub same : d' ≡ d

-- The words order no `serve`.
abbrev pub ServesNot : List (List ℕ) → Type 0
ServesNot words = (boot : Bool) (slice : Option ℕ) (while_idle : Bool) (connections : Option ℕ) (quiet : Bool)
    → Spells words (serve boot slice while_idle connections quiet) → ⊥

-- The words order nothing that runs programs.
pub record RunsNothing (words : List (List ℕ)) : Type 0 where
  pub serves_not : ServesNot words
  pub sets_not : (pairs : List (List (List ℕ) × Scalar)) → Spells words (set pairs) → ⊥
  pub applies_not : (all : Bool) → Spells words (apply all) → ⊥

-- The words order nothing that asks programs.
pub record AsksNothing (words : List (List ℕ)) : Type 0 where
  pub migrates_not : (version : Version) → Spells words (migrate version) → ⊥
  pub generates_not : Spells words generate → ⊥

-- The version and a line feed where the store was begun, or why it was not.
abbrev pub AnswersBeginning : Version → Result (Unit {0}) InitError → Outcome → Type 0
AnswersBeginning version (Ok begun) outcome = outcome ≡ Ok (version_text version ++ 10 ∷ [])
AnswersBeginning version (Err e) outcome = HandsBeginning e outcome

-- A store of this version is begun.
pub record IsBegun (version : Version) (outcome : Outcome) (d d' : Option History) : Type 0 where
  pub result : Result (Unit {0}) InitError
  pub begins : Moves d d' (Begins version new_held result)
  pub answers : AnswersBeginning version result outcome

-- The store is opened, and the values at the keys and below them are reported.
pub record IsGot (keys : List (List (List ℕ))) (outcome : Outcome) (d d' : Option History) : Type 0 where
  pub result : Result Opened OpenError
  pub opens : Moves d d' (Opens false result)
  pub answers : AnswersOpening keys result outcome

-- The version and a line feed where the store was moved, or why it was not.
abbrev pub AnswersMoving : Version → Result Moved MoveError → Outcome → Type 0
AnswersMoving to (Ok moved) outcome = outcome ≡ Ok (version_text to ++ 10 ∷ [])
AnswersMoving to (Err e) outcome = HandsMoving e outcome

-- There is no release, or the disk failed, or it ran out of memory before; the disk is as before, and nothing was asked.
pub record HasNoRelease (a a' : Option (List Question)) (outcome : Outcome) (d d' : Option History) : Type 0 where
  pub refusal : Refusal
  pub answers : outcome ≡ Err refusal
  pub tells : WhereTold d (λ h. TellsOfRelease (sources_in (tree_of h)) refusal)
  pub same : d' ≡ d
  pub unasked : a' ≡ a

-- The store is moved to the version along the transitions of the release, and the programs on the way are asked.
pub record IsMoved (to : Version) (a a' : Option (List Question)) (outcome : Outcome) (d d' : Option History) : Type 0 where
  pub release : Release
  pub read : WhereTold d (λ h. IsReleaseIn (sources_in (tree_of h)) release)
  pub result : Result Moved MoveError
  pub moves : MovesByPrograms to release result d d' a a'
  pub answers : AnswersMoving to result outcome

-- The store is moved to the version, or there is no release to move it by; this is what was asked before and after.
abbrev pub IsMigrated : Version → Option (List Question) → Option (List Question) → Carrying
IsMigrated to a a' outcome d d' = HasNoRelease a a' outcome d d' ⊎ IsMoved to a a' outcome d d'

-- The data directories to which the links don't lead are emptied.
pub record IsPruned (outcome : Outcome) (d d' : Option History) : Type 0 where
  pub result : Result ℕ PruneError
  pub prunes : Moves d d' (Prunes result)
  pub answers : AnswersPruning result outcome

-- The image is reported on, and the disk is as before.
abbrev pub IsChecked : Carrying
IsChecked outcome d d' = WhereTold d (λ h. TellsOfImage (sources_in (tree_of h)) outcome) × (d' ≡ d)

-- It is, or the image and the store are.
abbrev pub IsCheckedWith : Bool → Carrying
IsCheckedWith false = IsChecked
IsCheckedWith true = IsStoreChecked

-- ---- commands that make pairs of an open store

-- The generators whose key has no live value in the store are asked, and the pairs that they give are committed.
pub record Generates (a a' : Option (List Question)) (store : Opened) (outcome : Outcome) (d d' : Option History) : Type 0 where
  pub made : Made
  pub gives : IsGenerated a a' store made d
  pub ends : CommitsMade generate_tx store made outcome d d'

-- They are, where the store was opened. Why it was not is reported as it is, and then nothing was asked.
abbrev pub GeneratesAfter : Option (List Question) → Option (List Question) → Result Opened OpenError → Carrying
GeneratesAfter a a' (Ok store) outcome d d' = Generates a a' store outcome d d'
GeneratesAfter a a' (Err e) outcome d d' = (outcome ≡ Err (not_opened e)) × (d' ≡ d) × (a' ≡ a)

-- The store is opened, generators are asked, and the pairs that they give are committed.
pub record HasGenerated (a a' : Option (List Question)) (outcome : Outcome) (d d' : Option History) : Type 0 where
  pub opening : Result Opened OpenError
  pub between : Option History
  pub opens : Moves d between (Opens false opening)
  pub follows : GeneratesAfter a a' opening outcome between d'

-- It ran out of memory before it began, and nothing was asked.
pub record HasNotBegun (a a' : Option (List Question)) (outcome : Outcome) (d d' : Option History) : Type 0 where
  pub answers : outcome ≡ Err refused.Memory
  pub same : d' ≡ d
  pub unasked : a' ≡ a

-- One of the two; this is what was asked before and after.
abbrev pub GeneratesOrNot : Option (List Question) → Option (List Question) → Carrying
GeneratesOrNot a a' outcome d d' = HasGenerated a a' outcome d d' ⊎ HasNotBegun a a' outcome d d'

-- The pairs of the user data at the path are committed to the store.
pub record Provides (path : Names) (store : Opened) (outcome : Outcome) (d d' : Option History) : Type 0 where
  pub made : Made
  pub gives : WhereTold d (λ h. TellsOfData (file_in (node_at (tree_of h) path)) made)
  pub ends : CommitsMade data_tx store made outcome d d'

-- They are, where the store was opened. Why it was not is reported as it is.
abbrev pub ProvidesAfter : Names → Result Opened OpenError → Carrying
ProvidesAfter path (Ok store) outcome d d' = Provides path store outcome d d'
ProvidesAfter path (Err e) outcome d d' = (outcome ≡ Err (not_opened e)) × (d' ≡ d)

-- The store is opened, and the pairs of the user data at the path are committed.
pub record IsProvided (path : Names) (outcome : Outcome) (d d' : Option History) : Type 0 where
  pub opening : Result Opened OpenError
  pub between : Option History
  pub opens : Moves d between (Opens false opening)
  pub follows : ProvidesAfter path opening outcome between d'
