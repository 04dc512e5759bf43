-- What a commit of pairs to an open store comes to, and what it makes of the machine's run.
use Rattle.std.specs.Prelude.{◌≡◌, ◌++◌, ◌⊎◌, ℕ, List, [], ◌∷◌, Ok, Err}
use Rattle.outside.specs.History.{History}
use Rattle.json_trees.specs.declared.scalar.Scalar.{Scalar}
use Rattle.serde_json.specs.Written.{compact_text}
use Rattle.held_text.specs.HeldText.{keys_data}
use Rattle.machine_answers.specs.Bodies.{IsTextOf}
use Rattle.settings_machine.specs.World.{Key, Image, World}
use Rattle.settings_machine.specs.Requests as machine
use Rattle.settings_machine.specs.Requests.{Request, DropTx, Patch, Commit, NoMemory, DiskFault, Said, KeyList}
use Rattle.settings_machine.specs.Step.{Answered, request_next}
use Rattle.settings_machine.specs.Events.{Event, after}
use Rattle.settings_machine.specs.Paid.{IsGood}
use Rattle.machine_disk.specs.Kept.{Folder, CoreState, Kept}
use Rattle.machine_disk.specs.Ran.{Ran}
use Rattle.store_open.specs.Laws.{HoldsImage}
use Rattle.store_open.specs.declared.opened.Opened.{Opened}
use Rattle.command_outcome.specs.Ends.{Outcome}
use Rattle.command_outcome.specs.declared.refusal.Refusal.TheVariants as refused
use Rattle.core_commands.specs.Asking.{asked_all, Succeeds, Stops}
use Rattle.core_commands.specs.Carried.{puts_of, core_over}

-- ---- the requests

-- The transaction is dropped, and patched with the pairs.
abbrev pub patch_requests : List ℕ → List (Key × Scalar) → List Request
patch_requests tx pairs = DropTx tx ∷ Patch tx (puts_of pairs) ∷ []

-- Then it is committed. Where there are no pairs, nothing is asked.
abbrev pub commit_requests : List ℕ → List (Key × Scalar) → List Request
commit_requests tx [] = []
commit_requests tx (pair ∷ pairs) = patch_requests tx (pair ∷ pairs) ++ Commit tx ∷ []

-- ---- what is reported of them

-- The machine replies these keys to the commit. Where there are no pairs, there are none.
abbrev pub RepliesKeys : Image → World → List ℕ → List (Key × Scalar) → List Key → Type 0
RepliesKeys I W tx [] keys = keys ≡ []
RepliesKeys I W tx (pair ∷ pairs) keys = (request_next I (after I W (asked_all (patch_requests tx (pair ∷ pairs)))) (Commit tx) Answered).reply ≡ Said
    (KeyList keys)

-- The line is the list of these keys, as compact JSON, and a line feed.
pub record IsKeysLine (I : Image) (W : World) (tx : List ℕ) (pairs : List (Key × Scalar)) (line : List ℕ) : Type 0 where
  pub keys : List Key
  pub replied : RepliesKeys I W tx pairs keys
  pub line_is : line ≡ compact_text (keys_data keys) ++ 10 ∷ []

-- ---- what it comes to

-- It ran out of memory: before the first request, or for one of them.
abbrev pub LacksRoom : Image → World → List Request → List Event → Type 0
LacksRoom I W qs events = (events ≡ []) ⊎ Stops I W qs NoMemory events

-- What it comes to, by its events, from W: all requests are answered with success, and the keys are reported; or why not.
abbrev pub ComesTo : Image → World → List ℕ → List (Key × Scalar) → Outcome → List Event → Type 0
ComesTo I W tx pairs (Ok line) events = Succeeds I W (commit_requests tx pairs) events × IsKeysLine I W tx pairs line
ComesTo I W tx pairs (Err (refused.Refused refusal)) events = Stops I W (commit_requests tx pairs) (machine.Refused refusal) events
ComesTo I W tx pairs (Err refused.Disk) events = Stops I W (commit_requests tx pairs) DiskFault events
ComesTo I W tx pairs (Err refused.Memory) events = LacksRoom I W (commit_requests tx pairs) events
ComesTo I W tx pairs (Err _) events = ⊥

-- From W, where the store is open, the pairs are committed, crash included, and it comes to this.
pub record IsCommitted (I : Image) (folder : Folder) (W V : World) (tx : List ℕ) (pairs : List (Key × Scalar)) (outcome : Outcome) (before : CoreState)
    (old new : History)
    : Type 0 where
  pub events : List Event
  pub comes : ComesTo I W tx pairs outcome events
  pub now : CoreState
  pub made : Ran I folder W V events old new before now

-- By each image that was read with the store, in each world at which the disk is with the store open.
pub record Commits (tx : List ℕ) (pairs : List (Key × Scalar)) (store : Opened) (outcome : Outcome) (old new : History) : Type 0 where
  pub each : (I : Image) → IsGood I → HoldsImage I store.image → (folder : Folder) (W V : World) → Kept I folder W V old (core_over store)
      → IsCommitted I folder W V tx pairs outcome (core_over store) old new

-- ---- for private clauses

-- The line is the text of the body that the machine replies, and a line feed.
abbrev pub IsBodyLine : machine.Reply → List ℕ → Type 0
IsBodyLine (Said body) line = (text : List ℕ) × IsTextOf body text × (line ≡ text ++ 10 ∷ [])
IsBodyLine _ line = Unit {0}
