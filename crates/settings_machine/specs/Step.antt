-- One request, one turn of the job and one opening, as functions of the world.
use Rattle.std.specs.Prelude.{ℕ, zero, suc, Bool, true, false, not, ◌&&◌, List, [], ◌∷◌, ◌++◌, Option, Some, None, Ok, Err, codes, map, if◌then◌else◌}
use Rattle.std.specs.FinMap.{FinMap, get, insert, remove, entries, keys}
use Rattle.key_names.specs.Order.{key_cmp}
use Rattle.key_names.specs.Key.{is_prefix}
use Rattle.json_trees.specs.declared.pending.Pending.{Pending}
use Rattle.outside.specs.Names.{Names}
use Rattle.settings_tree.specs.declared.entry.Owed.{Owed}
use Rattle.settings_tree.specs.declared.entry.Owed.TheVariants as owed
use Rattle.settings_tree.specs.declared.held.Held.{Held}
use Rattle.settings_maps.specs.KeyList.{has_key, joined}
use Rattle.pending_tx.specs.Transactions.{pending_of, keys_of, changed_keys, committed, dropped, patched, last_of, changed_in, set_at_once, removals, forgotten}
use Rattle.metadata_links.specs.Links.{files_of, commands_of}
use Rattle.template_eval.specs.Rendered.{Rendered}
use Rattle.template_eval.specs.declared.render_error.RenderError.{RenderError}
use Rattle.settings_machine.specs.declared.cause.Cause.{Cause}
use Rattle.settings_machine.specs.declared.cause.Cause.TheVariants as cause
use Rattle.settings_machine.specs.declared.refusal.Refusal.TheVariants.{BadType, NoPending, NotRendered}
use Rattle.settings_machine.specs.World.{Key, Image, World, Files, Work, Job, Idle, Failed, Running, owes_none, path_of, rendered}
use Rattle.settings_machine.specs.Typed.{Wanted, first_wanted}
use Rattle.settings_machine.specs.Opening.{added_keys, opened_held}
use Rattle.settings_machine.specs.Requests.{Request, Root, OsNames, Settings, SettingsAt, SettingsBelow, Patch, Services, ConfigurationFiles}
use Rattle.settings_machine.specs.Requests.{Affected, Pends, DropTx, TxList, Commit, Apply, CommitAndApply, JobNow}
use Rattle.settings_machine.specs.Requests.{Set, ApplyAll, Guarded, Plan, PlanFile, Store, StoreIs, Verify, StatesAre, is_success}
use Rattle.settings_machine.specs.Plans.{first_refusing, plan_reply, file_reply}
use Rattle.settings_machine.specs.Verified.{verified}
use Rattle.settings_machine.specs.Requests.{TreeOf, PendingTreeOf, TextsByName, ListsByKey, KeyList, NameList, JobIs, job_status}
use Rattle.settings_machine.specs.Requests.{Reply, Said, Empty, Refused, NoMemory, DiskFault, NotOpened}
use Rattle.settings_machine.specs.Answers.{said_unless, settings_of, settings_where, missing_key, below_names, nearest_lists}

-- ---- the free choices of the outside

-- What the outside let a request come to: it was answered, it ran out of memory, the store could not be opened again for
-- what is there, or a call of the disk failed and the request was taken or not.
pub data Outcome : Type 0 where
  Answered : Outcome
  WithoutMemory : Outcome
  Unopened : List ℕ → Outcome
  Faulted : Bool → Outcome

-- What the outside let a turn come to: it went well, and a program ended with this status; it ran out of memory; the write
-- of a file failed and left this at its path; a program could not be run; the sync before the end failed, or the write of
-- a file that changed nothing; or owed could not be stored, and was stored or not.
pub data Answer : Type 0 where
  Fine : ℕ → Answer
  NoRoom : Answer
  FileFault : Option (List ℕ) → Answer
  NoSpawn : Answer
  SyncFault : Answer
  OwedFault : Bool → Answer

-- ---- parts of the world

-- With this held.
abbrev pub with_held : World → Held → World
with_held W held = record W { held = held }

-- With this job.
abbrev pub with_job : World → Job → World
with_job W job = record W { job = job }

-- A running job notes keys whose values were changed.
abbrev pub noting : Job → List Key → Job
noting Idle keys = Idle
noting (Failed c) keys = Failed c
noting (Running w) keys = Running (record w { since = joined w.since keys })

-- A running job fails for this cause.
abbrev pub failing : Job → Cause → Job
failing Idle c = Idle
failing (Failed d) c = Failed d
failing (Running w) c = Failed c

-- ---- requests

-- The next world, and the reply.
pub record Next : Type 0 where
  pub world : World
  pub reply : Reply

-- Nothing changes.
abbrev pub stays : World → Reply → Next
stays W reply = record { world = W; reply = reply }

-- The pairs are pending in the transaction, unless one of them is refused.
abbrev pub patch_next : World → List ℕ → List (Key × Pending) → Option Wanted → Next
patch_next W tx pairs None = record { world = with_held W (patched W.held tx pairs); reply = Empty }
patch_next W tx pairs (Some wanted) = stays W (Refused (BadType wanted.0 wanted.1))

-- The transaction is dropped, and its keys are answered.
abbrev pub drop_next : World → List ℕ → Next
drop_next W tx = record { world = with_held W (dropped W.held tx); reply = Said (KeyList (keys_of W.held tx)) }

-- The world after a commit: a running job notes the keys whose live values are changed.
abbrev pub committed_world : World → List ℕ → World
committed_world W tx = record W { held = committed W.held tx; job = noting W.job (changed_keys W.held tx) }

-- A transaction that is there is committed, and its keys are answered.
abbrev pub commit_next : World → List ℕ → Option (FinMap key_cmp Pending) → Next
commit_next W tx None = stays W (Refused (NoPending tx))
commit_next W tx (Some pending) = record { world = committed_world W tx; reply = Said (KeyList (keys_of W.held tx)) }

-- A job of the owed keys.
abbrev pub begun : Image → Owed → Job
begun I o = Running (record { files = files_of I.manifest o; commands = commands_of I.manifest o; since = []; again = false })

-- A running job is asked for again, and else one begins.
abbrev pub asked_for : Image → Owed → Job → Job
asked_for I o Idle = begun I o
asked_for I o (Failed c) = begun I o
asked_for I o (Running w) = Running (record w { again = true })

-- The world after apply: where nothing is owed the job is idle.
abbrev pub applied : Image → World → World
applied I W = with_job W (if owes_none W.held.owed then Idle else asked_for I W.held.owed W.job)

-- A commit, and apply on its world.
abbrev pub commit_and_apply_next : Image → World → List ℕ → Option (FinMap key_cmp Pending) → Next
commit_and_apply_next I W tx None = stays W (Refused (NoPending tx))
commit_and_apply_next I W tx (Some pending) = record { world = applied I (committed_world W tx); reply = Said (KeyList (keys_of W.held tx)) }

-- The world after pairs are set at once: a running job notes the keys whose live values are changed.
abbrev pub set_world : World → List (Key × Pending) → World
set_world W pairs = record W { held = set_at_once W.held pairs; job = noting W.job (changed_in W.held (last_of pairs)) }

-- The pairs are set at once, unless one of them is refused, and apply on that world; their keys are answered.
abbrev pub set_next : Image → World → List (Key × Pending) → Option Wanted → Next
set_next I W pairs None = record { world = applied I (set_world W pairs); reply = Said (KeyList (keys (last_of pairs))) }
set_next I W pairs (Some wanted) = stays W (Refused (BadType wanted.0 wanted.1))

-- The world after keys are forgotten: a running job notes those that had a live value.
abbrev pub forgot_world : World → List Key → World
forgot_world W keys = record W { held = forgotten W.held keys; job = noting W.job (changed_in W.held (last_of (removals keys))) }

-- With all owed.
abbrev pub owing_all : World → World
owing_all W = with_held W (record W.held { owed = owed.All })

-- The keys whose live values a request changes.
abbrev pub changed_by : World → Request → List Key
changed_by W (Commit tx) = changed_keys W.held tx
changed_by W (CommitAndApply tx) = changed_keys W.held tx
changed_by W (Set pairs) = changed_in W.held (last_of pairs)
changed_by W _ = []

-- What was to come next, unless the template of a file refuses.
abbrev pub unless_refusing : World → Next → Option (List ℕ × RenderError) → Next
unless_refusing W n None = n
unless_refusing W n (Some refusal) = stays W (Refused (NotRendered refusal.0 refusal.1))

-- A change that would be made is refused where the template of a file of the keys that it changes refuses on what is then live.
abbrev pub guarded_next : Image → World → List Key → Next → Next
guarded_next I W changed n =
    if is_success n.reply then unless_refusing W n (first_refusing I n.world.held.live (files_of I.manifest (owed.Keys changed))) else n

-- The next world and the reply, where nothing fails.
abbrev pub answered : Image → World → Request → Next
answered I W Root = stays W (Said (TreeOf 0 (entries W.held.live.values)))
answered I W OsNames = stays W (Said (TextsByName (map (λ n. (n.name, n.text)) I.os)))
answered I W Settings = stays W (Said (TreeOf 1 (settings_of W.held.live.values)))
answered I W (SettingsAt list) = stays W (said_unless (missing_key W.held.live.values list) (TreeOf 1 (settings_where (has_key list) W.held.live.values)))
answered I W (SettingsBelow key) = stays W (Said (TreeOf 1 (settings_where (is_prefix key) W.held.live.values)))
answered I W (Patch tx pairs) = patch_next W tx pairs (first_wanted I.types pairs)
answered I W (Services names) = stays W (below_names W.held.live.values (codes "services") names)
answered I W (ConfigurationFiles names) = stays W (below_names W.held.live.values (codes "configuration-files") names)
answered I W (Affected list) = stays W (Said (ListsByKey (nearest_lists I list)))
answered I W (Pends tx) = stays W (Said (PendingTreeOf 1 (entries (pending_of W.held tx))))
answered I W (DropTx tx) = drop_next W tx
answered I W TxList = stays W (Said (NameList (keys W.held.pending)))
answered I W (Commit tx) = commit_next W tx (get W.held.pending tx)
answered I W Apply = record { world = applied I W; reply = Empty }
answered I W (CommitAndApply tx) = commit_and_apply_next I W tx (get W.held.pending tx)
answered I W JobNow = stays W (Said (JobIs (job_status W.job) W.held.owed))
answered I W (Set pairs) = set_next I W pairs (first_wanted I.types pairs)
answered I W ApplyAll = record { world = applied I (owing_all W); reply = Empty }
answered I W (Guarded q) = guarded_next I W (changed_by W q) (answered I W q)
answered I W (Plan tx) = stays W (plan_reply I W.held tx)
answered I W (PlanFile file tx) = stays W (file_reply I W.held file tx)
answered I W Store = stays W (Said (StoreIs W.version W.held))
answered I W Verify = stays W (Said (StatesAre (verified I W)))

-- The next world and the reply, with what the outside let the request come to. At a fault what is held is wholly that of
-- the next world or wholly the old, no job begins, and a running one fails.
unfoldable pub request_next : Image → World → Request → Outcome → Next
request_next I W q Answered = answered I W q
request_next I W q WithoutMemory = stays W NoMemory
request_next I W q (Unopened at) = stays W (NotOpened at)
request_next I W q (Faulted taken) = record {
  world = record W {
    held = if taken then (answered I W q).world.held else W.held;
    job = failing W.job cause.Disk;
  };
  reply = DiskFault;
}

-- ---- turns

-- A path has these bytes, or no file.
abbrev pub with_file : Files → Names → Option (List ℕ) → Files
with_file etc path None = remove etc path
with_file etc path (Some bytes) = insert etc path bytes

-- The file is written and done, or its template refuses.
abbrev pub wrote : Image → World → List ℕ → List (List ℕ) → Work → Rendered → World
wrote I W f fs w (Ok bytes) = record W { job = Running (record w { files = fs }); etc = insert W.etc (path_of I f) bytes }
wrote I W f fs w (Err e) = with_job W (Failed (cause.Render f e))

-- A file is left.
abbrev pub file_turn : Image → World → List ℕ → List (List ℕ) → Work → Answer → World
file_turn I W f fs w (Fine status) = wrote I W f fs w (rendered I f W.held.live)
file_turn I W f fs w (FileFault left) = record W { job = Failed cause.Disk; etc = with_file W.etc (path_of I f) left }
file_turn I W f fs w NoRoom = with_job W (Failed cause.Memory)
file_turn I W f fs w _ = with_job W (Failed cause.Disk)

-- A command, as a manifest has it: its service, its place there, and its words.
abbrev pub Command : Type 0
Command = List ℕ × (ℕ × List (List ℕ))

-- The command is done where its status is 0, and else the job fails.
abbrev pub ended : Command → List Command → Work → ℕ → Job
ended c cs w zero = Running (record w { commands = cs })
ended c cs w (suc n) = Failed (cause.Status c.0 (suc n))

-- The program ran, and ended with this status.
abbrev pub ran : World → Command → List Command → Work → ℕ → World
ran W c cs w status = record W { job = ended c cs w status; runs = W.runs ++ record { words = c.1.1; status = status } ∷ [] }

-- No file is left, but a command is.
abbrev pub command_turn : World → Command → List Command → Work → Answer → World
command_turn W c cs w (Fine status) = ran W c cs w status
command_turn W c cs w NoSpawn = with_job W (Failed (cause.Spawn c.0))
command_turn W c cs w NoRoom = with_job W (Failed cause.Memory)
command_turn W c cs w _ = with_job W (Failed cause.Disk)

-- The job is idle, or begins again where it was asked for again and keys were noted.
abbrev pub resting : Image → Work → Job
resting I w = if w.again && not (owes_none (owed.Keys w.since)) then begun I (owed.Keys w.since) else Idle

-- Nothing is left: the noted keys are what is owed from then on.
abbrev pub last_turn : Image → World → Work → Answer → World
last_turn I W w (Fine status) = record W { held = record W.held { owed = owed.Keys w.since }; job = resting I w }
last_turn I W w (OwedFault stored) = record W { held = record W.held { owed = if stored then owed.Keys w.since else W.held.owed }; job = Failed cause.Disk }
last_turn I W w NoRoom = with_job W (Failed cause.Memory)
last_turn I W w _ = with_job W (Failed cause.Disk)

-- One turn of a job with these commands to do, where no file is left.
abbrev pub after_files_turn : Image → World → List Command → Work → Answer → World
after_files_turn I W [] w a = last_turn I W w a
after_files_turn I W (c ∷ cs) w a = command_turn W c cs w a

-- One turn of a job with these files to do.
abbrev pub work_turn : Image → World → List (List ℕ) → Work → Answer → World
work_turn I W [] w a = after_files_turn I W w.commands w a
work_turn I W (f ∷ fs) w a = file_turn I W f fs w a

-- One turn of a job; one that doesn't run makes none.
abbrev pub job_turn : Image → World → Job → Answer → World
job_turn I W Idle a = W
job_turn I W (Failed c) a = W
job_turn I W (Running w) a = work_turn I W w.files w a

-- The world after one turn of the job.
unfoldable pub turn_next : Image → World → Answer → World
turn_next I W a = job_turn I W W.job a

-- Whether the outside may answer so where these files and commands are to do: what may fail is the write of a file; else the
-- run of a program; else the sync, or the storing of what is owed.
abbrev pub fits_work : Answer → List (List ℕ) → List Command → Bool
fits_work (Fine status) fs cs = true
fits_work NoRoom fs cs = true
fits_work (FileFault left) (f ∷ fs) cs = true
fits_work SyncFault (f ∷ fs) cs = true
fits_work SyncFault [] [] = true
fits_work NoSpawn [] (c ∷ cs) = true
fits_work (OwedFault stored) [] [] = true
fits_work _ fs cs = false

-- Whether the answer fits a turn of the job; one that doesn't run makes none.
abbrev pub fits : Job → Answer → Bool
fits (Running w) a = fits_work a w.files w.commands
fits _ a = false

-- ---- openings

-- The world after the opening step. It meets no running job; one would note the added keys.
unfoldable pub opened : Image → World → Bool → World
opened I W boot = record W {
  held = opened_held I W.held boot;
  job = noting W.job (added_keys I.defaults.values W.held.live.values);
}
