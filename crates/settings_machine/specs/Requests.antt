-- What a client asks of the machine, and what it is answered.
use Rattle.std.specs.Prelude.{⊤, ℕ, Bool, true, false, IsTrue, List, Option, All}
use Rattle.key_names.specs.Key.{is_prefix}
use Rattle.json_trees.specs.declared.pending.Pending.{Pending}
use Rattle.json_trees.specs.declared.scalar.Scalar.{Scalar}
use Rattle.settings_tree.specs.declared.entry.Owed.{Owed}
use Rattle.settings_tree.specs.Content.{settings_key}
use Rattle.settings_tree.specs.declared.held.Held.{Held}
use Rattle.outside.specs.Names.{Names}
use Rattle.template_eval.specs.declared.render_error.RenderError.{RenderError}
use Rattle.version_links.specs.declared.version.Version.{Version}
use Rattle.settings_machine.specs.World.{Key, Job, Idle, Failed, Running}
use Rattle.settings_machine.specs.declared.job.JobStatus.{JobStatus}
use Rattle.settings_machine.specs.declared.job.JobStatus.TheVariants as standing
use Rattle.settings_machine.specs.declared.states.VerifiedFile.{VerifiedFile}
use Rattle.settings_machine.specs.declared.refusal.Refusal.{Refusal}
use Rattle.settings_machine.specs.declared.refusal.Refusal.TheVariants.{BadType, NoKey, NoName, NoPending, NotRendered}

-- A whole request. A transaction is named by a list of bytes.
pub data Request : Type 0 where
  -- all live values
  Root : Request
  -- the names of the operating system
  OsNames : Request
  -- all settings, those at these keys, those below a key
  Settings : Request
  SettingsAt : List Key → Request
  SettingsBelow : Key → Request
  -- these pairs are to be pending in a transaction
  Patch : List ℕ → List (Key × Pending) → Request
  -- the services, or those of these names
  Services : Option (List (List ℕ)) → Request
  -- the configuration files, or those of these names
  ConfigurationFiles : Option (List (List ℕ)) → Request
  -- the services that these keys affect
  Affected : List Key → Request
  -- what is pending in a transaction
  Pends : List ℕ → Request
  -- a transaction is to end without a commit
  DropTx : List ℕ → Request
  -- the names of the transactions
  TxList : Request
  Commit : List ℕ → Request
  -- what is owed is to be paid by a job
  Apply : Request
  CommitAndApply : List ℕ → Request
  -- the job, and what is owed
  JobNow : Request
  -- these pairs are to be live at once, and what is owed is to be paid by a job
  Set : List (Key × Pending) → Request
  -- all is to be owed, and to be paid by a job
  ApplyAll : Request
  -- the change is to be made unless the template of a file refuses that reads what it changes
  Guarded : Request → Request
  -- what a job would do, now or after the commit of a transaction
  Plan : Option (List ℕ) → Request
  -- what a configuration file would be, now or after the commit of a transaction
  PlanFile : List ℕ → Option (List ℕ) → Request
  -- the version of the store, and all that it holds
  Store : Request
  -- the state of each configuration file
  Verify : Request

-- Each key that is patched or set begins with `settings`.
abbrev pub IsProper : Request → Type 0
IsProper (Patch tx pairs) = All (λ pair. IsTrue (is_prefix settings_key pair.0)) pairs
IsProper (Set pairs) = All (λ pair. IsTrue (is_prefix settings_key pair.0)) pairs
IsProper (Guarded q) = IsProper q
IsProper _ = ⊤

-- Whether it asks alone, and changes nothing.
abbrev pub is_reading : Request → Bool
is_reading (Patch tx pairs) = false
is_reading (DropTx tx) = false
is_reading (Commit tx) = false
is_reading Apply = false
is_reading (CommitAndApply tx) = false
is_reading (Set pairs) = false
is_reading ApplyAll = false
is_reading (Guarded q) = is_reading q
is_reading _ = true

-- Whether it reads the configuration files.
abbrev pub reads_files : Request → Bool
reads_files Verify = true
reads_files _ = false

-- The status of a job, as a client sees it.
abbrev pub job_status : Job → JobStatus
job_status Idle = standing.Idle
job_status (Failed cause) = standing.Failed cause
job_status (Running work) = standing.Running

-- A plan: the keys whose live values a commit changes, what is owed then, the files that a job of it writes, in its order and each with
-- its path, the commands that it runs, in order, and the files whose templates refuse, with why.
pub record Planned : Type 0 where
  pub changed : List Key
  pub owed : Owed
  pub files : List (List ℕ × Names)
  pub commands : List (List ℕ × (ℕ × List (List ℕ)))
  pub refused : List (List ℕ × RenderError)

-- What the body of an answer says.
pub data Body : Type 0 where
  -- the tree of these values, without so many first segments of their keys
  TreeOf : ℕ → List (Key × Scalar) → Body
  -- the same of what is pending
  PendingTreeOf : ℕ → List (Key × Pending) → Body
  -- texts by name
  TextsByName : List (List ℕ × List ℕ) → Body
  -- lists of names by key
  ListsByKey : List (Key × List (List ℕ)) → Body
  -- keys
  KeyList : List Key → Body
  -- names
  NameList : List (List ℕ) → Body
  -- the status of the job, and what is owed
  JobIs : JobStatus → Owed → Body
  -- a plan
  PlanIs : Planned → Body
  -- the bytes of a file
  FileIs : List ℕ → Body
  -- the version of the store, and what it holds
  StoreIs : Version → Held → Body
  -- the state of each configuration file
  StatesAre : List VerifiedFile → Body

-- What a request is answered: a body with HTTP status 200, HTTP status 204, a refusal, out of memory, a fault of the disk, or that
-- the store could not be opened again, for what is there.
pub data Reply : Type 0 where
  Said : Body → Reply
  Empty : Reply
  Refused : Refusal → Reply
  NoMemory : Reply
  DiskFault : Reply
  NotOpened : List ℕ → Reply

-- The status of a refusal.
abbrev pub refusal_status : Refusal → ℕ
refusal_status (BadType key wanted) = 400
refusal_status (NoKey key) = 404
refusal_status (NoName name) = 404
refusal_status (NoPending tx) = 422
refusal_status (NotRendered file error) = 422

-- The status of a reply.
abbrev pub status : Reply → ℕ
status (Said body) = 200
status Empty = 204
status (Refused refusal) = refusal_status refusal
status NoMemory = 503
status DiskFault = 500
status (NotOpened at) = 500

-- Whether the reply is of success, as those with a status from 200 to 299 are.
abbrev pub is_success : Reply → Bool
is_success (Said body) = true
is_success Empty = true
is_success (Refused refusal) = false
is_success NoMemory = false
is_success DiskFault = false
is_success (NotOpened at) = false
