-- The lines of each event.
use Rattle.std.specs.Prelude.{◌&&◌, ◌++◌, nat_le, ℕ, Bool, true, false, List, [], ◌∷◌, Option, Some, None, length, map, codes, decimal, if◌then◌else◌}
use Rattle.std.specs.List.{flat_map}
use Rattle.key_names.specs.Key.{printed}
use Rattle.outside.specs.Names.{Names}
use Rattle.outside.specs.PathText.{joined}
use Rattle.settings_tree.specs.declared.entry.Owed.{Owed}
use Rattle.settings_tree.specs.declared.entry.Owed.TheVariants.{All, Keys}
use Rattle.settings_tree.specs.declared.held.Held.{Held}
use Rattle.pending_tx.specs.Transactions.{changed_keys, changed_in, last_of}
use Rattle.version_links.specs.Versions.{version_text}
use Rattle.version_links.specs.declared.version.Version.{Version}
use Rattle.settings_machine.specs.declared.cause.Cause.{Cause}
use Rattle.settings_machine.specs.declared.cause.Cause.TheVariants as cause
use Rattle.settings_machine.specs.World.{Key, Image, World, Work, Job, Idle, Failed, Running, is_running, path_of}
use Rattle.settings_machine.specs.Requests.{Request, Root, OsNames, Settings, SettingsAt, SettingsBelow, Patch, Services, ConfigurationFiles}
use Rattle.settings_machine.specs.Requests.{Affected, Pends, DropTx, TxList, Commit, Apply, CommitAndApply, JobNow, Set, ApplyAll, Guarded}
use Rattle.settings_machine.specs.Requests.{Plan, PlanFile, Store, Verify, status}
use Rattle.settings_machine.specs.Step.{Command, request_next, turn_next, opened}
use Rattle.settings_machine.specs.Events.{Event, Succeeded, Failing, Opened, Asked, Unreadable, Unread, Turned, Began, Moved, Forgot}
use Rattle.machine_answers.specs.RenderWords.{render_word, render_path}
use Rattle.event_lines.specs.Logfmt.{Pair, line}

-- ---- values

-- The texts, with this between each two.
abbrev pub separated : List ℕ → List (List ℕ) → List ℕ
separated between [] = []
separated between (text ∷ texts) = text ++ flat_map (λ t. between ++ t) texts

-- Keys, as they are printed, with commas between.
abbrev pub listed : List Key → List ℕ
listed keys = separated (codes ",") (map printed keys)

-- What is owed: the word `all`, or the keys.
abbrev pub owed_text : Owed → List ℕ
owed_text All = codes "all"
owed_text (Keys keys) = listed keys

-- A path, with the slash at its front.
abbrev pub path_text : Names → List ℕ
path_text path = 47 ∷ joined path

-- Why a job failed.
abbrev pub cause_text : Cause → List ℕ
cause_text cause.Disk = codes "disk"
cause_text (cause.Spawn service) = codes "spawn " ++ service
cause_text (cause.Render file error) = codes "render " ++ file ++ codes " " ++ render_word error ++ codes " " ++ render_path error
cause_text (cause.Status service number) = codes "status " ++ service ++ codes " " ++ decimal number
cause_text cause.Memory = codes "memory"

-- ---- an opening, and a request that was refused in reading

-- The version of the store, and what is owed.
abbrev pub opened_line : Version → Owed → List ℕ
opened_line version owed = line (codes "opened") ((codes "version", version_text version) ∷ (codes "owed", owed_text owed) ∷ [])

-- The status by which it was answered, and the word for why. Nothing else of it is told.
abbrev pub refused_line : Unreadable → List ℕ
refused_line why = line (codes "refused") ((codes "status", decimal why.status) ∷ (codes "error", why.error) ∷ [])

-- ---- a request

-- Its method and its path.
abbrev pub target_of : Request → List ℕ × List ℕ
target_of Root = (codes "GET", codes "/")
target_of OsNames = (codes "GET", codes "/os")
target_of Settings = (codes "GET", codes "/settings")
target_of (SettingsAt keys) = (codes "GET", codes "/settings")
target_of (SettingsBelow key) = (codes "GET", codes "/settings")
target_of (Patch tx pairs) = (codes "PATCH", codes "/settings")
target_of (Services names) = (codes "GET", codes "/services")
target_of (ConfigurationFiles names) = (codes "GET", codes "/configuration-files")
target_of (Affected keys) = (codes "GET", codes "/metadata/affected-services")
target_of (Pends tx) = (codes "GET", codes "/tx")
target_of (DropTx tx) = (codes "DELETE", codes "/tx")
target_of TxList = (codes "GET", codes "/tx/list")
target_of (Commit tx) = (codes "POST", codes "/tx/commit")
target_of Apply = (codes "POST", codes "/tx/apply")
target_of (CommitAndApply tx) = (codes "POST", codes "/tx/commit_and_apply")
target_of JobNow = (codes "GET", codes "/job")
target_of (Set pairs) = (codes "POST", codes "/set")
target_of ApplyAll = (codes "POST", codes "/tx/apply")
target_of (Guarded q) = target_of q
target_of (Plan tx) = (codes "GET", codes "/plan")
target_of (PlanFile file tx) = (codes "GET", codes "/plan/file")
target_of Store = (codes "GET", codes "/store")
target_of Verify = (codes "GET", codes "/verify")

-- A transaction, where there is one.
abbrev pub tx_pair : Option (List ℕ) → List Pair
tx_pair None = []
tx_pair (Some tx) = (codes "tx", tx) ∷ []

-- What it is about: a transaction, the name of a file, that all is to be owed, that it is guarded.
abbrev pub subject : Request → List Pair
subject (Patch tx pairs) = tx_pair (Some tx)
subject (Pends tx) = tx_pair (Some tx)
subject (DropTx tx) = tx_pair (Some tx)
subject (Commit tx) = tx_pair (Some tx)
subject (CommitAndApply tx) = tx_pair (Some tx)
subject ApplyAll = (codes "all", codes "true") ∷ []
subject (Guarded q) = subject q ++ (codes "check", codes "render") ∷ []
subject (Plan tx) = tx_pair tx
subject (PlanFile file tx) = (codes "name", file) ∷ tx_pair tx
subject _ = []

-- Whether a status is one of success.
abbrev pub is_of_success : ℕ → Bool
is_of_success number = nat_le 200 number && nat_le number 299

-- What it did: the keys that it made pending, and those whose live values it changed. Values are never told.
abbrev pub deeds : Request → List Key → List Pair
deeds (Patch tx pairs) changed = (codes "keys", listed (map (λ pair. pair.0) pairs)) ∷ []
deeds (Commit tx) changed = (codes "changed", listed changed) ∷ []
deeds (CommitAndApply tx) changed = (codes "changed", listed changed) ∷ []
deeds (Set pairs) changed = (codes "changed", listed changed) ∷ []
deeds (Guarded q) changed = deeds q changed
deeds _ changed = []

-- The keys whose live values a request changes that is answered with success.
abbrev pub changes : Held → Request → List Key
changes held (Commit tx) = changed_keys held tx
changes held (CommitAndApply tx) = changed_keys held tx
changes held (Set pairs) = changed_in held (last_of pairs)
changes held (Guarded q) = changes held q
changes held _ = []

-- A request, with the status of its reply, and what it did where that is one of success.
abbrev pub request_line : Request → List Key → ℕ → List ℕ
request_line q changed number = line (codes "request")
    ((codes "method", (target_of q).0) ∷ (codes "path", (target_of q).1) ∷ subject q
    ++ (codes "status", decimal number) ∷ (if is_of_success number then deeds q changed else []))

-- ---- the job

-- A job began, with so many files to write and commands to run.
abbrev pub began_line : Work → List ℕ
began_line w = line (codes "job-began") ((codes "files", decimal (length w.files)) ∷ (codes "commands", decimal (length w.commands)) ∷ [])

-- It ended, and nothing is left to do.
abbrev pub ended_line : List ℕ
ended_line = line (codes "job-ended") []

-- It failed.
abbrev pub failed_line : Cause → List ℕ
failed_line c = line (codes "job-failed") ((codes "cause", cause_text c) ∷ [])

-- What a request made of the job, by whether one ran before it: one began, or the one that ran failed or has nothing to do any more.
abbrev pub job_lines : Bool → Job → List ℕ
job_lines false (Running w) = began_line w
job_lines true (Failed c) = failed_line c
job_lines true Idle = ended_line
job_lines _ _ = []

-- What a turn is to do: nothing, where no job runs; to write a file at a path; to run a command of a service; or to end the job.
pub data Due : Type 0 where
  Nothing : Due
  Write : List ℕ → Names → Due
  Run : List ℕ → List (List ℕ) → Due
  End : Due

-- Where no file is left, it is to run the next command, if there is one.
abbrev pub due_command : List Command → Due
due_command [] = End
due_command (c ∷ cs) = Run c.0 c.1.1

-- It is to write the next file, if there is one.
abbrev pub due_file : Image → List (List ℕ) → List Command → Due
due_file I [] commands = due_command commands
due_file I (f ∷ fs) commands = Write f (path_of I f)

-- What a turn of this job is to do.
abbrev pub due_in : Image → Job → Due
due_in I (Running w) = due_file I w.files w.commands
due_in I _ = Nothing

-- A file was written, or left as it was where it was so already.
abbrev pub wrote_line : List ℕ → Names → List ℕ
wrote_line file path = line (codes "wrote") ((codes "file", file) ∷ (codes "path", path_text path) ∷ [])

-- A command was run, and ended with this exit status.
abbrev pub ran_line : List ℕ → List (List ℕ) → ℕ → List ℕ
ran_line service words number = line (codes "ran")
    ((codes "service", service) ∷ (codes "command", separated (codes " ") words) ∷ (codes "status", decimal number) ∷ [])

-- The job has failed, if it has.
abbrev pub failure : Job → List ℕ
failure (Failed c) = failed_line c
failure _ = []

-- What became of a command: it ended with exit status 0, or with another, for which the job failed; or it could not be run.
abbrev pub run_lines : List ℕ → List (List ℕ) → Job → List ℕ
run_lines service words (Running w) = ran_line service words 0
run_lines service words (Failed (cause.Status name number)) = ran_line service words number ++ failed_line (cause.Status name number)
run_lines service words job = failure job

-- What became of the end of a job: it is idle, or began again; or it could not be stored what is owed from then on.
abbrev pub end_lines : Job → List ℕ
end_lines (Running w) = ended_line ++ began_line w
end_lines Idle = ended_line
end_lines (Failed c) = failed_line c

-- What a turn did that was to do this, by the job after it.
abbrev pub turn_lines : Due → Job → List ℕ
turn_lines Nothing job = []
turn_lines (Write file path) (Running w) = wrote_line file path
turn_lines (Write file path) job = failure job
turn_lines (Run service words) job = run_lines service words job
turn_lines End job = end_lines job

-- ---- events

-- The lines of an event in this world. An opening that failed has none: what the command or the request came to tells it. No `serve` makes a
-- beginning or a migration.
abbrev pub lines_of : Image → World → Event → List ℕ
lines_of I W (Opened boot Succeeded) = opened_line W.version (opened I W boot).held.owed
lines_of I W (Opened boot (Failing taken)) = []
lines_of I W (Asked q o) = request_line q (changes W.held q) (status (request_next I W q o).reply)
    ++ job_lines (is_running W.job) (request_next I W q o).world.job
lines_of I W (Unread why) = refused_line why
lines_of I W (Turned answer) = turn_lines (due_in I W.job) (turn_next I W answer).job
lines_of I W (Began version) = []
lines_of I W (Moved version held) = []
lines_of I W (Forgot keys) = []
