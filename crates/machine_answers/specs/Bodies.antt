-- The texts of bodies.
use Rattle.std.specs.Prelude.{◌≡◌, ◌++◌, ℕ, List, [], ◌∷◌, map, codes, decimal}
use Rattle.json.specs.Token.{Token}
use Rattle.json.specs.Token as token
use Rattle.json.specs.Written.{Written}
use Rattle.serde_json.specs.Data.{Data, string, object, Members, no_members, member}
use Rattle.serde_json.specs.Written.{compact_text}
use Rattle.key_names.specs.Key.{printed}
use Rattle.json_trees.specs.Nested.{NestsAs}
use Rattle.json_trees.specs.Scalar.{scalar_data}
use Rattle.json_trees.specs.Tree.{pending_data}
use Rattle.json_trees.specs.Written.{data_tokens}
use Rattle.held_text.specs.HeldText.{list_data, keys_data, owed_data, held_data}
use Rattle.outside.specs.Names.{Names}
use Rattle.outside.specs.PathText.{joined}
use Rattle.settings_tree.specs.declared.entry.Owed.{Owed}
use Rattle.settings_tree.specs.declared.held.Held.{Held}
use Rattle.template_eval.specs.declared.render_error.RenderError.{RenderError}
use Rattle.version_links.specs.Versions.{version_text}
use Rattle.version_links.specs.declared.version.Version.{Version}
use Rattle.settings_machine.specs.World.{Key}
use Rattle.settings_machine.specs.Requests.{Body, TreeOf, PendingTreeOf, TextsByName, ListsByKey, KeyList, NameList, JobIs}
use Rattle.settings_machine.specs.Requests.{Planned, PlanIs, FileIs, StoreIs, StatesAre}
use Rattle.settings_machine.specs.declared.cause.Cause.{Cause}
use Rattle.settings_machine.specs.declared.cause.Cause.TheVariants as cause
use Rattle.settings_machine.specs.declared.job.JobStatus.{JobStatus}
use Rattle.settings_machine.specs.declared.job.JobStatus.TheVariants as status
use Rattle.settings_machine.specs.declared.refusal.Refusal.{Refusal}
use Rattle.settings_machine.specs.declared.refusal.Refusal.TheVariants as refusal
use Rattle.settings_machine.specs.declared.states.FileState.{FileState}
use Rattle.settings_machine.specs.declared.states.FileState.TheVariants as state
use Rattle.settings_machine.specs.declared.states.VerifiedFile.{VerifiedFile}
use Rattle.machine_answers.specs.RenderWords.{render_word, render_path}
use Rattle.machine_answers.specs.StateLines.{state_word}

-- ---- lists, and values by name

-- Names are a list of texts.
abbrev pub names_data : List (List ℕ) → Data
names_data names = list_data (map string names)

-- The members of an object, in this order.
abbrev pub members_of : List (List ℕ × Data) → Members
members_of [] = no_members
members_of (pair ∷ pairs) = member pair.0 pair.1 (members_of pairs)

-- A text by its name.
abbrev pub text_entry : List ℕ × List ℕ → List ℕ × Data
text_entry pair = (pair.0, string pair.1)

-- A list of names by its printed key.
abbrev pub list_entry : Key × List (List ℕ) → List ℕ × Data
list_entry pair = (printed pair.0, names_data pair.1)

-- ---- the job

-- Why a job failed, in words.
abbrev pub cause_words : Cause → List ℕ
cause_words cause.Disk = codes "disk"
cause_words (cause.Spawn service) = codes "spawn " ++ service
cause_words (cause.Render file error) = codes "render " ++ file
cause_words (cause.Status service number) = codes "status " ++ service ++ codes " " ++ decimal number
cause_words cause.Memory = codes "memory"

-- The status of the job, in a word, and what is owed.
abbrev pub standing : List ℕ → Owed → List (List ℕ × Data)
standing word owed = (codes "job", string word) ∷ (codes "owed", owed_data owed) ∷ []

-- That it failed, and why.
abbrev pub failure : Cause → Owed → List (List ℕ × Data)
failure c owed = (codes "cause", string (cause_words c)) ∷ standing (codes "failed") owed

-- The job and what is owed.
abbrev pub job_entries : JobStatus → Owed → List (List ℕ × Data)
job_entries status.Idle owed = standing (codes "idle") owed
job_entries (status.Failed c) owed = failure c owed
job_entries status.Running owed = standing (codes "running") owed

-- ---- plans and stores

-- A command is the list of its service and its words.
abbrev pub command_data : List ℕ × (ℕ × List (List ℕ)) → Data
command_data command = names_data (command.0 ∷ command.1.1)

-- A file is the list of its name and its path, which begins with a slash.
abbrev pub file_data : List ℕ × Names → Data
file_data file = names_data (file.0 ∷ (47 ∷ joined file.1) ∷ [])

-- A file whose template refuses is the list of its name, the word for why, and the path in the template.
abbrev pub refused_data : List ℕ × RenderError → Data
refused_data file = names_data (file.0 ∷ render_word file.1 ∷ render_path file.1 ∷ [])

-- What a job would do.
abbrev pub plan_entries : Planned → List (List ℕ × Data)
plan_entries plan =
    (codes "changed", keys_data plan.changed)
    ∷ (codes "commands", list_data (map command_data plan.commands))
    ∷ (codes "files", list_data (map file_data plan.files))
    ∷ (codes "owed", owed_data plan.owed)
    ∷ (codes "refused", list_data (map refused_data plan.refused))
    ∷ []

-- The held text, and the version of the store.
abbrev pub store_entries : Version → Held → List (List ℕ × Data)
store_entries version held = (codes "held", held_data held) ∷ (codes "version", string (version_text version)) ∷ []

-- ---- the states of files

-- A path, which begins with a slash, and a word for a state.
abbrev pub placed : Names → List ℕ → List (List ℕ × Data)
placed path word = (codes "path", string (47 ∷ joined path)) ∷ (codes "state", string word) ∷ []

-- The same of a file whose template refuses, with why, and where in the template.
abbrev pub refused_entries : Names → RenderError → List (List ℕ × Data)
refused_entries path error = (codes "at", string (render_path error)) ∷ (codes "kind", string (render_word error)) ∷ placed path (codes "refused")

-- What a file is: its path, and its state.
abbrev pub state_entries : Names → FileState → List (List ℕ × Data)
state_entries path (state.Refused error) = refused_entries path error
state_entries path now = placed path (state_word now)

-- The same by its name.
abbrev pub verified_entry : VerifiedFile → List ℕ × Data
verified_entry file = (file.name, object (members_of (state_entries file.path file.state)))

-- The files with their states.
abbrev pub states_entries : List VerifiedFile → List (List ℕ × Data)
states_entries files = (codes "files", object (members_of (map verified_entry files))) ∷ []

-- ---- refusals

-- What kind of refusal it is, and where.
abbrev pub refusal_entries : Refusal → List (List ℕ × Data)
refusal_entries (refusal.BadType key wanted) = (codes "error", string (codes "type")) ∷ (codes "key", string (printed key)) ∷ (codes "wanted", string wanted)
    ∷ []
refusal_entries (refusal.NoKey key) = (codes "error", string (codes "key")) ∷ (codes "key", string (printed key)) ∷ []
refusal_entries (refusal.NoName name) = (codes "error", string (codes "name")) ∷ (codes "name", string name) ∷ []
refusal_entries (refusal.NoPending tx) = (codes "error", string (codes "no-pending")) ∷ (codes "tx", string tx) ∷ []
refusal_entries (refusal.NotRendered file error) = (codes "error", string (codes "render")) ∷ (codes "file", string file)
    ∷ (codes "kind", string (render_word error)) ∷ (codes "path", string (render_path error)) ∷ []

-- The text that reports it to a client.
abbrev pub refusal_text : Refusal → List ℕ
refusal_text r = compact_text (object (members_of (refusal_entries r)))

-- ---- bodies

-- The text is that of the body: a tree has exactly these leaves, a file is its bytes, and any other body is one compact text.
abbrev pub IsTextOf : Body → List ℕ → Type 0
IsTextOf (TreeOf skip pairs) text = NestsAs scalar_data skip pairs text
IsTextOf (PendingTreeOf skip pairs) text = NestsAs pending_data skip pairs text
IsTextOf (TextsByName texts) text = text ≡ compact_text (object (members_of (map text_entry texts)))
IsTextOf (ListsByKey lists) text = text ≡ compact_text (object (members_of (map list_entry lists)))
IsTextOf (KeyList keys) text = text ≡ compact_text (keys_data keys)
IsTextOf (NameList names) text = text ≡ compact_text (names_data names)
IsTextOf (JobIs standing owed) text = text ≡ compact_text (object (members_of (job_entries standing owed)))
IsTextOf (PlanIs plan) text = text ≡ compact_text (object (members_of (plan_entries plan)))
IsTextOf (FileIs bytes) text = text ≡ bytes
IsTextOf (StoreIs version held) text = text ≡ compact_text (object (members_of (store_entries version held)))
IsTextOf (StatesAre files) text = text ≡ compact_text (object (members_of (states_entries files)))

-- ---- for private clauses

-- The tokens of a value by its name.
abbrev pub entry_tokens : List ℕ × Data → List Token
entry_tokens entry = token.key entry.0 ∷ data_tokens entry.1

-- The tokens of a value by its name were written.
pub record WroteEntry (entry : List ℕ × Data) (old new : Written) : Type 0 where
  pub tokens : new.tokens ≡ old.tokens ++ entry_tokens entry
  pub before : new.before ≡ old.before
