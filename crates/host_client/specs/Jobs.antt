-- What a reply to `GET /job` says: a JSON object with the member `job`, with `owed` and, of a job that failed, with `cause`.
use Rattle.std.specs.Prelude.{ℕ, Bool, true, false, if◌then◌else◌, nat_eq, List, codes, Option, Some, None, option_and_then}
use Rattle.std.specs.List.{starts_with}
use Rattle.std.specs.Str.{bytes_eq}
use Rattle.serde_json.specs.Data.{Data, Items, no_items}
use Rattle.serde_json.specs.Find.{get, as_str, as_array}
use Rattle.json_trees.specs.Json.{data_of}
use Rattle.host_client.specs.declared.job.Job.{Job}
use Rattle.host_client.specs.declared.job.Job.TheVariants.{Running, Done, Owed, Failed, Unknown}

-- The text of a member.
abbrev pub text_in : List ℕ → Data → Option (List ℕ)
text_in name value = option_and_then as_str (get name value)

-- The list of a member.
abbrev pub list_in : List ℕ → Data → Option Items
list_in name value = option_and_then as_array (get name value)

-- A list without items.
abbrev pub is_empty : Option Items → Bool
is_empty (Some no_items) = true
is_empty _ = false

-- Nothing is owed.
abbrev pub owes_nothing : Data → Bool
owes_nothing value = is_empty (list_in (codes "owed") value)

-- A job that failed, by its cause.
abbrev pub failed_by : Option (List ℕ) → Job
failed_by None = Unknown
failed_by (Some cause) = Failed cause

abbrev pub failed_in : Data → Job
failed_in value = failed_by (text_in (codes "cause") value)

-- The job in this state.
abbrev pub in_state : List ℕ → Data → Job
in_state state value =
    if bytes_eq state (codes "running") then Running
    else if bytes_eq state (codes "idle") then (if owes_nothing value then Done else Owed)
    else if bytes_eq state (codes "failed") then failed_in value
    else Unknown

abbrev pub job_by : Option (List ℕ) → Data → Job
job_by None value = Unknown
job_by (Some state) value = in_state state value

-- The job that the value tells.
abbrev pub job_in : Data → Job
job_in value = job_by (text_in (codes "job") value) value

abbrev pub job_told : Option Data → Job
job_told None = Unknown
job_told (Some value) = job_in value

-- The job that the bytes tell.
abbrev pub job_of : List ℕ → Job
job_of body = job_told (data_of body)

-- The exit status of a cause.
abbrev pub cause_status : List ℕ → ℕ
cause_status cause =
    if bytes_eq cause (codes "memory") then 1
    else if bytes_eq cause (codes "disk") then 3
    else if starts_with nat_eq cause (codes "spawn ") then 5
    else 10
