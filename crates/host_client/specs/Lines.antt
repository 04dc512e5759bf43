-- What is printed of a plan, of what is the case and of what is pending, by lines.
use Rattle.std.specs.Prelude.{ℕ, Bool, true, ◌&&◌, ◌||◌, if◌then◌else◌, List, [], ◌++◌, codes, Option, Some, None}
use Rattle.std.specs.List.{flat_map}
use Rattle.std.specs.Str.{bytes_eq}
use Rattle.serde_json.specs.Data.{Data, Members, no_members, member}
use Rattle.serde_json.specs.Find.{get}
use Rattle.host_client.specs.Jobs.{text_in, list_in, is_empty}
use Rattle.host_client.specs.Members.{items_in, items_at, listed, has_list, has_text, text_of, member_text, text_at}

-- A space and the text.
abbrev pub spaced : List ℕ → List ℕ
spaced text = codes " " ++ text

-- The same, nothing where there is no text.
abbrev pub spaced_if : Option (List ℕ) → List ℕ
spaced_if None = []
spaced_if (Some text) = spaced text

-- The word and the text.
abbrev pub word_line : List ℕ → List ℕ → List ℕ
word_line word text = word ++ spaced text ++ codes "\n"

-- The word and the texts of the row.
abbrev pub row_line : List ℕ → Data → List ℕ
row_line word row = word ++ flat_map (λ text. spaced (text_of text)) (items_in row) ++ codes "\n"

-- A line for each item of the list that is a member.
abbrev pub text_lines : List ℕ → List ℕ → Data → List ℕ
text_lines word name value = flat_map (λ text. word_line word (text_of text)) (listed name value)

abbrev pub row_lines : List ℕ → List ℕ → Data → List ℕ
row_lines word name value = flat_map (row_line word) (listed name value)

-- ---- a plan

-- The value is a plan, by its members.
abbrev pub is_plan : Data → Bool
is_plan value = has_list (codes "changed") value && has_list (codes "files") value && has_list (codes "commands") value && has_list (codes "refused") value

-- The keys that change, the files that are written, the commands that are run, and the files that refuse.
abbrev pub plan_lines : Data → List ℕ
plan_lines value =
    text_lines (codes "change") (codes "changed") value ++ row_lines (codes "write") (codes "files") value
    ++ row_lines (codes "run") (codes "commands") value ++ row_lines (codes "refuse") (codes "refused") value

-- 10 where a file refuses.
abbrev pub plan_status : Data → ℕ
plan_status value = if is_empty (list_in (codes "refused") value) then 0 else 10

-- ---- what is the case

-- The file, its state, and of a file that is refused the kind and the path.
abbrev pub state_line : List ℕ → Data → List ℕ
state_line file value =
    file ++ spaced (member_text (codes "state") value) ++ spaced_if (text_in (codes "kind") value) ++ spaced_if (text_in (codes "at") value) ++ codes "\n"

abbrev pub state_lines : Members → List ℕ
state_lines no_members = []
state_lines (member file value files) = state_line file value ++ state_lines files

-- The file is as its template has it, or is to be written.
abbrev pub is_well : Data → Bool
is_well value = bytes_eq (member_text (codes "state") value) (codes "current") || bytes_eq (member_text (codes "state") value) (codes "owed")

abbrev pub are_well : Members → Bool
are_well no_members = true
are_well (member file value files) = is_well value && are_well files

-- 19 where a file is neither.
abbrev pub state_status : Members → ℕ
state_status files = if are_well files then 0 else 19

-- ---- a store and its job

-- A key that is pending in a transaction.
abbrev pub pending_line : List ℕ → Data → List ℕ
pending_line tx pair = codes "pending" ++ spaced tx ++ spaced (text_at 0 pair) ++ codes "\n"

-- The keys that are pending in a transaction.
abbrev pub tx_lines : Data → List ℕ
tx_lines row = flat_map (pending_line (text_at 0 row)) (items_at 1 row)

abbrev pub held_lines : Option Data → List ℕ
held_lines None = []
held_lines (Some held) = flat_map tx_lines (listed (codes "pending") held)

-- The keys that are pending in what a store holds.
abbrev pub pending_lines : Data → List ℕ
pending_lines store = held_lines (get (codes "held") store)

-- What is owed: all, or some keys.
abbrev pub owed_by : Option (List ℕ) → Data → List ℕ
owed_by None job = text_lines (codes "owed") (codes "owed") job
owed_by (Some all) job = word_line (codes "owed") all

abbrev pub owed_lines : Data → List ℕ
owed_lines job = owed_by (text_in (codes "owed") job) job

-- The state of the job, and the cause of one that failed.
abbrev pub job_line : Data → List ℕ
job_line job = codes "job" ++ spaced (member_text (codes "job") job) ++ spaced_if (text_in (codes "cause") job) ++ codes "\n"

-- The values are a store and a job, by their members.
abbrev pub is_status : Data → Data → Bool
is_status store job = has_text (codes "version") store && has_text (codes "job") job

-- The version, the job, what is owed, and what is pending.
abbrev pub status_lines : Data → Data → List ℕ
status_lines store job = word_line (codes "version") (member_text (codes "version") store) ++ job_line job ++ owed_lines job ++ pending_lines store
