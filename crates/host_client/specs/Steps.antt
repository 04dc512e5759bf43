-- What an order does, as a function of the replies so far: the next question, or the end with its exit status and its output.
use Rattle.std.specs.Prelude.{◌≡◌, ℕ, Bool, true, ◌&&◌, ◌==◌, ◌-◌, nat_le, if◌then◌else◌, List, [], ◌∷◌, ◌++◌, length, codes, decimal}
use Rattle.std.specs.Prelude.{Option, Some, None, option_and_then, slice_get, false}
use Rattle.std.specs.List.{flat_map, list_any}
use Rattle.std.specs.Str.{bytes_eq}
use Rattle.percent_encoding.specs.Percent.{percent_encode}
use Rattle.host_client.specs.Question.{is_question}
use Rattle.serde_json.specs.Data.{Data, object, Members}
use Rattle.serde_json.specs.Find.{as_object}
use Rattle.serde_json.specs.Find as find
use Rattle.serde_json.specs.Written.{has_float, compact_text}
use Rattle.json_trees.specs.Json.{data_of}
use Rattle.host_client.specs.Orders.{Order, plain, get, set, edit, pending, discard, transactions, commit, plan, try_out, show, apply, wait, verify}
use Rattle.host_client.specs.Orders as order
use Rattle.host_client.specs.Lines.{is_plan, plan_lines, plan_status, state_lines, state_status, is_status, status_lines}
use Rattle.host_client.specs.Jobs.{job_of, cause_status}
use Rattle.host_client.specs.Trees.{tree_in, one_tree}
use Rattle.host_client.specs.declared.job.Job.{Job}
use Rattle.host_client.specs.declared.job.Job.TheVariants.{Running, Done, Owed, Failed, Unknown}
use Rattle.host_client.specs.declared.reply.Got.{Got}
use Rattle.host_client.specs.declared.step.Question.{Question}
use Rattle.host_client.specs.declared.step.Step.{Step}
use Rattle.host_client.specs.declared.step.Step.TheVariants.{Ask, End}
use Rattle.host_client.specs.declared.target.TheConstants.{ESCAPED}

-- ---- questions

-- A question without a body.
abbrev pub question : List ℕ → List ℕ → Question
question method target = record { method = method; target = target; body = None }

-- Bytes of a query, with `%` escapes for all but letters, digits, `-`, `.` and `_` of ASCII.
abbrev pub escaped : List ℕ → List ℕ
escaped bytes = percent_encode ESCAPED bytes

-- The settings at these keys; all of them where there is no key.
abbrev pub settings_target : List (List ℕ) → List ℕ
settings_target [] = codes "/settings"
settings_target (key ∷ keys) = codes "/settings?keys=" ++ escaped key ++ flat_map (λ other. codes "," ++ escaped other) keys

-- What is pending.
abbrev pub pending_target : Option (List ℕ) → List ℕ
pending_target None = codes "/tx"
pending_target (Some tx) = codes "/tx?tx=" ++ escaped tx

-- A transaction after a first pair of a query, if one is given.
abbrev pub tx_part : Option (List ℕ) → List ℕ
tx_part None = []
tx_part (Some tx) = codes "&tx=" ++ escaped tx

-- What would happen, now or after the commit of a transaction.
abbrev pub plan_target : Option (List ℕ) → List ℕ
plan_target None = codes "/plan"
plan_target (Some tx) = codes "/plan?tx=" ++ escaped tx

abbrev pub plan_question : Option (List ℕ) → Question
plan_question tx = question (codes "GET") (plan_target tx)

-- What is owed is applied, or all is.
abbrev pub apply_target : Bool → List ℕ
apply_target false = codes "/tx/apply"
apply_target true = codes "/tx/apply?all"

-- A question with a body.
abbrev pub sending : List ℕ → List ℕ → List ℕ → Question
sending method target body = record { method = method; target = target; body = Some body }

-- Changes become pending in a transaction.
abbrev pub edit_question : List ℕ → List ℕ → Question
edit_question tx body = sending (codes "PATCH") (codes "/settings?tx=" ++ escaped tx) body

-- A transaction ends without a commit.
abbrev pub discard_question : List ℕ → Question
discard_question tx = question (codes "DELETE") (codes "/tx?tx=" ++ escaped tx)

-- The transaction in which changes are tried out.
abbrev pub own_tx : List ℕ
own_tx = codes "settingsctl-plan"

-- The settings at a key and below it.
abbrev pub below_question : List ℕ → Question
below_question key = question (codes "GET") (codes "/settings?prefix=" ++ escaped key)

-- The settings at one key.
abbrev pub key_question : List ℕ → Question
key_question key = question (codes "GET") (codes "/settings?keys=" ++ escaped key)

-- How the job goes.
abbrev pub job_question : Question
job_question = question (codes "GET") (codes "/job")

-- What is asked first. A transaction that an earlier trial left is dropped.
abbrev pub first_question : Order → Question
first_question (plain method target body) = record { method = method; target = target; body = body }
first_question (get keys) = question (codes "GET") (settings_target keys)
first_question (set body) = sending (codes "POST") (codes "/set") body
first_question (edit tx body) = edit_question tx body
first_question (pending tx) = question (codes "GET") (pending_target tx)
first_question (discard tx) = discard_question tx
first_question transactions = question (codes "GET") (codes "/tx/list")
first_question (commit tx) = question (codes "POST") (codes "/tx/commit_and_apply?tx=" ++ escaped tx)
first_question (plan tx) = plan_question tx
first_question (try_out body) = discard_question own_tx
first_question (show file tx) = question (codes "GET") (codes "/plan/file?name=" ++ escaped file ++ tx_part tx)
first_question (apply all) = question (codes "POST") (apply_target all)
first_question (wait seconds) = job_question
first_question order.status = question (codes "GET") (codes "/store")
first_question verify = question (codes "GET") (codes "/verify")

-- ---- ends

-- The bytes and a line feed.
abbrev pub line_of : List ℕ → List ℕ
line_of bytes = bytes ++ codes "\n"

-- The line of a body, nothing for an empty one.
abbrev pub body_line : List ℕ → List ℕ
body_line [] = []
body_line (b ∷ bytes) = line_of (b ∷ bytes)

-- The line of a reply with another status than 200 to 299.
abbrev pub refused_line : ℕ → List ℕ → List ℕ
refused_line status body = codes "settingsctl: refused " ++ decimal status ++ codes " " ++ line_of body

-- A status of 200 to 299.
abbrev pub is_success : ℕ → Bool
is_success status = nat_le 200 status && nat_le status 299

-- This exit status and these bytes.
abbrev pub ended : ℕ → List ℕ → Step
ended status line = End (record { status = status; line = line })

-- The question is asked; a usage error where it can't be (it is too long).
abbrev pub asking : Question → Step
asking q = if is_question q.method q.target q.body then Ask q else ended 2 (codes "settingsctl: usage\n")

-- The body of a success; the status and the body of a refusal, after what was to be printed before.
abbrev pub refused_by : List ℕ → Got → Step
refused_by front reply = ended 13 (front ++ refused_line reply.status reply.body)

abbrev pub ended_by : Got → Step
ended_by reply = if is_success reply.status then ended 0 (body_line reply.body) else refused_by [] reply

-- The line of what is below `settings`, as `settings get` prints it.
abbrev pub settings_line : List ℕ → List ℕ
settings_line tree = codes "{\"settings\":" ++ tree ++ codes "}\n"

-- A reply that can't be read as what was asked for.
abbrev pub bad_reply : Step
bad_reply = ended 21 (codes "settingsctl: bad reply\n")

-- The settings of a success, which are a JSON object; the status and the body of a refusal.
abbrev pub settings_told : List ℕ → Option Members → Step
settings_told body None = bad_reply
settings_told body (Some _) = ended 0 (settings_line body)

abbrev pub settings_by : Got → Step
settings_by reply = if is_success reply.status then settings_told reply.body (tree_in reply.body) else refused_by [] reply

-- ---- after the first reply

-- The bytes of a success, as they are.
abbrev pub shown_by : Got → Step
shown_by reply = if is_success reply.status then ended 0 reply.body else refused_by [] reply

-- A plan by its lines.
abbrev pub plan_read : Data → Step
plan_read value = if is_plan value then ended (plan_status value) (plan_lines value) else bad_reply

abbrev pub plan_told : Option Data → Step
plan_told None = bad_reply
plan_told (Some value) = plan_read value

abbrev pub by_plan : Got → Step
by_plan reply = if is_success reply.status then plan_told (data_of reply.body) else refused_by [] reply

-- Changes are tried out: they become pending in a transaction of their own, which is planned and dropped; then the plan is printed.
abbrev pub ask_discard : Step
ask_discard = asking (discard_question own_tx)

abbrev pub ask_plan : Step
ask_plan = asking (plan_question (Some own_tx))

abbrev pub ask_edit : List ℕ → Step
ask_edit body = asking (edit_question own_tx body)

abbrev pub after_plan : Got → List Got → Step
after_plan planned [] = ask_discard
after_plan planned (dropped ∷ replies) = if is_success dropped.status then by_plan planned else refused_by [] dropped

abbrev pub after_edit : List Got → Step
after_edit [] = ask_plan
after_edit (planned ∷ replies) = after_plan planned replies

abbrev pub after_drop : List ℕ → List Got → Step
after_drop body [] = ask_edit body
after_drop body (edited ∷ replies) = if is_success edited.status then after_edit replies else refused_by [] edited

abbrev pub after_try : List ℕ → Got → List Got → Step
after_try body reply replies = if is_success reply.status then after_drop body replies else refused_by [] reply

-- The files by their states.
abbrev pub states_told : Option Members → Step
states_told None = bad_reply
states_told (Some files) = ended (state_status files) (state_lines files)

abbrev pub files_of : Data → Option Members
files_of value = option_and_then as_object (find.get (codes "files") value)

abbrev pub files_told : Option Data → Step
files_told None = bad_reply
files_told (Some value) = states_told (files_of value)

abbrev pub by_states : Got → Step
by_states reply = if is_success reply.status then files_told (data_of reply.body) else refused_by [] reply

-- The store, and then its job.
abbrev pub status_read : Data → Data → Step
status_read store job = if is_status store job then ended 0 (status_lines store job) else bad_reply

abbrev pub both_told : Option Data → Option Data → Step
both_told None job = bad_reply
both_told (Some store) None = bad_reply
both_told (Some store) (Some job) = status_read store job

abbrev pub status_told : Got → Got → Step
status_told store job = both_told (data_of store.body) (data_of job.body)

abbrev pub after_store : Got → List Got → Step
after_store store [] = asking job_question
after_store store (job ∷ replies) = if is_success job.status then status_told store job else refused_by [] job

abbrev pub after_status : Got → List Got → Step
after_status reply replies = if is_success reply.status then after_store reply replies else refused_by [] reply

-- Nothing is at a key or below it.
abbrev pub is_nothing : Got → Bool
is_nothing below = is_success below.status && bytes_eq below.body (codes "{}")

-- One key without a value of its own has settings below it, or nothing is there and its refusal stays.
abbrev pub after_below : Got → Got → Step
after_below reply below = if is_nothing below then settings_by reply else settings_by below

abbrev pub next_below : List ℕ → Got → List Got → Step
next_below key reply [] = asking (below_question key)
next_below key reply (below ∷ replies) = after_below reply below

-- A tree by its compact text. No setting is a fraction, so a tree has none.
abbrev pub tree_read : Data → Step
tree_read tree = if has_float tree then bad_reply else ended 0 (settings_line (compact_text tree))

abbrev pub tree_told : Option Members → Step
tree_told None = bad_reply
tree_told (Some members) = tree_read (object members)

-- Nothing is at one of several keys or below it: that key alone is asked for, which is refused.
abbrev pub after_nothing : List ℕ → List Got → Step
after_nothing key [] = asking (key_question key)
after_nothing key (alone ∷ replies) = settings_by alone

-- Several keys, one of them without a value of its own: what is at each or below it is asked for, and printed as one tree.
abbrev pub after_each : List (List ℕ) → List Got → List Got → Step
after_each [] replies all = tree_told (one_tree all)
after_each (key ∷ keys) [] all = asking (below_question key)
after_each (key ∷ keys) (below ∷ replies) all =
    if is_nothing below then after_nothing key replies else (if is_success below.status then after_each keys replies all else refused_by [] below)

-- A key has no value of its own.
abbrev pub after_missing : List (List ℕ) → Got → List Got → Step
after_missing [] reply replies = settings_by reply
after_missing (key ∷ []) reply replies = next_below key reply replies
after_missing keys reply replies = after_each keys replies replies

abbrev pub after_get : List (List ℕ) → Got → List Got → Step
after_get keys reply replies = if reply.status == 404 then after_missing keys reply replies else settings_by reply

-- By the job: it is asked again while it runs. The bytes are printed first at the end.
abbrev pub by_job : List ℕ → Job → Step
by_job front Running = asking job_question
by_job front Done = ended 0 front
by_job front Owed = ended 10 (front ++ codes "settingsctl: owed\n")
by_job front (Failed cause) = ended (cause_status cause) (front ++ codes "settingsctl: " ++ cause ++ codes "\n")
by_job front Unknown = ended 21 (front ++ codes "settingsctl: bad reply\n")

-- By the last reply to `GET /job`, if there is one yet.
abbrev pub by_last : List ℕ → Option Got → Step
by_last front None = asking job_question
by_last front (Some reply) = if is_success reply.status then by_job front (job_of reply.body) else refused_by front reply

-- The last reply of some.
abbrev pub last_of : List Got → Option Got
last_of replies = slice_get replies (length replies - 1)

-- A change was refused, or it was made and its job is waited for.
abbrev pub after_change : Got → List Got → Step
after_change reply replies = if is_success reply.status then by_last (body_line reply.body) (last_of replies) else refused_by [] reply

abbrev pub follow : Order → Got → List Got → Step
follow (get keys) reply replies = after_get keys reply replies
follow (set body) reply replies = after_change reply replies
follow (commit tx) reply replies = after_change reply replies
follow (plan tx) reply replies = by_plan reply
follow (try_out body) reply replies = after_try body reply replies
follow (show file tx) reply replies = shown_by reply
follow (apply all) reply replies = after_change reply replies
follow (wait seconds) reply replies = by_last [] (last_of (reply ∷ replies))
follow order.status reply replies = after_status reply replies
follow verify reply replies = by_states reply
follow _ reply replies = ended_by reply

-- What comes after these replies.
abbrev pub next : Order → List Got → Step
next ordered [] = asking (first_question ordered)
next ordered (reply ∷ replies) = follow ordered reply replies

-- What is asked can be asked, and a run of questions ends with one of these exit statuses.
abbrev pub IsSound : Step → Type 0
IsSound (Ask q) = is_question q.method q.target q.body ≡ true
IsSound (End ending) = list_any (λ status. status == ending.status) (0 ∷ 1 ∷ 2 ∷ 3 ∷ 5 ∷ 10 ∷ 13 ∷ 19 ∷ 21 ∷ []) ≡ true
