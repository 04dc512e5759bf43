-- What a commit and a turn change in a job.
use Rattle.std.specs.Prelude.{true, List, [], drop, Option, Some, None, if◌then◌else◌}
use Rattle.settings_tree.specs.declared.entry.Owed.{Owed}
use Rattle.settings_maps.specs.KeyList.{joined}
use Rattle.settings_machine.specs.World.{Key, Image, Work, Job, Idle, Failed, Running, owes_none}
use Rattle.settings_machine.specs.Step.{begun}

-- What a running job will have noted with these keys.
abbrev pub noted : Job → List Key → List Key
noted Idle keys = []
noted (Failed c) keys = []
noted (Running w) keys = joined w.since keys

-- A running job with these keys noted.
abbrev pub with_since : Job → List Key → Job
with_since Idle since = Idle
with_since (Failed c) since = Failed c
with_since (Running w) since = Running (record w { since = since })

-- The job that begins where something is owed and none runs.
abbrev pub fresh_job : Image → Owed → Job → Option Job
fresh_job I o Idle = Some (begun I o)
fresh_job I o (Failed c) = Some (begun I o)
fresh_job I o (Running w) = None

-- The job that apply begins, which is an idle one where nothing is owed.
abbrev pub next_job : Image → Owed → Job → Option Job
next_job I o job = if owes_none o then Some Idle else fresh_job I o job

-- A running job that is asked for again.
abbrev pub asked_again : Job → Job
asked_again Idle = Idle
asked_again (Failed c) = Failed c
asked_again (Running w) = Running (record w { again = true })

-- The next job, and where none is given the job, asked for again where it runs.
abbrev pub taken_up : Job → Option Job → Job
taken_up job None = asked_again job
taken_up job (Some next) = next

-- The work without its first file.
abbrev pub without_file : Work → Work
without_file w = record w { files = drop 1 w.files }

-- A running job that is done with its first file.
abbrev pub past_file : Job → Job
past_file Idle = Idle
past_file (Failed c) = Failed c
past_file (Running w) = Running (without_file w)

-- The work without its first command.
abbrev pub without_command : Work → Work
without_command w = record w { commands = drop 1 w.commands }

-- A running job that is done with its first command.
abbrev pub past_command : Job → Job
past_command Idle = Idle
past_command (Failed c) = Failed c
past_command (Running w) = Running (without_command w)
