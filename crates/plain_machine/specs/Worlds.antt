-- The world that a reference model is.
use Rattle.std.specs.Prelude.{ℕ, List, [], map}
use Rattle.std.specs.BTreeMap.{BTreeMap}
use Rattle.std.specs.FinMap.{empty, from_entries}
use Rattle.outside.specs.Names.{Names, path_cmp}
use Rattle.outside.specs.Spawner.{Run}
use Rattle.version_links.specs.declared.version.Version.{Version}
use Rattle.settings_machine.specs.World.{World, Files, Idle}
use Rattle.settings_machine.specs.Events.{new_held}
use Rattle.settings_machine.specs.JobSeen.{job_seen}
use Rattle.plain_machine.specs.declared.machine.PlainMachine.{PlainMachine}
use Rattle.plain_machine.specs.declared.ran.Ran.{Ran}

-- A program that was run.
abbrev pub run_of : Ran → Run
run_of r = record { words = r.words.items; status = r.status }

-- The files of a map, by path.
abbrev pub files_by_path : BTreeMap Names (List ℕ) → Files
files_by_path map = from_entries {R = path_cmp} map.entries

-- The world of the machine's parts, of format 2.
abbrev pub world_of : PlainMachine → World
world_of m = record {
  version = m.version;
  format = 2;
  held = m.held;
  job = job_seen m.job;
  etc = files_by_path m.etc;
  runs = map run_of m.runs.items;
}

-- The world of a store that has begun, in which no file was written and no program run.
abbrev pub first_world : Version → World
first_world version = record { version = version; format = 2; held = new_held; job = Idle; etc = empty; runs = [] }
