-- What each order does, by what the devices tell before and after.
use Rattle.std.specs.Prelude.{ℕ, Bool, Option, List}
use Rattle.outside.specs.Door.{DoorState}
use Rattle.outside.specs.Exchange.{Exchange}
use Rattle.outside.specs.History.{History}
use Rattle.outside.specs.Spawner.{Run, Question}
use Rattle.api_server.specs.Causes.{FaultCounts, fault_counts}
use Rattle.api_server.specs.declared.pace.Pace.{Pace}
use Rattle.command_outcome.specs.Ends.{Outcome}
use Rattle.command_words.specs.Orders.{Order, init, serve, set, get, apply, verify, check, migrate, prune, load, generate, user_data}
use Rattle.command_words.specs.Orders.{dump, restore, forget}
use Rattle.core_commands.specs.Carried.{Carried as Commanded, set_requests, apply_requests}
use Rattle.core_commands.specs.Lines.{IsSettingsLine, IsJobLine}
use Rattle.core_commands.specs.Verifying.{HasVerified}
use Rattle.settings_cmd.specs.Carried.{Carried, IsBegun, IsGot, IsCheckedWith, IsMigrated, IsPruned, GeneratesOrNot, IsProvided, IsLoaded}
use Rattle.event_lines.specs.Logs.{LogState}
use Rattle.settings_cmd.specs.Serving.{HasServed, HasAccepted}
use Rattle.settings_cmd.specs.Stores.{IsDumped, IsForgotten, IsRestored}

-- How often disk, door and spawner have failed.
pub record Faults : Type 0 where
  pub disk : ℕ
  pub door : ℕ
  pub spawner : ℕ

-- These three.
abbrev pub faults : ℕ → ℕ → ℕ → Faults
faults disk door spawner = record { disk = disk; door = door; spawner = spawner }

-- Those of the disk and of the spawner, which fail in events of the machine.
abbrev pub counts_of : Faults → FaultCounts
counts_of f = fault_counts f.disk f.spawner

-- The disk's history, what the door has accepted and its connections, the programs that were asked, and those that were run, each where its device tells it;
-- what was logged; and how often the devices have failed.
pub record Devices : Type 0 where
  pub disk : Option History
  pub door : DoorState
  pub connections : Option (List Exchange)
  pub asked : Option (List Question)
  pub runs : Option (List Run)
  pub log : LogState
  pub faults : Faults

-- These seven.
abbrev pub devices : Option History → DoorState → Option (List Exchange) → Option (List Question) → Option (List Run) → LogState → Faults → Devices
devices disk door connections asked runs log failed =
    record { disk = disk; door = door; connections = connections; asked = asked; runs = runs; log = log; faults = failed }

-- When `serve` makes turns: how many follow each connection, and whether they are made while no client is there too.
abbrev pub pace_of : Option ℕ → Bool → Pace
pace_of slice while_idle = record { slice = slice; while_idle = while_idle }

-- The order is carried out, and comes to this.
abbrev pub Does : Order → Outcome → Devices → Devices → Type 0
Does (init version) outcome old new = Carried (IsBegun version) outcome old.disk new.disk
Does (serve boot slice while_idle connections quiet) outcome old new =
    HasServed boot (pace_of slice while_idle) quiet (counts_of old.faults) (counts_of new.faults) old.connections new.connections old.runs new.runs
    old.log new.log outcome old.disk new.disk
    × HasAccepted connections outcome old.door new.door
Does (set pairs) outcome old new = Commanded (set_requests pairs) IsSettingsLine outcome old.runs new.runs old.disk new.disk
Does (get keys) outcome old new = Carried (IsGot keys) outcome old.disk new.disk
Does (apply all) outcome old new = Commanded (apply_requests all) IsJobLine outcome old.runs new.runs old.disk new.disk
Does verify outcome old new = Carried HasVerified outcome old.disk new.disk
Does (check store) outcome old new = Carried (IsCheckedWith store) outcome old.disk new.disk
Does (migrate to) outcome old new = IsMigrated to old.asked new.asked outcome old.disk new.disk
Does prune outcome old new = Carried IsPruned outcome old.disk new.disk
Does generate outcome old new = GeneratesOrNot old.asked new.asked outcome old.disk new.disk
Does (user_data path) outcome old new = Carried (IsProvided path) outcome old.disk new.disk
Does dump outcome old new = Carried IsDumped outcome old.disk new.disk
Does (restore path) outcome old new = Carried (IsRestored path) outcome old.disk new.disk
Does (forget keys) outcome old new = Carried (IsForgotten keys) outcome old.disk new.disk
Does (load count) outcome old new = Carried (IsLoaded count) outcome old.disk new.disk
