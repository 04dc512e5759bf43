use Rattle.command_words.specs.Orders.{serve}
use Rattle.settings_run.proofs.SpawnerFaults.{unspawned, spawned}
use Rattle.settings_run.proofs.DiskFaults.{unfaulted, faulted}
use Rattle.settings_run.proofs.DoorFaults.{door_failed, ended_well}
use Rattle.settings_run.proofs.Headlines.{headline}
use Rattle.settings_run.proofs.command.run.Goals as goal

pub returns-clause-headline : goal.returns-clause-headline
returns-clause-headline g c =
    headline _ c.carry_out-outcome.result _ _ c.carry_out-outcome.ensures.unrun c.carry_out-outcome.ensures.does c.tell.result _ _ c.tell.ensures.ends
    (record {
      memory = c.tell.ensures.memory;
      disk = c.carry_out-outcome.ensures.disk_fault;
      door = c.carry_out-outcome.ensures.door_fault;
      spawner = c.carry_out-outcome.ensures.spawn_fault;
      disk_told = c.carry_out-outcome.ensures.cause;
      spawner_told = c.carry_out-outcome.ensures.spawn_cause;
    }) c.carry_out-outcome.ensures.usage

pub returns-clause-served : goal.returns-clause-served
returns-clause-served g c boot slice while_idle connections quiet spells is =
    (c.carry_out-outcome.ensures.does (serve boot slice while_idle connections quiet) spells).1.all
    (ended_well c.carry_out-outcome.result c.tell.result _ _ c.tell.ensures.ends is)

pub returns-clause-disk_fault : goal.returns-clause-disk_fault
returns-clause-disk_fault g c is = faulted c.carry_out-outcome.result c.tell.result _ _ _ _ c.carry_out-outcome.ensures.disk_fault c.tell.ensures.ends is

pub returns-clause-disk_faults : goal.returns-clause-disk_faults
returns-clause-disk_faults g c serves_not not_1 not_3 not_12 =
    unfaulted c.carry_out-outcome.result c.tell.result _ _ _ _ (c.carry_out-outcome.ensures.cause serves_not) c.tell.ensures.ends not_1 not_3 not_12

pub returns-clause-door_fault : goal.returns-clause-door_fault
returns-clause-door_fault g c is = door_failed c.carry_out-outcome.result c.tell.result _ _ _ _ c.carry_out-outcome.ensures.door_fault c.tell.ensures.ends is

pub returns-clause-spawn_fault : goal.returns-clause-spawn_fault
returns-clause-spawn_fault g c is = spawned c.carry_out-outcome.result c.tell.result _ _ _ _ c.carry_out-outcome.ensures.spawn_fault c.tell.ensures.ends is

pub returns-clause-spawn_faults : goal.returns-clause-spawn_faults
returns-clause-spawn_faults g c serves_not not_1 not_5 not_12 =
    unspawned c.carry_out-outcome.result c.tell.result _ _ _ _ (c.carry_out-outcome.ensures.spawn_cause serves_not) c.tell.ensures.ends not_1 not_5 not_12
