use Rattle.std.proofs.Common.{inl, ℕ, List, IsTrue, All, refl, subst, sym}
use Rattle.key_names.specs.Key.{is_prefix}
use Rattle.json_trees.specs.declared.scalar.Scalar.{Scalar}
use Rattle.settings_tree.specs.Content.{settings_key}
use Rattle.outside.specs.Spawner.{texts}
use Rattle.command_words.specs.Orders.{Spells, order_of}
use Rattle.command_words.specs.declared.command.Command.{Command}
use Rattle.command_outcome.specs.declared.refusal.Refusal.TheVariants as refused
use Rattle.core_commands.specs.Carried.{Carried as Commanded, set_requests}
use Rattle.core_commands.specs.Lines.{IsSettingsLine}
use Rattle.core_commands.proofs.Causes.{quiet_cause}
use Rattle.settings_cmd.specs.Carried.{Carried, IsGot}
use Rattle.settings_cmd.specs.Stores.{IsForgotten}
use Rattle.settings_cmd.proofs.Loading.{load_in_range, memory_alone, memory_spawn}
use Rattle.settings_cmd.proofs.Making.{spawn_none}
use Rattle.settings_cmd.proofs.Ordered.{does_read, does_nothing}
use Rattle.settings_cmd.proofs.Spawned.{cause_none, cause_named}
use Rattle.settings_cmd.proofs.SettingPairs.{setting_pairs}
use Rattle.settings_cmd.proofs.carrying.carry_out.Goals as goal

-- ---- what is ordered is done

pub returns-in-Ok-Init-clause-does : goal.returns-in-Ok-Init-clause-does
returns-in-Ok-Init-clause-does g c = λ order spelled.
    does_read c.begin.result _ _ c.in-Ok-Init.field-0 _ order c.in-Ok-Init.field-0-is (c.in-Ok-Init.ensures.exact order spelled)
    c.begin.ensures.begun

pub returns-in-Ok-Serve-clause-does : goal.returns-in-Ok-Serve-clause-does
returns-in-Ok-Serve-clause-does g c = λ order spelled.
    does_read c.serve_store.result _ _ c.in-Ok-Serve.field-0 _ order c.in-Ok-Serve.field-0-is (c.in-Ok-Serve.ensures.exact order spelled)
    (inl c.serve_store.ensures.served, c.serve_store.ensures.accepted)

pub returns-in-Ok-Set-clause-does : goal.returns-in-Ok-Set-clause-does
returns-in-Ok-Set-clause-does g c = λ order spelled.
    does_read c.set.result _ _ c.in-Ok-Set.field-0 _ order c.in-Ok-Set.field-0-is (c.in-Ok-Set.ensures.exact order spelled)
    (subst (λ (l : List (List (List ℕ) × Scalar)). Commanded (set_requests l) IsSettingsLine c.set.result (g.S.Spawner.runs c.args.spawner.now)
    (g.S.Spawner.runs c.set.new.spawner)
    (g.D.Disk.told c.args.disk.now) (g.D.Disk.told c.set.new.disk)) c.deref.ensures.value c.set.ensures.carried)

pub returns-in-Ok-Get-clause-does : goal.returns-in-Ok-Get-clause-does
returns-in-Ok-Get-clause-does g c = λ order spelled.
    does_read c.get.result _ _ c.in-Ok-Get.field-0 _ order c.in-Ok-Get.field-0-is (c.in-Ok-Get.ensures.exact order spelled)
    (inl (subst (λ (l : List (List (List ℕ))). IsGot l c.get.result (g.D.Disk.told c.args.disk.now) (g.D.Disk.told c.get.new.disk))
    c.deref-in-Ok-Get.ensures.value c.get.ensures.got))

pub returns-in-Ok-Apply-clause-does : goal.returns-in-Ok-Apply-clause-does
returns-in-Ok-Apply-clause-does g c = λ order spelled.
    does_read c.apply.result _ _ c.in-Ok-Apply.field-0 _ order c.in-Ok-Apply.field-0-is (c.in-Ok-Apply.ensures.exact order spelled)
    (inl c.apply.ensures.carried)

pub returns-in-Ok-Verify-clause-does : goal.returns-in-Ok-Verify-clause-does
returns-in-Ok-Verify-clause-does g c = λ order spelled.
    does_read c.verify.result _ _ c.in-Ok-Verify.field-0 _ order c.in-Ok-Verify.field-0-is (c.in-Ok-Verify.ensures.exact order spelled)
    (inl c.verify.ensures.verified)

pub returns-in-Ok-Check-clause-does : goal.returns-in-Ok-Check-clause-does
returns-in-Ok-Check-clause-does g c = λ order spelled.
    does_read c.check_with.result _ _ c.in-Ok-Check.field-0 _ order c.in-Ok-Check.field-0-is (c.in-Ok-Check.ensures.exact order spelled)
    (inl c.check_with.ensures.checked)

pub returns-in-Ok-Migrate-clause-does : goal.returns-in-Ok-Migrate-clause-does
returns-in-Ok-Migrate-clause-does g c = λ order spelled.
    does_read c.migrate_to.result _ _ c.in-Ok-Migrate.field-0 _ order c.in-Ok-Migrate.field-0-is (c.in-Ok-Migrate.ensures.exact order spelled)
    c.migrate_to.ensures.migrated

pub returns-in-Ok-Prune-clause-does : goal.returns-in-Ok-Prune-clause-does
returns-in-Ok-Prune-clause-does g c = λ order spelled.
    does_read c.prune_others.result _ _ c.in-Ok-Prune.field-0 _ order c.in-Ok-Prune.field-0-is (c.in-Ok-Prune.ensures.exact order spelled)
    (inl c.prune_others.ensures.pruned)

pub returns-in-Ok-Generate-clause-does : goal.returns-in-Ok-Generate-clause-does
returns-in-Ok-Generate-clause-does g c = λ order spelled.
    does_read c.generate.result _ _ c.in-Ok-Generate.field-0 _ order c.in-Ok-Generate.field-0-is (c.in-Ok-Generate.ensures.exact order spelled)
    c.generate.ensures.generated

pub returns-in-Ok-UserData-clause-does : goal.returns-in-Ok-UserData-clause-does
returns-in-Ok-UserData-clause-does g c = λ order spelled.
    does_read c.provision.result _ _ c.in-Ok-UserData.field-0 _ order c.in-Ok-UserData.field-0-is (c.in-Ok-UserData.ensures.exact order spelled)
    c.provision.ensures.provided

pub returns-in-Ok-Dump-clause-does : goal.returns-in-Ok-Dump-clause-does
returns-in-Ok-Dump-clause-does g c = λ order spelled.
    does_read c.dump.result _ _ c.in-Ok-Dump.field-0 _ order c.in-Ok-Dump.field-0-is (c.in-Ok-Dump.ensures.exact order spelled)
    (inl c.dump.ensures.dumped)

pub returns-in-Ok-Restore-clause-does : goal.returns-in-Ok-Restore-clause-does
returns-in-Ok-Restore-clause-does g c = λ order spelled.
    does_read c.restore.result _ _ c.in-Ok-Restore.field-0 _ order c.in-Ok-Restore.field-0-is (c.in-Ok-Restore.ensures.exact order spelled)
    (inl c.restore.ensures.restored)

pub returns-in-Ok-Forget-clause-does : goal.returns-in-Ok-Forget-clause-does
returns-in-Ok-Forget-clause-does g c = λ order spelled.
    does_read c.forget.result _ _ c.in-Ok-Forget.field-0 _ order c.in-Ok-Forget.field-0-is (c.in-Ok-Forget.ensures.exact order spelled)
    (subst (λ (l : List (List (List ℕ))). Carried (IsForgotten l) c.forget.result (g.D.Disk.told c.args.disk.now) (g.D.Disk.told c.forget.new.disk))
    c.deref-in-Ok-Forget.ensures.value c.forget.ensures.forgotten)

pub returns-in-Ok-Load-clause-does : goal.returns-in-Ok-Load-clause-does
returns-in-Ok-Load-clause-does g c = λ order spelled.
    does_read c.load.result _ _ c.in-Ok-Load.field-0 _ order c.in-Ok-Load.field-0-is (c.in-Ok-Load.ensures.exact order spelled)
    (inl (record { lines = c.load.ensures.loads; memory = c.load.ensures.memory; same = refl }))

pub returns-in-Err-Usage-clause-does : goal.returns-in-Err-Usage-clause-does
returns-in-Err-Usage-clause-does g c = λ order spelled. absurd (cc (c.in-Err-Usage.ensures.exact order spelled))

pub returns-in-Err-Memory-clause-does : goal.returns-in-Err-Memory-clause-does
returns-in-Err-Memory-clause-does g c = λ order spelled. does_nothing _ c.requires.unused order

-- ---- causes

pub returns-in-Ok-Check-clause-spawn_cause : goal.returns-in-Ok-Check-clause-spawn_cause
returns-in-Ok-Check-clause-spawn_cause g c = λ serves_not. cause_none c.check_with.result _ c.check_with.ensures.of_check

pub returns-in-Ok-Migrate-clause-spawn_cause : goal.returns-in-Ok-Migrate-clause-spawn_cause
returns-in-Ok-Migrate-clause-spawn_cause g c = λ serves_not. cause_named c.migrate_to.result _ _ c.migrate_to.ensures.spawn_cause c.migrate_to.ensures.no_door

pub returns-in-Ok-Migrate-clause-spawn_fault : goal.returns-in-Ok-Migrate-clause-spawn_fault
returns-in-Ok-Migrate-clause-spawn_fault g c = λ name is. c.migrate_to.ensures.spawn_cause.failed name is

pub returns-in-Ok-Migrate-clause-door_fault : goal.returns-in-Ok-Migrate-clause-door_fault
returns-in-Ok-Migrate-clause-door_fault g c = λ is. absurd (c.migrate_to.ensures.no_door is)

pub returns-in-Ok-Set-clause-door_fault : goal.returns-in-Ok-Set-clause-door_fault
returns-in-Ok-Set-clause-door_fault g c = λ is. absurd (c.set.ensures.spawn.no_door is)

pub returns-in-Ok-Apply-clause-door_fault : goal.returns-in-Ok-Apply-clause-door_fault
returns-in-Ok-Apply-clause-door_fault g c = λ is. absurd (c.apply.ensures.spawn.no_door is)

pub returns-in-Ok-Verify-clause-spawn_cause : goal.returns-in-Ok-Verify-clause-spawn_cause
returns-in-Ok-Verify-clause-spawn_cause g c = λ serves_not. c.verify.ensures.quiet _

pub returns-in-Ok-Verify-clause-spawn_fault : goal.returns-in-Ok-Verify-clause-spawn_fault
returns-in-Ok-Verify-clause-spawn_fault g c = λ name is. (c.verify.ensures.quiet _).failed name is

pub returns-in-Ok-Verify-clause-door_fault : goal.returns-in-Ok-Verify-clause-door_fault
returns-in-Ok-Verify-clause-door_fault g c = λ is. absurd ((c.verify.ensures.quiet 0).no_door is)

pub returns-in-Ok-Generate-clause-door_fault : goal.returns-in-Ok-Generate-clause-door_fault
returns-in-Ok-Generate-clause-door_fault g c = λ is. absurd (c.generate.ensures.spawn.no_door is)

pub returns-in-Ok-UserData-clause-spawn_cause : goal.returns-in-Ok-UserData-clause-spawn_cause
returns-in-Ok-UserData-clause-spawn_cause g c = λ serves_not. spawn_none c.provision.result _ _ refl c.provision.ensures.unspawned c.provision.ensures.no_door

pub returns-in-Ok-UserData-clause-spawn_fault : goal.returns-in-Ok-UserData-clause-spawn_fault
returns-in-Ok-UserData-clause-spawn_fault g c = λ name is. absurd (c.provision.ensures.unspawned name is)

pub returns-in-Ok-UserData-clause-door_fault : goal.returns-in-Ok-UserData-clause-door_fault
returns-in-Ok-UserData-clause-door_fault g c = λ is. absurd (c.provision.ensures.no_door is)

pub returns-in-Ok-Restore-clause-spawn_cause : goal.returns-in-Ok-Restore-clause-spawn_cause
returns-in-Ok-Restore-clause-spawn_cause g c = λ serves_not. spawn_none c.restore.result _ _ refl c.restore.ensures.unspawned c.restore.ensures.no_door

pub returns-in-Ok-Restore-clause-spawn_fault : goal.returns-in-Ok-Restore-clause-spawn_fault
returns-in-Ok-Restore-clause-spawn_fault g c = λ name is. absurd (c.restore.ensures.unspawned name is)

pub returns-in-Ok-Restore-clause-door_fault : goal.returns-in-Ok-Restore-clause-door_fault
returns-in-Ok-Restore-clause-door_fault g c = λ is. absurd (c.restore.ensures.no_door is)

pub load-requires-clause-some : goal.load-requires-clause-some
load-requires-clause-some g c = (load_in_range (texts c.args.words.now) c.in-Ok-Load.field-0 c.in-Ok-Load.count c.in-Ok-Load.field-0-is
    c.in-Ok-Load.ensures.ok).0

pub load-requires-clause-most : goal.load-requires-clause-most
load-requires-clause-most g c = (load_in_range (texts c.args.words.now) c.in-Ok-Load.field-0 c.in-Ok-Load.count c.in-Ok-Load.field-0-is
    c.in-Ok-Load.ensures.ok).1

pub returns-in-Ok-Load-clause-cause : goal.returns-in-Ok-Load-clause-cause
returns-in-Ok-Load-clause-cause g c = λ serves_not. quiet_cause c.load.result _ _ refl c.load.ensures.memory

pub returns-in-Ok-Load-clause-disk_fault : goal.returns-in-Ok-Load-clause-disk_fault
returns-in-Ok-Load-clause-disk_fault g c = λ is. absurd (memory_alone c.load.result refused.Disk (λ clash. cc clash) c.load.ensures.memory is)

pub returns-in-Ok-Load-clause-spawn_cause : goal.returns-in-Ok-Load-clause-spawn_cause
returns-in-Ok-Load-clause-spawn_cause g c = λ serves_not. memory_spawn c.load.result _ c.load.ensures.memory

pub returns-in-Ok-Load-clause-spawn_fault : goal.returns-in-Ok-Load-clause-spawn_fault
returns-in-Ok-Load-clause-spawn_fault g c = λ name is. absurd (memory_alone c.load.result (refused.Spawn name) (λ clash. cc clash) c.load.ensures.memory is)

pub returns-in-Ok-Load-clause-door_fault : goal.returns-in-Ok-Load-clause-door_fault
returns-in-Ok-Load-clause-door_fault g c = λ is. absurd (memory_alone c.load.result refused.Door (λ clash. cc clash) c.load.ensures.memory is)

pub set-requires : goal.set-requires
set-requires g c = record {
  settings = subst (λ (l : List (List (List ℕ) × Scalar)). All (λ pair. IsTrue (is_prefix settings_key pair.0)) l) (sym c.deref.ensures.value)
      (setting_pairs (texts c.args.words.now) c.in-Ok-Set.pairs.items
      (subst (λ (k : Command). Spells (texts c.args.words.now) (order_of k)) c.in-Ok-Set.field-0-is c.in-Ok-Set.ensures.ok));
}
