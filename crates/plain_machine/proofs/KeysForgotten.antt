-- What forgetting keys makes of a machine's parts is what it makes of the world, and what is held stays typed.
use Rattle.std.proofs.Common.{◌≡◌, ℕ, Bool, true, false, List, Some, None, refl, sym, ◌∙◌, ap}
use Rattle.std.specs.FinMap.{get}
use Rattle.std.proofs.lemmas.Bool.{cond-true, cond-false}
use Rattle.json_trees.specs.declared.pending.Pending.{Pending}
use Rattle.json_trees.specs.declared.scalar.Scalar.{Scalar}
use Rattle.settings_maps.specs.KeyList.{has_key}
use Rattle.settings_maps.specs.Maps.{value_at}
use Rattle.settings_tree.specs.declared.held.Held.{Held}
use Rattle.pending_tx.specs.Transactions.{changed_in, last_of, removals, rising, forgotten}
use Rattle.pending_tx.proofs.Forgets.{forgotten_live, forgotten_pending}
use Rattle.typed_settings.specs.Row.{IsTyped}
use Rattle.typed_settings.specs.declared.row.Row.{Row}
use Rattle.settings_machine.specs.World.{Key, Job, Idle, Failed, Running, is_running}
use Rattle.settings_machine.specs.Step.{with_held, noting}
use Rattle.settings_machine.specs.JobSeen.{job_seen}
use Rattle.settings_machine.specs.Typed.{is_of_image, MayPend, IsTypedHeld}
use Rattle.plain_machine.specs.Steps.{Forgets}
use Rattle.plain_machine.specs.Worlds.{world_of}
use Rattle.plain_machine.specs.declared.machine.PlainMachine.{PlainMachine}

-- A job that doesn't run notes nothing.
noting_rests : (j : Job) (keys : List Key) → is_running j ≡ false → noting j keys ≡ j
noting_rests Idle keys still = refl
noting_rests (Failed c) keys still = refl
noting_rests (Running w) keys still = absurd (cc still)

-- Keys that are forgotten in what is held are forgotten in the world, where no job runs.
pub forgot_is : (old new : PlainMachine) (keys : List Key) → new.held ≡ forgotten old.held (rising keys)
    → world_of new ≡ with_held (world_of old) new.held → Forgets old keys new None
forgot_is old new keys is stays still I = stays ∙ ap (with_held (world_of old)) is
    ∙ ap (λ (j : Job). record (with_held (world_of old) (forgotten old.held (rising keys))) { job = j })
    (sym (noting_rests (job_seen old.job) (changed_in old.held (last_of (removals (rising keys)))) still))

-- What is left is what was there before.
module _ (types : List Row) (held : Held) (keys : List Key) (typed : IsTypedHeld types held) where
  live : (key : Key) (value : Scalar) → get (forgotten held keys).live.values key ≡ Some value → is_of_image key ≡ false
      → (b : Bool) → has_key keys key ≡ b → IsTyped types key value
  live key value is own true named = absurd (cc (is, forgotten_live held keys key ∙ cond-true _ _ _ named))
  live key value is own false other = typed.settings.typed key value (sym (forgotten_live held keys key ∙ cond-false _ _ _ other) ∙ is) own

  kept : (tx : List ℕ) (key : Key) (p : Pending) → value_at (forgotten held keys).pending tx key ≡ Some p → (b : Bool) → has_key keys key ≡ b
      → MayPend types key p
  kept tx key p is true named = absurd (cc (is, forgotten_pending held keys tx key ∙ cond-true _ _ _ named))
  kept tx key p is false other = typed.pending tx key p (sym (forgotten_pending held keys tx key ∙ cond-false _ _ _ other) ∙ is)

  pub forgotten_typed : IsTypedHeld types (forgotten held keys)
  forgotten_typed = record {
    settings = record { typed = λ key value is own. live key value is own (has_key keys key) refl };
    pending = λ tx key p is. kept tx key p is (has_key keys key) refl;
  }
