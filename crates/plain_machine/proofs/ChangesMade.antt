-- Changes of the live settings that are made on a copy, or refused, are those of the machine.
use Rattle.std.proofs.Common.{◌≡◌, List, Option, Some, None, sym, ◌∙◌, ap}
use Rattle.json_trees.specs.declared.pending.Pending.{Pending}
use Rattle.typed_settings.specs.declared.row.Row.{Row}
use Rattle.settings_machine.specs.World.{Key, Image, World}
use Rattle.settings_machine.specs.Refused.{type_refusal}
use Rattle.settings_machine.specs.Requests.{Request, Set, Guarded, KeyList, Reply, Said, Refused}
use Rattle.settings_machine.specs.Step.{Next, stays, noting, applied, set_next}
use Rattle.settings_machine.specs.Step.{answered, request_next}
use Rattle.settings_machine.specs.Typed.{Wanted, first_wanted}
use Rattle.settings_machine.specs.declared.refusal.Refusal.{Refusal}
use Rattle.settings_machine.specs.declared.refusal.Refusal.TheVariants.{BadType}
use Rattle.plain_machine.specs.Changes.{after_set, IsTaken, IsGuardedBy}
use Rattle.plain_machine.specs.Steps.{HoldsImage, IsAsked}
use Rattle.plain_machine.specs.Worlds.{world_of}
use Rattle.plain_machine.specs.declared.after.After.{After}
use Rattle.plain_machine.specs.declared.image.PlainImage.{PlainImage}
use Rattle.plain_machine.specs.declared.machine.PlainMachine.{PlainMachine}

-- ---- pairs that are set at once

module _ (image : PlainImage) (old : PlainMachine) (pairs : List (Key × Pending)) where
  pub asked_set : (new : PlainMachine) (all : List Key) → first_wanted image.types pairs ≡ None → (after : After) → after ≡ after_set old.held pairs
      → IsTaken image old after new → all ≡ after.keys → IsAsked image old (Set pairs) new (Said (KeyList all))
  unfolding request_next
  asked_set new all none after is taken are = record {
    world = λ I holds. taken I holds
        ∙ ap (λ (a : After). applied I (record (world_of old) { held = a.held; job = noting (world_of old).job a.changed })) is
        ∙ sym (ap (λ (o : Option Wanted). (set_next I (world_of old) pairs o).world) (wanted_none I holds));
    says = λ I holds. ap (λ (o : Option Wanted). (set_next I (world_of old) pairs o).reply) (wanted_none I holds)
        ∙ sym (ap (λ (l : List Key). Said (KeyList l)) (are ∙ ap (λ (a : After). a.keys) is));
  } where
    wanted_none : (I : Image) → HoldsImage I image → first_wanted I.types pairs ≡ None
    wanted_none I holds = ap (λ (t : List Row). first_wanted t pairs) (sym holds.types_are) ∙ none

  set_refused : (I : Image) (W : World) (r : Refusal) → Some r ≡ type_refusal (first_wanted I.types pairs) → answered I W (Set pairs) ≡ stays W (Refused r)
  set_refused I W r = by (first_wanted I.types pairs) where
    by : (o : Option Wanted) → Some r ≡ type_refusal o → set_next I W pairs o ≡ stays W (Refused r)
    by None is = absurd (cc is)
    by (Some w) is = let same : r ≡ BadType w.0 w.1 = cc is in ap (λ (x : Refusal). stays W (Refused x)) (sym same)

  pub asked_set_refused : (r : Refusal) → Some r ≡ type_refusal (first_wanted image.types pairs) → IsAsked image old (Set pairs) old (Refused r)
  unfolding request_next
  asked_set_refused r is = record {
    world = λ I holds. sym (ap (λ (n : Next). n.world) (at I holds));
    says = λ I holds. ap (λ (n : Next). n.reply) (at I holds);
  } where
    at : (I : Image) → HoldsImage I image → answered I (world_of old) (Set pairs) ≡ stays (world_of old) (Refused r)
    at I holds = set_refused I (world_of old) r (is ∙ ap (λ (t : List Row). type_refusal (first_wanted t pairs)) holds.types_are)

-- ---- guarded changes

module _ (image : PlainImage) (old : PlainMachine) (q : Request) where
  -- What the guard lets pass is made,
  pub asked_guarded : IsGuardedBy image old q None → (new : PlainMachine) (reply : Reply) → IsAsked image old q new reply
      → IsAsked image old (Guarded q) new reply
  unfolding request_next
  asked_guarded lets new reply asked = record {
    world = λ I holds. asked.world I holds ∙ sym (ap (λ (n : Next). n.world) (lets I holds));
    says = λ I holds. ap (λ (n : Next). n.reply) (lets I holds) ∙ asked.says I holds;
  }

  -- and nothing changes where it refuses.
  pub asked_stopped : (r : Refusal) → IsGuardedBy image old q (Some r) → IsAsked image old (Guarded q) old (Refused r)
  unfolding request_next
  asked_stopped r stops = record {
    world = λ I holds. sym (ap (λ (n : Next). n.world) (stops I holds));
    says = λ I holds. ap (λ (n : Next). n.reply) (stops I holds);
  }
