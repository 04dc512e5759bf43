-- What the calls without a disk make is what the machine makes.
use Rattle.std.proofs.Common.{◌≡◌, ℕ, List, Option, Some, None, sym, ◌∙◌, ap}
use Rattle.json_trees.specs.declared.pending.Pending.{Pending}
use Rattle.settings_tree.specs.declared.held.Held.{Held}
use Rattle.pending_tx.specs.Transactions.{keys_of, dropped, patched}
use Rattle.typed_settings.specs.declared.row.Row.{Row}
use Rattle.settings_machine.specs.World.{Key, Image, World}
use Rattle.settings_machine.specs.Typed.{Wanted, first_wanted}
use Rattle.settings_machine.specs.Requests.{Patch, DropTx}
use Rattle.settings_machine.specs.Refused.{type_refusal}
use Rattle.settings_machine.specs.Requests.{Refused}
use Rattle.settings_machine.specs.Step.{Next, stays, patch_next, answered, request_next}
use Rattle.settings_machine.specs.declared.refusal.Refusal.{Refusal}
use Rattle.settings_machine.proofs.Refusals.{patch_refused}
use Rattle.plain_machine.specs.Plain.{IsAnswered, patch_reply, keys_reply}

module _ (types : List Row) (old : Held) (tx : List ℕ) where
  module _ (pairs : List (Key × Pending)) where
    -- One of them is refused.
    pub refused_is : (r : Refusal) → Some r ≡ type_refusal (first_wanted types pairs) → IsAnswered types old (Patch tx pairs) old (patch_reply (Some r))
    unfolding request_next
    refused_is r is = record {
      makes = λ I W same held. ap (λ (n : Next). n.world.held) (at I W same) ∙ held;
      says = λ I W same held. ap (λ (n : Next). n.reply) (at I W same);
    } where
      at : (I : Image) (W : World) → I.types ≡ types → answered I W (Patch tx pairs) ≡ stays W (Refused r)
      at I W same = patch_refused I W tx pairs r (is ∙ ap (λ (t : List Row). type_refusal (first_wanted t pairs)) (sym same))

    pub pended_is : (new : Held) → first_wanted types pairs ≡ None → new ≡ patched old tx pairs → IsAnswered types old (Patch tx pairs) new (patch_reply None)
    unfolding request_next
    pended_is new is laid = record {
      makes = λ I W same held. ap (λ (o : Option Wanted). (patch_next W tx pairs o).world.held) (wanted_none I same)
          ∙ ap (λ (h : Held). patched h tx pairs) held
          ∙ sym laid;
      says = λ I W same held. ap (λ (o : Option Wanted). (patch_next W tx pairs o).reply) (wanted_none I same);
    } where
      wanted_none : (I : Image) → I.types ≡ types → first_wanted I.types pairs ≡ None
      wanted_none I same = ap (λ (t : List Row). first_wanted t pairs) same ∙ is

  pub dropped_is : (new : Held) (keys : List Key) → new ≡ dropped old tx → keys ≡ keys_of old tx → IsAnswered types old (DropTx tx) new (keys_reply keys)
  unfolding request_next
  dropped_is new keys laid are = record {
    makes = λ I W same held. ap (λ (h : Held). dropped h tx) held ∙ sym laid;
    says = λ I W same held. ap (λ (h : Held). keys_reply (keys_of h tx)) held ∙ ap keys_reply (sym are);
  }
