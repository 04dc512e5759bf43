-- Patches that the types refuse, and those that they don't.
use Rattle.std.proofs.Common.{◌≡◌, ℕ, List, Option, Some, None, refl, sym, ap}
use Rattle.json_trees.specs.declared.pending.Pending.{Pending}
use Rattle.settings_machine.specs.World.{Key, Image, World}
use Rattle.settings_machine.specs.Typed.{Wanted, first_wanted}
use Rattle.settings_machine.specs.Refused.{type_refusal}
use Rattle.settings_machine.specs.Requests.{Patch, Refused}
use Rattle.settings_machine.specs.Step.{stays, patch_next, answered}
use Rattle.settings_machine.specs.declared.refusal.Refusal.{Refusal}
use Rattle.settings_machine.specs.declared.refusal.Refusal.TheVariants.{BadType}

-- A refused patch changes nothing, and is answered by its refusal.
pub patch_refused : (I : Image) (W : World) (tx : List ℕ) (pairs : List (Key × Pending)) (r : Refusal) → Some r ≡ type_refusal (first_wanted I.types pairs)
    → answered I W (Patch tx pairs) ≡ stays W (Refused r)
patch_refused I W tx pairs r = by (first_wanted I.types pairs) where
  by : (o : Option Wanted) → Some r ≡ type_refusal o → patch_next W tx pairs o ≡ stays W (Refused r)
  by None is = absurd (cc is)
  by (Some w) is = let same : r ≡ BadType w.0 w.1 = cc is in ap (λ (x : Refusal). stays W (Refused x)) (sym same)

-- Where none is refused, nothing else is wanted.
pub nothing_wanted : (o : Option Wanted) → None ≡ type_refusal o → o ≡ None
nothing_wanted None is = refl
nothing_wanted (Some w) is = absurd (cc is)
