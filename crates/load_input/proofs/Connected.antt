-- The one connection of a door.
use Rattle.std.proofs.Common.{◌≡◌, Bool, true, List, [], ◌∷◌, Result, Ok, sym, ◌∙◌, ap}
use Rattle.outside.specs.Exchange.{Exchange, fresh}
use Rattle.outside.specs.declared.disk_error.Failed.{Failed}
use Rattle.disk_memory.specs.Door.{inputs_of, exchanges_of, IsUnused, TakesInput}
use Rattle.disk_memory.specs.Pieces.{joined}
use Rattle.disk_memory.specs.declared.input.Input.{Input}
use Rattle.disk_memory.specs.declared.door.MemoryDoor.{MemoryDoor}

first_input : (x y : Input) (xs ys : List Input) → x ∷ xs ≡ y ∷ ys → x ≡ y
first_input x y xs ys e = cc

-- It is accepted with all of its bytes to come.
pub connected : (old new : MemoryDoor) (came : Result Bool Failed) → IsUnused old → TakesInput old new came → came ≡ Ok true → (input : Input)
    → inputs_of old ≡ input ∷ []
    → exchanges_of new ≡ fresh (joined input.pieces.items) ∷ []
connected old new came unused takes is input one =
    let next = takes.next is in
    let same : next.0 ≡ input = first_input next.0 input (inputs_of new) [] (sym next.2 ∙ one) in
    next.5 ∙ ap (λ (i : Input). fresh (joined i.pieces.items) ∷ exchanges_of old) same
    ∙ ap (λ (l : List Exchange). fresh (joined input.pieces.items) ∷ l) unused.exchanges
