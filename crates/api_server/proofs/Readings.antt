-- One read of a connection.
use Rattle.std.proofs.Common.{◌≡◌, ℕ, List, [], ◌++◌, take, Option, Ok, Err, inl, inr, sym, ◌∙◌, ap, subst}
use Rattle.outside.specs.Exchange.{Exchange, Hears}
use Rattle.outside.specs.Door.{LastBy}
use Rattle.outside.specs.Told.{Moves}
use Rattle.api_server.specs.Reading.{IsRead, IsStopped}
use Rattle.api_server.proofs.Lasts.{lasts_map}

read_bytes : (E : Type 0) (room : List ℕ) (count : ℕ) (old new : Exchange) → Hears {E = E} room (Ok count) old new → IsRead (take count room) old new
read_bytes E room count old new hears = record { split = hears.split; heard = hears.heard; written = hears.written; failed = hears.failed }

-- no byte came
pub read_end : (E : Type 0) (room : List ℕ) (count : ℕ) (a b : Option (List Exchange)) → count ≡ 0 → Moves a b (LastBy (Hears {E = E} room (Ok count)))
    → Moves a b (LastBy IsStopped)
read_end E room count a b none m = lasts_map (λ old new hears.
    let nothing : take count room ≡ [] = ap (λ k. take k room) none in
    let same : old.left ≡ new.left = hears.split ∙ ap (λ (l : List ℕ). l ++ new.left) nothing in
    inl (subst (λ (l : List ℕ). IsRead l old new) nothing (read_bytes E room count old new hears), sym same ∙ hears.end.0 nothing)) m

-- the read failed
pub read_failed : {E : Type 0} (room : List ℕ) (e : E) (a b : Option (List Exchange)) → Moves a b (LastBy (Hears room (Err e))) → Moves a b (LastBy IsStopped)
read_failed room e a b m = lasts_map (λ old new hears. inr hears) m

pub ruleset readings = (read_failed, read_end)
