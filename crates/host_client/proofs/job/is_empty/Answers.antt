use Rattle.std.proofs.Common.{arith, ◌≡◌, ◌≢◌, ◌==◌, List, [], ◌∷◌, Option, Bor, Vec, Global, sym, Some, length, refl, ◌∙◌, ap}
use Rattle.std.proofs.lemmas.Bool.{ne_eqb}
use Rattle.std.specs.Prelude.{option_map}
use Rattle.serde_json.specs.View.{items_view}
use Rattle.serde_json.specs.declared.value.Value.{Value}
use Rattle.host_client.specs.Jobs.{is_empty}
use Rattle.host_client.proofs.job.is_empty.Goals as goal

-- a list has no items where its length is 0
empty_items : (vs : List Value) → (length vs == 0) ≡ is_empty (Some (items_view vs))
empty_items [] = refl
empty_items (v ∷ vs) = let some : length (v ∷ vs) ≢ 0 = omega arith in ne_eqb (length (v ∷ vs)) 0 some

pub returns-in-Some : goal.returns-in-Some
returns-in-Some c =
    c.is_empty.ensures ∙ ap (λ (vs : List Value). length vs == 0) c.as_slice.ensures.value ∙ empty_items c.in-Some.list.now.items
    ∙ ap (λ (list : Option (Bor (Vec Value Global))). is_empty (option_map (λ v. items_view v.now.items) list)) (sym c.in-Some.is)
