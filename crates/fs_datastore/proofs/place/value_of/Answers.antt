use Rattle.std.proofs.Common.{rules, ◌++◌, ◌∷◌, [], ℕ, List}
use Rattle.fs_datastore.specs.FoundFiles.{IsKeyOf}
use Rattle.fs_datastore.proofs.PlaceFiles.{no_value, value_place}
use Rattle.fs_datastore.proofs.place.value_of.Goals as goal

pub returns-in-Some : goal.returns-in-Some
returns-in-Some c =
    let key : IsKeyOf (c.args.first.now ++ c.args.last.now ∷ []) c.in-Some.key = search rules in
    record { found = value_place c.args.first.now c.args.last.now c.in-Some.key key }

pub returns-in-None : goal.returns-in-None
returns-in-None c =
    let none : (key : List (List ℕ)) → IsKeyOf (c.args.first.now ++ c.args.last.now ∷ []) key → ⊥ = search rules in
    record { found = no_value c.args.first.now c.args.last.now c.requires none }
