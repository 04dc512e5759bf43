use Rattle.std.proofs.Common.{rules, ◌≡◌, ◌++◌, ◌∷◌, [], ℕ, List}
use Rattle.std.specs.Prelude.{IsTrue}
use Rattle.settings_maps.specs.TxName.{is_meta_name}
use Rattle.fs_datastore.specs.FoundFiles.{IsKeyOf}
use Rattle.fs_datastore.proofs.PlaceFiles.{no_meta_key, no_meta_name, meta_place}
use Rattle.fs_datastore.proofs.place.meta_of.Goals as goal

pub returns-in_default : goal.returns-in_default
returns-in_default c =
    let none : (key : List (List ℕ)) → IsKeyOf (c.args.first.now ++ c.args.last.now ∷ []) key → ⊥ = search rules in
    record { found = no_meta_key c.args.first.now c.args.last.now c.args.name.now c.requires none }

pub returns-in-Some-2 : goal.returns-in-Some-2
returns-in-Some-2 c =
    let key : IsKeyOf (c.args.first.now ++ c.args.last.now ∷ []) c.in-Some.key = search rules in
    let name : (c.in-Some-2.name ≡ c.args.name.now) × IsTrue (is_meta_name c.args.name.now) = search rules in
    record { found = meta_place c.args.first.now c.args.last.now c.args.name.now c.in-Some-2.name c.in-Some.key key name }

pub returns-in-None : goal.returns-in-None
returns-in-None c =
    let none : (n : List ℕ) → (n ≡ c.args.name.now) × IsTrue (is_meta_name c.args.name.now) → ⊥ = search rules in
    record { found = no_meta_name c.args.first.now c.args.last.now c.args.name.now c.requires none }
