-- Metadata names that are removed one after another.
use Rattle.std.proofs.Common.{◌≡◌, ◌<◌, ◌≤◌, ◌+◌, ℕ, List, length, take, get_or, refl, ◌∙◌, ap}
use Rattle.std.specs.FinMap.{FinMap}
use Rattle.std.proofs.lemmas.List.{take_all}
use Rattle.key_names.specs.Order.{bytes_cmp, key_cmp}
use Rattle.json_trees.specs.declared.scalar.Scalar.{Scalar}
use Rattle.settings_maps.specs.Maps.{without_value}
use Rattle.settings_tree.specs.Content.{Contents}
use Rattle.migrate_helpers.specs.Mapped.{without_names}
use Rattle.migrate_helpers.proofs.EditSteps.{folded_more}

-- One more name is removed.
pub names_more : (f m n : Contents) (key : List (List ℕ)) (names : List (List ℕ)) (i : ℕ) (name t : List ℕ)
    → m ≡ record f { metadata = without_names f.metadata key (take i names) } → i < length names → name ≡ get_or names i name
    → n ≡ record m { metadata = without_value m.metadata key t } → t ≡ name → n ≡ record f { metadata = without_names f.metadata key (take (i + 1) names) }
names_more f m n key names i name t is low item gone same = gone ∙ ap (λ (s : List ℕ). record m { metadata = without_value m.metadata key s }) same
    ∙ ap (λ (c : Contents). record c { metadata = without_value c.metadata key name }) is
    ∙ ap (λ (d : FinMap key_cmp (FinMap bytes_cmp Scalar)). record f { metadata = d })
    (folded_more (λ (d : FinMap key_cmp (FinMap bytes_cmp Scalar)) (n : List ℕ). without_value d key n) f.metadata (without_names f.metadata key (take i names))
    _ names i name refl low item refl)

-- All names are removed.
pub names_all : (f m : Contents) (key : List (List ℕ)) (names : List (List ℕ)) (i : ℕ) → m ≡ record f { metadata = without_names f.metadata key (take i names) }
    → length names ≤ i → m ≡ record f { metadata = without_names f.metadata key names }
names_all f m key names i is all = is ∙ ap (λ (l : List (List ℕ)). record f { metadata = without_names f.metadata key l }) (take_all i names all)
