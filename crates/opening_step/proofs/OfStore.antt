-- Keys of the store, and those of an image.
use Rattle.std.proofs.Common.{◌≡◌, ℕ, List, [], ◌∷◌, Bool, true, false, not, refl, sym, ap}
use Rattle.std.specs.Prelude.{codes}
use Rattle.std.specs.Ordering.{eq_by_cmp}
use Rattle.std.proofs.lemmas.Bool.{and_parts}
use Rattle.key_names.specs.Key.{is_prefix}
use Rattle.key_names.specs.Order.{bytes_cmp}
use Rattle.settings_tree.specs.Content.{settings_key}
use Rattle.settings_machine.specs.Typed.{is_of_image}
use Rattle.settings_machine.specs.Opening.{is_of_store}
use Rattle.settings_machine.proofs.Elements.{name_tied}

abbrev Key : Type 0
Key = List (List ℕ)

-- a setting is not of the image
not_of_image : (q : Key) → is_prefix settings_key q ≡ true → is_of_image q ≡ false
not_of_image [] setting = absurd (cc setting)
not_of_image (n ∷ q) setting = let both = and_parts (eq_by_cmp bytes_cmp (codes "settings") n) (is_prefix [] q) setting in
    ap (λ (m : List ℕ). is_of_image (m ∷ q)) (sym (name_tied (codes "settings") n both.0))

-- a setting is of the store
pub setting_of_store : (q : Key) → is_prefix settings_key q ≡ true → is_of_store q ≡ true
setting_of_store q setting = ap not (not_of_image q setting)

-- what is of the store is not of the image
pub store_not_image : (q : Key) → is_of_store q ≡ true → is_of_image q ≡ false
store_not_image q store = by (is_of_image q) store where
  by : (b : Bool) → not b ≡ true → b ≡ false
  by false e = refl
  by true e = absurd (cc e)
