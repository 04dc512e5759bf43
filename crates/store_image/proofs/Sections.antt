-- The sections in which the values of a model are.
use Rattle.std.proofs.Common.{◌≡◌, inl, inr, ◌⊎◌, ℕ, List, [], ◌∷◌, codes, Some, None, IsSome, IsTrue, Bool, true, false, cond, refl, sym, subst}
use Rattle.std.specs.FinMap.{FinMap, empty, get, insert, get-empty, get-insert}
use Rattle.std.specs.Ordering.{eq_by_cmp}
use Rattle.key_names.specs.Key.{is_prefix}
use Rattle.key_names.specs.Order.{key_cmp, key_total, key_cmp-IsAntisymmetric}
use Rattle.json_trees.specs.declared.scalar.Scalar.{Scalar}
use Rattle.settings_maps.proofs.NestedMaps.{tied_by}
use Rattle.settings_tree.specs.Content.{Contents, settings_key}
use Rattle.model_file.specs.Checks.{section_entries}
use Rattle.model_file.specs.Contents.{scalars, with_values}
use Rattle.model_file.specs.Model.{Spells}
use Rattle.model_file.specs.declared.model.Model.{Model}
use Rattle.store_image.specs.Image.{AreSections}

abbrev Key : Type 0
Key = List (List ℕ)

module _ (P : Key → Type 0) where
  -- P holds of each key of the map.
  abbrev Each : FinMap key_cmp Scalar → Type 0
  Each values = (q : Key) → IsSome (get values q) → P q

  put_kept : (values : FinMap key_cmp Scalar) (key : Key) (value : Scalar) → Each values → P key → Each (insert values key value)
  put_kept values key value each here q some = by (eq_by_cmp key_cmp q key) refl (subst IsSome (get-insert key_total values key value q) some) where
    by : (b : Bool) → eq_by_cmp key_cmp q key ≡ b → IsSome (cond b (Some value) (get values q)) → P q
    by true e there = subst P (sym (key_cmp-IsAntisymmetric q key (tied_by (key_cmp q key) e))) here
    by false e there = each q there

  section_kept : (name : List ℕ) → ((path : Key) → P (name ∷ path)) → (pairs : List (Key × Scalar)) (values : FinMap key_cmp Scalar) → Each values
      → Each (with_values name pairs values)
  section_kept name named [] values each = each
  section_kept name named ((path, value) ∷ pairs) values each = section_kept name named pairs (insert values (name ∷ path) value)
      (put_kept values (name ∷ path) value each (named path))

  none_there : Each empty
  none_there q some = absurd (is_some_none (subst IsSome (get-empty key_cmp q) some)) where
    is_some_none : IsSome {T = Scalar} None → ⊥
    is_some_none there = cc there

abbrev InSection : Key → Type 0
InSection key = IsTrue (is_prefix settings_key key) ⊎ (IsTrue (is_prefix (codes "services" ∷ []) key)
    ⊎ IsTrue (is_prefix (codes "configuration-files" ∷ []) key))

-- Each value of a model is in a section of values.
pub sections : (text : List ℕ) (model : Model) → Spells text model → AreSections model.content.values
sections text model s q some =
    let d = s.document in
    let settings = scalars (section_entries (codes "settings") d) in
    let services = scalars (section_entries (codes "services") d) in
    let files = scalars (section_entries (codes "configuration-files") d) in
    let one : FinMap key_cmp Scalar = with_values (codes "settings") settings empty in
    let two : FinMap key_cmp Scalar = with_values (codes "services") services one in
    let first = section_kept InSection (codes "settings") (λ path. inl refl) settings empty (none_there InSection) in
    let second = section_kept InSection (codes "services") (λ path. inr (inl refl)) services one first in
    section_kept InSection (codes "configuration-files") (λ path. inr (inr refl)) files two second q
    (subst (λ (c : Contents). IsSome (get c.values q)) s.model_is.content some)
