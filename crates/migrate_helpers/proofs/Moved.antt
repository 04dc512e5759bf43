-- Values that are moved out of the settings one by one.
use Rattle.std.proofs.Common.{◌≡◌, List, ℕ, Option, Some, None, Bool, true, false, cond, IsSome, option_map, refl, sym, ◌∙◌, ap}
use Rattle.std.specs.Option.{option_map_or, option_or}
use Rattle.std.specs.Ordering.{eq_by_cmp}
use Rattle.std.specs.FinMap.{FinMap, empty, get, get-empty, get-insert, get-remove, insert, remove, same_map}
use Rattle.json_trees.specs.declared.scalar.Scalar.{Scalar}
use Rattle.key_names.specs.Order.{key_cmp, key_total, key_cmp-IsAntisymmetric}
use Rattle.settings_maps.proofs.NestedMaps.{tied_by}
use Rattle.settings_maps.specs.Maps.{HasNoneAfter}
use Rattle.migrate_helpers.specs.Settings.{values_of}
use Rattle.migrate_helpers.specs.Laws.MappedMaps.{get-mapped}
use Rattle.migrate_helpers.specs.declared.setting.Setting.{Setting}

-- The value of a setting that may be missing.
abbrev pub value_of : Option Setting → Option Scalar
value_of found = option_map (λ s. s.value) found

-- At each key is the value of the whole: still among the settings, or already among the values.
abbrev pub Split : FinMap key_cmp Setting → FinMap key_cmp Setting → FinMap key_cmp Scalar → Type 0
Split whole settings values = (k : List (List ℕ)) → option_or (value_of (get settings k)) (get values k) ≡ value_of (get whole k)

or_none : (o : Option Scalar) → option_or o None ≡ o
or_none None = refl
or_none (Some x) = refl

pub split_start : (whole : FinMap key_cmp Setting) (values : FinMap key_cmp Scalar) → values ≡ empty → Split whole whole values
split_start whole values none k = ap (option_or (value_of (get whole k))) (ap (λ (m : FinMap key_cmp Scalar). get m k) none ∙ get-empty key_cmp k)
    ∙ or_none (value_of (get whole k))

moved_there : (k : List (List ℕ)) (x : Setting) (whole settings : FinMap key_cmp Setting) (values : FinMap key_cmp Scalar) → get settings k ≡ Some x
    → Split whole settings values → Split whole (remove settings k) (insert values k x.value)
moved_there k x whole settings values is split q =
    ap (λ o. option_or (value_of o) (get (insert values k x.value) q)) (get-remove key_total settings k q)
    ∙ ap (option_or (value_of (cond (eq_by_cmp key_cmp q k) None (get settings q)))) (get-insert key_total values k x.value q)
    ∙ by (eq_by_cmp key_cmp q k) refl
  where
    by : (b : Bool) → eq_by_cmp key_cmp q k ≡ b → option_or (value_of (cond b None (get settings q))) (cond b (Some x.value) (get values q)) ≡ value_of
        (get whole q)
    by true tie = sym (ap (λ o. option_or (value_of o) (get values k)) is) ∙ split k ∙ ap (λ (p : List (List ℕ)). value_of (get whole p))
        (sym (key_cmp-IsAntisymmetric q k (tied_by _ tie)))
    by false tie = split q

-- With one more value moved, the same is at each key.
pub split_next : (k : List (List ℕ)) (whole settings left : FinMap key_cmp Setting) (values more : FinMap key_cmp Scalar) → IsSome (get settings k)
    → left ≡ remove settings k → more ≡ option_map_or (λ s. insert values k s.value) (get settings k) values
    → Split whole settings values → Split whole left more
split_next k whole settings left values more has taken put split = by (get settings k) refl has put
  where
    by : (o : Option Setting) → get settings k ≡ o → IsSome o → more ≡ option_map_or (λ s. insert values k s.value) o values → Split whole left more
    by None is has put = absurd (cc)
    by (Some x) is has put = λ q. ap (λ (m : FinMap key_cmp Setting). option_or (value_of (get m q)) (get more q)) taken
        ∙ ap (λ (m : FinMap key_cmp Scalar). option_or (value_of (get (remove settings k) q)) (get m q)) put ∙ moved_there k x whole settings values is split q

-- Where no setting is left, the values are those of the whole.
pub split_end : (whole settings : FinMap key_cmp Setting) (values : FinMap key_cmp Scalar) → HasNoneAfter settings None → Split whole settings values
    → values ≡ values_of whole
split_end whole settings values none split = same_map key_total key_cmp-IsAntisymmetric values (values_of whole) (λ k.
    ap (λ o. option_or (value_of o) (get values k)) (sym (none.none k tt)) ∙ split k
    ∙ sym (get-mapped key_total key_cmp-IsAntisymmetric (λ k x. x.value) whole k))
