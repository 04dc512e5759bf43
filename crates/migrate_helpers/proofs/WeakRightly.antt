-- Only settings at keys that begin with `settings` are weak, before and after each edit.
use Rattle.std.proofs.Common.{◌≡◌, ◌||◌, ℕ, List, [], ◌∷◌, Option, Some, None, Ok, Bool, true}
use Rattle.std.proofs.Common.{false, cond, not, fold, IsTrue, option_map, unwrap_or, refl, sym, ◌∙◌, ap, subst}
use Rattle.std.specs.Prelude.{All}
use Rattle.std.specs.List.{list_any}
use Rattle.std.specs.Option.{option_map_or}
use Rattle.std.specs.Ordering.{eq_by_cmp}
use Rattle.std.specs.FinMap.{FinMap, get, get-insert, get-remove, insert, remove}
use Rattle.std.proofs.lemmas.Bool.{and_parts}
use Rattle.std.proofs.lemmas.List.Elements.{All-head, All-tail}
use Rattle.key_names.specs.Order.{key_cmp, key_total, key_cmp-IsAntisymmetric}
use Rattle.key_names.specs.Key.{is_prefix}
use Rattle.json_trees.specs.declared.scalar.Scalar.{Scalar}
use Rattle.settings_maps.proofs.NestedMaps.{tied_by}
use Rattle.settings_tree.specs.Content.{Contents, IsContent, MayBeWeak, settings_key}
use Rattle.migrate_helpers.specs.declared.setting.Setting.{Setting}
use Rattle.migrate_helpers.specs.Conflict.{conflict}
use Rattle.migrate_helpers.specs.Entries.{changed, edited, moved, without_prefix}
use Rattle.migrate_helpers.specs.Mapped.{unless_conflict}
use Rattle.migrate_helpers.specs.Settings.{IsWeakRightly, setting_at, setting_of, setting_replaced, settings}
use Rattle.migrate_helpers.specs.Step.{Step}
use Rattle.migrate_helpers.specs.Step.{Stays, Removes, RemovesBelow, Replaces, Renames, RemovesNames, ReplacesName, RemovesWeak}
use Rattle.migrate_helpers.proofs.EditSteps.{get-without}
use Rattle.migrate_helpers.specs.Laws.MappedMaps.{get-mapped}
use Rattle.migrate_helpers.specs.Laws.Refusals.{allowed}

-- What holds of all keys of a list holds of one that ties with one of them.
pub any_all : (P : List (List ℕ) → Type 0) (k : List (List ℕ)) (ws : List (List (List ℕ))) → All P ws → list_any (eq_by_cmp key_cmp k) ws ≡ true → P k
any_all P k [] all is = absurd (cc is)
any_all P k (w ∷ ws) all is = by (eq_by_cmp key_cmp k w) refl is (any_all P k ws (All-tail P w ws all)) where
  by : (b : Bool) → eq_by_cmp key_cmp k w ≡ b → (b || list_any (eq_by_cmp key_cmp k) ws) ≡ true → (list_any (eq_by_cmp key_cmp k) ws ≡ true → P k) → P k
  by true tie any rest = subst P (sym (key_cmp-IsAntisymmetric k w (tied_by _ tie))) (All-head P w ws all)
  by false tie any rest = rest any

same_Some : {A : Type 0} (x y : A) → Some x ≡ Some y → x ≡ y
same_Some x y is = ap (λ o. unwrap_or o x) is

-- A value is a weak setting where its key is one of the weak keys.
pub weakness_of : (ws : List (List (List ℕ))) (k : List (List ℕ)) (z : Option Scalar) (x : Setting) → option_map (setting_of ws k) z ≡ Some x
    → x.weak ≡ list_any (eq_by_cmp key_cmp k) ws
weakness_of ws k None x is = absurd (cc is)
weakness_of ws k (Some v) x is = sym (ap (λ (s : Setting). s.weak) (same_Some (setting_of ws k v) x is))

-- The settings of a content are weak rightly.
pub rightly_made : (c : Contents) (s : FinMap key_cmp Setting) → IsContent c → s ≡ settings c → IsWeakRightly s
rightly_made c s content is = subst IsWeakRightly (sym is) (record {
  begins = λ k x has weak.
      let may : MayBeWeak c.values k = any_all (MayBeWeak c.values) k c.weak content.weak
      (sym (weakness_of c.weak k (get c.values k) x (sym (get-mapped key_total key_cmp-IsAntisymmetric (setting_of c.weak) c.values k) ∙ has)) ∙ weak) in
      may.setting;
})

still : {A : Type 0} (b : Bool) (z : Option A) (x : A) → cond b None z ≡ Some x → z ≡ Some x
still true z x is = absurd (cc is)
still false z x is = is

left : {A : Type 0} (b : Bool) (z : Option A) (x : A) → cond (not b) z None ≡ Some x → z ≡ Some x
left true z x is = absurd (cc is)
left false z x is = is

rightly_remove : (s : FinMap key_cmp Setting) (k : List (List ℕ)) → IsWeakRightly s → IsWeakRightly (remove s k)
rightly_remove s k rightly = record {
  begins = λ q x has weak. rightly.begins q x
      (still (eq_by_cmp key_cmp q k) (get s q) x (sym (get-remove key_total s k q) ∙ has)) weak;
}

rightly_without : (s : FinMap key_cmp Setting) (p : List (List ℕ)) → IsWeakRightly s → IsWeakRightly (without_prefix s p)
rightly_without s p rightly = record { begins = λ q x has weak. rightly.begins q x (left (is_prefix p q) (get s q) x (sym (get-without s p q) ∙ has)) weak }

rightly_insert : (s : FinMap key_cmp Setting) (k : List (List ℕ)) (y : Setting) → IsWeakRightly s → (y.weak ≡ true → IsTrue (is_prefix settings_key k))
    → IsWeakRightly (insert s k y)
rightly_insert s k y rightly here = record {
  begins = λ q x has weak. by q x (eq_by_cmp key_cmp q k) refl (sym (get-insert key_total s k y q) ∙ has) weak;
} where
  by : (q : List (List ℕ)) (x : Setting) (b : Bool) → eq_by_cmp key_cmp q k ≡ b → cond b (Some y) (get s q) ≡ Some x → x.weak ≡ true
      → IsTrue (is_prefix settings_key q)
  by q x true tie is weak = subst (λ (z : List (List ℕ)). IsTrue (is_prefix settings_key z)) (sym (key_cmp-IsAntisymmetric q k (tied_by _ tie)))
      (here (ap (λ (s : Setting). s.weak) (same_Some y x is) ∙ weak))
  by q x false tie is weak = rightly.begins q x is weak

rightly_changed : (old new : List ℕ) (s : FinMap key_cmp Setting) (k : List (List ℕ)) → IsWeakRightly s → IsWeakRightly (changed (setting_replaced old new) s k)
rightly_changed old new s k rightly = by (get s k) refl where
  by : (z : Option Setting) → get s k ≡ z → IsWeakRightly (option_map_or (λ x. insert s k (setting_replaced old new x)) z s)
  by None is = rightly
  by (Some x) is = rightly_insert s k (setting_replaced old new x) rightly (λ weak. rightly.begins k x is weak)

-- A move leaves them weak rightly.
pub rightly_moved : (s : FinMap key_cmp Setting) (pair : List (List ℕ) × List (List ℕ)) → IsWeakRightly s → IsWeakRightly (moved setting_at s pair)
rightly_moved s pair rightly = by (get s pair.0) where
  by : (z : Option Setting) → IsWeakRightly (option_map_or (λ x. insert (remove s pair.0) pair.1 (setting_at pair.1 x)) z s)
  by None = rightly
  by (Some x) = rightly_insert (remove s pair.0) pair.1 (setting_at pair.1 x) (rightly_remove s pair.0 rightly)
      (λ weak. (and_parts x.weak (is_prefix settings_key pair.1) weak).1)

rightly_fold : {E : Type 0} (f : FinMap key_cmp Setting → E → FinMap key_cmp Setting)
    → ((s : FinMap key_cmp Setting) (e : E) → IsWeakRightly s → IsWeakRightly (f s e)) → (es : List E) (s : FinMap key_cmp Setting) → IsWeakRightly s
    → IsWeakRightly (fold f s es)
rightly_fold f step [] s rightly = rightly
rightly_fold f step (e ∷ es) s rightly = rightly_fold f step es (f s e) (step s e rightly)

-- Each edit leaves them weak rightly.
pub rightly_edited : (step : Step) (s : FinMap key_cmp Setting) → IsWeakRightly s → IsWeakRightly (edited setting_at setting_replaced step s)
rightly_edited Stays s rightly = rightly
rightly_edited (Removes keys) s rightly = rightly_fold remove rightly_remove keys s rightly
rightly_edited (RemovesBelow prefixes) s rightly = rightly_fold without_prefix rightly_without prefixes s rightly
rightly_edited (Replaces key old new) s rightly = rightly_changed old new s key rightly
rightly_edited (Renames pairs) s rightly = rightly_fold (moved setting_at) rightly_moved pairs s rightly
rightly_edited (RemovesNames key names) s rightly = rightly
rightly_edited (ReplacesName key name old new) s rightly = rightly
rightly_edited RemovesWeak s rightly = rightly

-- So settings that came without a conflict are weak rightly.
pub rightly_allowed : (step : Step) (s made : FinMap key_cmp Setting) → IsWeakRightly s → unless_conflict (conflict (edited setting_at setting_replaced step s))
    (edited setting_at setting_replaced step s) ≡ Ok made → IsWeakRightly made
rightly_allowed step s made rightly fine = subst IsWeakRightly ((allowed _ (edited setting_at setting_replaced step s) made fine).1)
    (rightly_edited step s rightly)
