-- The opening step sets and takes away no weak key.
use Rattle.std.proofs.Common.{◌≡◌, ◌&&◌, ℕ, List, [], ◌∷◌, Option, Some, None, IsSome, Bool, true, false, cond, not, refl, sym, ◌∙◌}
use Rattle.std.proofs.Common.{ap}
use Rattle.std.specs.List.{flat_map}
use Rattle.std.specs.Ordering.{eq_by_cmp}
use Rattle.std.specs.FinMap.{FinMap, get, entries}
use Rattle.key_names.specs.Order.{bytes_cmp, key_cmp}
use Rattle.json_trees.specs.declared.scalar.Scalar.{Scalar}
use Rattle.settings_maps.specs.Maps.{value_at}
use Rattle.settings_tree.specs.Change.{Live, is_unnamed}
use Rattle.settings_tree.specs.Content.{Contents, IsContent, MayBeWeak}
use Rattle.settings_tree.specs.Laid.{TellsWeak}
use Rattle.settings_tree.specs.declared.entry.Entry.{Entry}
use Rattle.settings_tree.specs.declared.entry.Entry.TheVariants.{LiveSet, LiveGone, MetaSet, MetaGone}
use Rattle.settings_tree.specs.declared.held.Held.{Held}
use Rattle.opening_step.specs.Entries.{is_wanted, is_absent, differs, value_entries, gone_entries}
use Rattle.opening_step.specs.Entries.{name_entries, key_entries, gone_name_entries, gone_key_entries}
use Rattle.opening_step.specs.Entries.{opening_entries}
use Rattle.settings_machine.specs.Opening.{is_of_store}
use Rattle.pending_tx.proofs.Named.{unnamed-append}
use Rattle.opening_step.proofs.OfStore.{setting_of_store}
use Rattle.opening_step.proofs.OnceNamed.{un_singles}
use Rattle.opening_step.proofs.Parts.{flat_all, parts_of, all_parts}
use Rattle.settings_machine.proofs.Elements.{key_tied}

abbrev Key : Type 0
Key = List (List ℕ)

-- An entry of metadata names no live value.
un_name : (k : Key) (live : FinMap key_cmp (FinMap bytes_cmp Scalar)) (key : Key) (e : List ℕ × Scalar) → is_unnamed (Live k) (name_entries live key e) ≡ true
un_name k live key e = by (differs e.1 (value_at live key e.0)) where
  by : (b : Bool) → is_unnamed (Live k) (cond b (MetaSet key e.0 e.1 ∷ []) []) ≡ true
  by true = refl
  by false = refl

un_gone_name : (k : Key) (image : FinMap key_cmp (FinMap bytes_cmp Scalar)) (key : Key) (name : List ℕ)
    → is_unnamed (Live k) (gone_name_entries image key name) ≡ true
un_gone_name k image key name = by (is_absent (value_at image key name)) where
  by : (b : Bool) → is_unnamed (Live k) (cond b (MetaGone key name ∷ []) []) ≡ true
  by true = refl
  by false = refl

not_wanted : (v : Scalar) (o : Option Scalar) → IsSome o → is_wanted true v o ≡ false
not_wanted v None some = absurd (cc some)
not_wanted v (Some w) some = refl

module _ (boot : Bool) (image : Contents) (text : List ℕ) (h : Held) where
  open (parts_of boot image text h) use {added, all}

  module _ (k : Key) (may : MayBeWeak h.live.values k) where
    un_value : (e : Key × Scalar) → is_unnamed (Live k) (value_entries h.live.values e) ≡ true
    un_value e = by (is_wanted (is_of_store e.0) e.1 (get h.live.values e.0)) refl (eq_by_cmp key_cmp k e.0) refl where
      by : (b : Bool) → is_wanted (is_of_store e.0) e.1 (get h.live.values e.0) ≡ b → (c : Bool) → eq_by_cmp key_cmp k e.0 ≡ c
          → is_unnamed (Live k) (cond b (LiveSet e.0 e.1 ∷ []) []) ≡ true
      by false wanted c is = refl
      by true wanted false is = ap (λ (b : Bool). not b && true) is
      by true wanted true is = absurd (cc (sym wanted ∙ ap (λ (q : Key). is_wanted (is_of_store q) e.1 (get h.live.values q)) (sym (key_tied k e.0 is))
          ∙ ap (λ (s : Bool). is_wanted s e.1 (get h.live.values k)) (setting_of_store k may.setting) ∙ not_wanted e.1 (get h.live.values k) may.stands))

    un_gone : (e : Key × Scalar) → is_unnamed (Live k) (gone_entries image.values e.0) ≡ true
    un_gone e = by (not (is_of_store e.0) && is_absent (get image.values e.0)) refl (eq_by_cmp key_cmp k e.0) refl where
      by : (b : Bool) → (not (is_of_store e.0) && is_absent (get image.values e.0)) ≡ b → (c : Bool) → eq_by_cmp key_cmp k e.0 ≡ c
          → is_unnamed (Live k) (cond b (LiveGone e.0 ∷ []) []) ≡ true
      by false gone c is = refl
      by true gone false is = ap (λ (b : Bool). not b && true) is
      by true gone true is = absurd (cc (sym gone ∙ ap (λ (q : Key). not (is_of_store q) && is_absent (get image.values e.0)) (sym (key_tied k e.0 is))
          ∙ ap (λ (s : Bool). not s && is_absent (get image.values e.0)) (setting_of_store k may.setting)))

    abbrev Unnamed : List Entry → Type 0
    Unnamed es = is_unnamed (Live k) es ≡ true

    un-flat : {X : Type 0} (f : X → List Entry) (xs : List X) → ((x : X) → Unnamed (f x)) → Unnamed (flat_map f xs)
    un-flat f xs each = flat_all Unnamed refl (unnamed-append (Live k)) f xs each

    un_all : Unnamed (opening_entries boot image text h)
    un_all =
        all_parts Unnamed (unnamed-append (Live k)) boot image text h
        (un-flat (value_entries h.live.values) (entries image.values) un_value)
        (un-flat (λ e. gone_entries image.values e.0) (entries h.live.values) un_gone)
        (un-flat (key_entries h.live.metadata) (entries image.metadata)
        (λ e. un-flat (name_entries h.live.metadata e.0) (entries e.1) (un_name k h.live.metadata e.0)))
        (un-flat (gone_key_entries image.metadata) (entries h.live.metadata)
        (λ e. un-flat (λ n. gone_name_entries image.metadata e.0 n.0) (entries e.1) (λ n. un_gone_name k image.metadata e.0 n.0)))
        (un_singles all added h.owed h.image text h.live.weak (Live k) (record { owed = refl; image = refl; weak = refl }))

  -- No weak key is named.
  pub opening_told : IsContent h.live → TellsWeak h (opening_entries boot image text h)
  opening_told is_live = record { told = λ unnamed i d low. un_all _ (is_live.weak i d low) }
