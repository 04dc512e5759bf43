-- What the entries of the opening step make of what is held.
use Rattle.std.proofs.Common.{◌≡◌, ◌++◌, ℕ, List, [], ◌∷◌, Bool, true, false, cond, append_assoc, refl, sym, ◌∙◌, ap, subst}
use Rattle.std.specs.Str.{bytes_eq}
use Rattle.std.specs.Ordering.{eq_by_cmp}
use Rattle.std.proofs.lemmas.Slice.Eq.{bytes_eq-Decides}
use Rattle.std.proofs.lemmas.Map.Text.{is_eq-slice_cmp}
use Rattle.std.specs.List.{list_all}
use Rattle.std.specs.FinMap.{entries}
use Rattle.key_names.specs.Order.{bytes_cmp}
use Rattle.settings_maps.specs.KeyList.{IsRising}
use Rattle.settings_maps.proofs.RisingKeys.{none_rises}
use Rattle.settings_tree.specs.Content.{Contents, IsContent}
use Rattle.settings_tree.specs.Laid.{laid}
use Rattle.settings_tree.specs.declared.entry.Entry.{Entry}
use Rattle.settings_tree.specs.declared.entry.Entry.TheVariants.{OwedSet, ImageSet}
use Rattle.settings_tree.specs.declared.entry.Owed.{Owed}
use Rattle.settings_tree.specs.declared.entry.Owed.TheVariants as owed
use Rattle.settings_tree.specs.declared.held.Held.{Held}
use Rattle.settings_tree.proofs.LaidAt.{laid-append}
use Rattle.settings_maps.specs.KeyList.{has_key, joined}
use Rattle.settings_maps.proofs.KeySets.{joined_same}
use Rattle.opening_step.specs.Entries.{OwesRising, owed_entries, image_entries, weak_entries}
use Rattle.opening_step.specs.Entries.{opening_entries}
use Rattle.pending_tx.specs.Transactions.{owing}
use Rattle.settings_machine.specs.Opening.{opened_values, added_keys}
use Rattle.opening_step.specs.Step.{MakesStep}
use Rattle.opening_step.proofs.AddedKeys.{added_flat, added_rise}
use Rattle.opening_step.proofs.Parts.{parts_of}
use Rattle.opening_step.proofs.ValuesOpened.{values_laid}
use Rattle.opening_step.proofs.MetadataOpened.{metadata_laid}

abbrev Keys : Type 0
Keys = List (List (List ℕ))

pub all_owes : (o : Owed) → o ≡ owed.All → OwesRising o
all_owes o is = record { rises = λ keys other. absurd (cc (sym is ∙ other)) }

pub keys_owe : (o : Owed) (keys : Keys) → o ≡ owed.Keys keys → IsRising keys → OwesRising o
keys_owe o keys is rises = record { rises = λ more other. subst IsRising (same_keys keys more (sym is ∙ other)) rises } where
  same_keys : (one two : Keys) → owed.Keys one ≡ owed.Keys two → one ≡ two
  same_keys one two e = cc e

-- what is owed after the step
abbrev owed_now : Bool → Keys → Owed → Owed
owed_now all added before = cond all owed.All (owing before added)

owed_laid : (h : Held) (all : Bool) (added : Keys) (before : Owed) → h.owed ≡ before → IsRising added → OwesRising before
    → laid h (owed_entries all added before) ≡ record h { owed = owed_now all added before }
owed_laid h all added owed.All is rises owes = by all where
  by : (b : Bool) → h ≡ record h { owed = cond b owed.All owed.All }
  by true = ap (λ (o : Owed). record h { owed = o }) is
  by false = ap (λ (o : Owed). record h { owed = o }) is
owed_laid h true added (owed.Keys before) is rises owes = refl
owed_laid h false added (owed.Keys before) is rises owes = by (list_all (has_key before) added) refl where
  by : (b : Bool) → list_all (has_key before) added ≡ b → laid h
      (cond b [] (OwedSet (owed.Keys (joined before added)) ∷ [])) ≡ record h { owed = owed.Keys (joined before added) }
  by true all_there = ap (λ (o : Owed). record h { owed = o }) (is ∙ ap owed.Keys (sym (joined_same before added (owes.rises before refl) rises all_there)))
  by false not_all = refl

image_laid : (h : Held) (before text : List ℕ) → h.image ≡ before → laid h (image_entries before text) ≡ record h { image = text }
image_laid h before text is = by (bytes_eq before text) refl where
  by : (b : Bool) → bytes_eq before text ≡ b → laid h (cond b [] (ImageSet text ∷ [])) ≡ record h { image = text }
  by true same = ap (λ (t : List ℕ). record h { image = t }) (is ∙ (bytes_eq-Decides before text).0 same)
  by false other = refl

weak_laid : (h : Held) (weak added : Keys) → h.live.weak ≡ weak → IsRising weak
    → laid h (weak_entries weak added) ≡ record h { live = record h.live { weak = joined weak added } }
weak_laid h weak [] is rises = ap (λ (w : Keys). record h { live = record h.live { weak = w } })
    (is ∙ sym (joined_same weak [] rises (none_rises [] refl) refl))
weak_laid h weak (k ∷ ks) is rises = refl

module _ (boot : Bool) (image : Contents) (text : List ℕ) (h : Held) where
  open (parts_of boot image text h) use {added, all, vs, gs, ms, ds, os, ts, ws}

  abbrev parts : List Entry
  parts = ((vs ++ gs) ++ ms) ++ ds

  abbrev one : Held
  one = record h { live = record h.live { values = opened_values image.values h.live.values } }

  abbrev two : Held
  two = record one { live = record one.live { metadata = image.metadata } }

  abbrev three : Held
  three = record two { owed = owed_now all added h.owed }

  abbrev four : Held
  four = record three { image = text }

  -- The entries that were added part by part.
  pub entries_made : (keys : Keys) (whole : Bool) (none first second third fourth fifth sixth last : List Entry) → keys ≡ added → whole ≡ all → none ≡ []
      → first ≡ none ++ vs → second ≡ first ++ gs → third ≡ second ++ ms → fourth ≡ third ++ ds
      → fifth ≡ fourth ++ owed_entries whole keys h.owed → sixth ≡ fifth ++ ts → last ≡ sixth ++ weak_entries h.live.weak keys
      → last ≡ opening_entries boot image text h
  entries_made keys whole none first second third fourth fifth sixth last is_keys is_whole is_none is_first is_second is_third is_fourth is_fifth is_sixth
      is_last =
      is_last ∙ ap (λ (l : List Entry). l ++ weak_entries h.live.weak keys) (is_sixth
      ∙ ap (λ (l : List Entry). l ++ ts) (is_fifth ∙ ap (λ (l : List Entry). l ++ owed_entries whole keys h.owed)
      (is_fourth ∙ ap (λ (l : List Entry). l ++ ds) (is_third ∙ ap (λ (l : List Entry). l ++ ms) (is_second
      ∙ ap (λ (l : List Entry). l ++ gs) (is_first ∙ ap (λ (l : List Entry). l ++ vs) is_none))))))
      ∙ ap (λ (k : Keys). ((parts ++ owed_entries whole k h.owed) ++ ts) ++ weak_entries h.live.weak k) is_keys
      ∙ ap (λ (b : Bool). ((parts ++ owed_entries b added h.owed) ++ ts) ++ ws) is_whole
      ∙ append_assoc (parts ++ os) ts ws ∙ append_assoc parts os (ts ++ ws)

  parts_laid : IsContent image → IsContent h.live → laid h (((vs ++ gs) ++ ms) ++ ds) ≡ two
  parts_laid is_image is_live =
      laid-append h ((vs ++ gs) ++ ms) ds
      ∙ ap (λ (g : Held). laid g ds) (laid-append h (vs ++ gs) ms ∙ ap (λ (g : Held). laid g ms) (values_laid image.values h))
      ∙ sym (laid-append one ms ds) ∙ metadata_laid image.metadata one is_image.full is_live.full

  singles_laid : IsRising h.live.weak → OwesRising h.owed → laid two (os ++ (ts ++ ws)) ≡
      record four { live = record four.live { weak = joined h.live.weak added } }
  singles_laid weak_rises owes =
      laid-append two os (ts ++ ws)
      ∙ ap (λ (g : Held). laid g (ts ++ ws)) (owed_laid two all added h.owed refl (added_rise added image.values h.live.values refl) owes)
      ∙ laid-append three ts ws
      ∙ ap (λ (g : Held). laid g ws) (image_laid three h.image text refl)
      ∙ weak_laid four h.live.weak added refl weak_rises

  -- What all entries make of what is held.
  pub all_laid : IsContent image → IsContent h.live → IsRising h.live.weak → OwesRising h.owed → laid h (opening_entries boot image text h)
      ≡ record four {
        live = record four.live { weak = joined h.live.weak (added_keys image.values h.live.values) };
        owed =
            owed_now all (added_keys image.values h.live.values) h.owed;
      }
  all_laid is_image is_live weak_rises owes =
      laid-append h (((vs ++ gs) ++ ms) ++ ds) (os ++ (ts ++ ws))
      ∙ ap (λ (g : Held). laid g (os ++ (ts ++ ws))) (parts_laid is_image is_live)
      ∙ singles_laid weak_rises owes
      ∙ ap (λ (keys : Keys). record four { live = record four.live { weak = joined h.live.weak keys }; owed = owed_now all keys h.owed })
      (added_flat h.live.values (entries image.values))

-- All entries together make the opening step.
pub entries_laid : (boot : Bool) (defaults : Contents) (text : List ℕ) (h : Held) → IsContent defaults → IsContent h.live → IsRising h.live.weak
    → OwesRising h.owed
    → MakesStep boot defaults text h (opening_entries boot defaults text h)
entries_laid boot defaults text h is_defaults is_live weak_rises owes = record {
  laid_is = λ I defaults_are text_is. ap (λ (d : Contents). laid h (opening_entries boot d text h)) (sym defaults_are)
      ∙ ap (λ (t : List ℕ). laid h (opening_entries boot I.defaults t h)) (sym text_is)
      ∙ all_laid boot I.defaults I.text h (subst IsContent (sym defaults_are) is_defaults) is_live weak_rises owes;
}

-- The test of texts is that of their order.
pub same_texts : (before text : List ℕ) → eq_by_cmp bytes_cmp before text ≡ bytes_eq before text
same_texts before text = is_eq-slice_cmp before text
