-- The laws of forgetting.
use Rattle.std.proofs.Common.{◌≡◌, inl, inr, ⊎_elim, ℕ, Bool, true, false, List, [], ◌∷◌, Some, None, is_some, refl, sym, ◌∙◌, ap, subst}
use Rattle.std.specs.FinMap.{get}
use Rattle.std.specs.Str.{bytes_eq}
use Rattle.std.proofs.lemmas.Bool.{cases_Bool, cond-true, cond-false, or_right}
use Rattle.std.proofs.lemmas.Slice.Eq.{bytes_eq-Decides}
use Rattle.json_trees.specs.declared.pending.Pending.{Pending}
use Rattle.json_trees.specs.declared.scalar.Scalar.{Scalar}
use Rattle.settings_tree.specs.declared.entry.Owed.{Owed}
use Rattle.settings_tree.specs.declared.entry.Owed.TheVariants as owed
use Rattle.settings_tree.specs.declared.held.Held.{Held}
use Rattle.settings_maps.specs.KeyList.{has_key}
use Rattle.settings_maps.specs.Maps.{value_at}
use Rattle.settings_maps.proofs.Merged.{has_key-merged}
use Rattle.pending_tx.specs.Transactions.{changed_in, last_of, removals, forgotten, owing}
use Rattle.pending_tx.proofs.Forgets.{forgotten_live, forgotten_pending}
use Rattle.metadata_links.specs.Links.{files_of}
use Rattle.typed_settings.specs.Row.{IsTyped}
use Rattle.settings_machine.specs.World.{Key, Among, Image, World, is_running}
use Rattle.settings_machine.specs.Typed.{is_of_image, MayPend}
use Rattle.settings_machine.specs.Events.{Forgot, next}
use Rattle.settings_machine.specs.Covered.{IsCovered}
use Rattle.settings_machine.specs.Paid.{IsWithin, IsPaid, IsGood}
use Rattle.settings_machine.specs.Forgetting.{ForgettingForgets, ForgettingMendsTypes, ForgettingPays}
use Rattle.settings_machine.proofs.Elements.{key_among}
use Rattle.settings_machine.proofs.Coverage.{DifferOnlyAt}
use Rattle.settings_machine.proofs.Paying.{Notes, owing_more, overlaid_differs, noted_files}
use Rattle.settings_machine.proofs.Lasting.{covered_all}
use Rattle.settings_machine.proofs.PaidLaws.{no_paying, still, IsThis, this_covered, owed_or_current, due_or_current}

-- ---- what is forgotten

-- The keys that had a live value.
abbrev lost : Held → List Key → List Key
lost h keys = changed_in h (last_of (removals keys))

module _ (h : Held) (keys : List Key) where
  live_differs : DifferOnlyAt (lost h keys) h.live (forgotten h keys).live
  live_differs = overlaid_differs h (last_of (removals keys))

  named_live : (key : Key) → has_key keys key ≡ true → get (forgotten h keys).live.values key ≡ None
  named_live key is = forgotten_live h keys key ∙ cond-true _ _ _ is

  other_live : (key : Key) → has_key keys key ≡ false → get (forgotten h keys).live.values key ≡ get h.live.values key
  other_live key is = forgotten_live h keys key ∙ cond-false _ _ _ is

  named_pending : (tx : List ℕ) (key : Key) → has_key keys key ≡ true → value_at (forgotten h keys).pending tx key ≡ None
  named_pending tx key is = forgotten_pending h keys tx key ∙ cond-true _ _ _ is

  other_pending : (tx : List ℕ) (key : Key) → has_key keys key ≡ false → value_at (forgotten h keys).pending tx key ≡ value_at h.pending tx key
  other_pending tx key is = forgotten_pending h keys tx key ∙ cond-false _ _ _ is

  -- A key that is named and had a live value is one of those.
  was_lost : (key : Key) → has_key keys key ≡ true → is_some (get h.live.values key) ≡ true → has_key (lost h keys) key ≡ true
  was_lost key named some = ⊎_elim (λ yes'. yes')
      (λ no'. absurd (cc (some, ap is_some (live_differs.same key no' ∙ named_live key named))))
      (cases_Bool (has_key (lost h keys) key))

is_within : (o : Owed) (noted : List Key) (key : Key) → has_key noted key ≡ true → IsWithin (key ∷ []) (owing o noted)
is_within owed.All noted key has = tt
is_within (owed.Keys os) noted key has = λ k is. has_key-merged k os noted ∙ or_right (has_key os k) (has_key noted k) (at k (key_among (key ∷ []) k is)) where
  at : (k : Key) → Among (key ∷ []) k → has_key noted k ≡ true
  at k (inl same) = ap (has_key noted) same ∙ has
  at k (inr none) = absurd none

pub forgetting_forgets : ForgettingForgets
forgetting_forgets I W keys = record {
  gone_live = named_live W.held keys;
  gone_pending = named_pending W.held keys;
  owed = λ key named some. is_within W.held.owed (lost W.held keys) key (was_lost W.held keys key named some);
  live = other_live W.held keys;
  pending = other_pending W.held keys;
  metadata = refl;
  image = refl;
}

-- ---- types

pub forgetting_mends_types : ForgettingMendsTypes
forgetting_mends_types I W keys typed = record {
  settings = record { typed = λ key value is own. live key value is own (has_key keys key) refl };
  pending = λ tx key p is. kept tx key p is (has_key keys key) refl;
} where
  live : (key : Key) (value : Scalar) → get (forgotten W.held keys).live.values key ≡ Some value → is_of_image key ≡ false
      → (b : Bool) → has_key keys key ≡ b → IsTyped I.types key value
  live key value is own true named = absurd (cc (is, named_live W.held keys key named))
  live key value is own false other = typed.settings key value (sym (other_live W.held keys key other) ∙ is) own other

  kept : (tx : List ℕ) (key : Key) (p : Pending) → value_at (forgotten W.held keys).pending tx key ≡ Some p → (b : Bool) → has_key keys key ≡ b
      → MayPend I.types key p
  kept tx key p is true named = absurd (cc (is, named_pending W.held keys tx key named))
  kept tx key p is false other = typed.pending tx key p (sym (other_pending W.held keys tx key other) ∙ is) other

-- ---- files

module _ (I : Image) (image : IsGood I) (W : World) (keys : List Key) (idle : is_running W.job ≡ false) (f : List ℕ) (covered : IsCovered I f) where
  abbrev N : World
  N = next I W (Forgot keys)

  quiet : is_running N.job ≡ false
  quiet = still W.job (lost W.held keys) idle

  abbrev IsOne : List ℕ → Type 0
  IsOne = IsThis I image f covered

  abbrev one_covered : (g : List ℕ) → IsOne g → IsCovered I g
  one_covered = this_covered I image f covered

  notes : Notes I IsOne one_covered W N (lost W.held keys) (lost W.held keys)
  notes = record {
    differ = live_differs W.held keys;
    narrow = λ g at. at;
    etc = refl;
    more = owing_more I (lost W.held keys) W.held.owed;
  }

  -- Over the image of its text what had a value is owed besides.
  same_paid : W.held.image ≡ I.text → IsPaid I W f → IsPaid I N f
  same_paid same paid = record {
    now = due_or_current I image f covered N same
        (noted_files I IsOne one_covered W N (lost W.held keys) (lost W.held keys) notes (owed_or_current I image f covered W same paid));
    job = no_paying I N f N.job quiet;
  }

  -- Over another one all is due.
  other_paid : bytes_eq W.held.image I.text ≡ false → IsPaid I N f
  other_paid other = record {
    now = inr (subst (λ (o : Owed). Among (files_of I.manifest o) f) (sym (cond-false _ _ _ other)) (covered_all I image f covered));
    job = no_paying I N f N.job quiet;
  }

  forgot_paid : IsPaid I W f → IsPaid I N f
  forgot_paid paid = ⊎_elim (λ same. same_paid ((bytes_eq-Decides W.held.image I.text).0 same) paid) (λ other. other_paid other)
      (cases_Bool (bytes_eq W.held.image I.text))

pub forgetting_pays : ForgettingPays
forgetting_pays I image W keys idle f covered paid = forgot_paid I image W keys idle f covered paid
