-- The opening step keeps the prefix rule, names weak keys that may be weak, and names metadata by bare names.
use Rattle.std.proofs.Common.{◌≡◌, ◌&&◌, ◌++◌, ℕ, List, [], ◌∷◌, Option, Some, None, IsSome, is_some, Bool, true, false}
use Rattle.std.proofs.Common.{cond, not, refl, sym, ◌∙◌, ap, subst}
use Rattle.std.specs.Prelude.{unwrap_or, All, IsTrue}
use Rattle.std.specs.List.{flat_map, list_all}
use Rattle.std.specs.Str.{bytes_eq}
use Rattle.std.specs.declared.cmp.Ordering.{Ordering}
use Rattle.std.specs.declared.cmp.Ordering.TheVariants.{Less, Equal, Greater}
use Rattle.std.specs.Ordering.{match_ordering}
use Rattle.std.specs.FinMap.{FinMap, find, get, empty, entries, get-entries}
use Rattle.std.proofs.lemmas.Bool.{and_from}
use Rattle.std.proofs.lemmas.List.Elements.{All-nil, All-cons, All-head, All-tail, All-append}
use Rattle.std.proofs.lemmas.List.Folds.{list_all-append}
use Rattle.key_names.specs.Order.{bytes_cmp, key_cmp}
use Rattle.json_trees.specs.declared.scalar.Scalar.{Scalar}
use Rattle.json_trees.specs.declared.pending.Pending.{Pending}
use Rattle.json_trees.specs.declared.pending.Pending.TheVariants.{Put, Gone}
use Rattle.model_file.proofs.KnownKeys.{one_known}
use Rattle.settings_maps.specs.KeyList.{has_key, joined}
use Rattle.settings_maps.specs.Maps.{inner, value_at}
use Rattle.settings_maps.specs.TxName.{is_meta_name}
use Rattle.settings_tree.specs.Change.{is_once, has_bare_name}
use Rattle.settings_tree.specs.Content.{Contents, IsContent, MayBeWeak}
use Rattle.settings_tree.specs.Laid.{laid, KeepsPrefixRule, NamesWeak}
use Rattle.settings_tree.specs.declared.entry.Entry.{Entry}
use Rattle.settings_tree.specs.declared.entry.Entry.TheVariants.{LiveSet, LiveGone, MetaSet, MetaGone, OwedSet, ImageSet}
use Rattle.settings_tree.specs.declared.entry.Owed.{Owed}
use Rattle.settings_tree.specs.declared.entry.Owed.TheVariants as owed
use Rattle.settings_tree.specs.declared.held.Held.{Held}
use Rattle.settings_tree.proofs.LaidAt.{weak_set}
use Rattle.typed_settings.specs.Row as row
use Rattle.typed_settings.specs.declared.row.Row.{Row}
use Rattle.opening_step.specs.Entries.{is_wanted, is_absent, differs, value_entries, gone_entries}
use Rattle.opening_step.specs.Entries.{name_entries, key_entries, gone_name_entries, gone_key_entries, added_key}
use Rattle.opening_step.specs.Entries.{owed_entries, image_entries, weak_entries, opening_entries}
use Rattle.settings_machine.specs.Opening.{is_of_store, opened_values, added_keys}
use Rattle.settings_machine.specs.Typed.{IsTaken, IsTypedHeld}
use Rattle.opening_step.specs.Step.{AreSettings, HasTypes}
use Rattle.opening_step.proofs.ValuesOpened.{or_else, filled_at}
use Rattle.opening_step.proofs.AddedKeys.{added_flat}
use Rattle.opening_step.proofs.OfStore.{setting_of_store, store_not_image}
use Rattle.settings_tree.proofs.Rising.{entries_rise}
use Rattle.settings_machine.proofs.Elements.{key_tied, key_itself, name_tied, name_itself}
use Rattle.opening_step.proofs.Parts.{flat_all, known_all, parts_of, all_parts}

abbrev Key : Type 0
Key = List (List ℕ)

abbrev Names : Type 0
Names = FinMap bytes_cmp Scalar

-- ---- names

abbrev Bare : List Entry → Type 0
Bare es = list_all has_bare_name es ≡ true

bare-append : (es fs : List Entry) → Bare es → Bare fs → Bare (es ++ fs)
bare-append es fs one two = list_all-append has_bare_name es fs ∙ and_from _ _ one two

bare_value : (b : Bool) (k : Key) (v : Scalar) → Bare (cond b (LiveSet k v ∷ []) [])
bare_value true k v = refl
bare_value false k v = refl

bare_gone : (b : Bool) (k : Key) → Bare (cond b (LiveGone k ∷ []) [])
bare_gone true k = refl
bare_gone false k = refl

bare_meta : (b : Bool) (k : Key) (n : List ℕ) (v : Scalar) → IsTrue (is_meta_name n) → Bare (cond b (MetaSet k n v ∷ []) [])
bare_meta true k n v named = and_from _ _ named refl
bare_meta false k n v named = refl

bare_taken : (b : Bool) (k : Key) (n : List ℕ) → IsTrue (is_meta_name n) → Bare (cond b (MetaGone k n ∷ []) [])
bare_taken true k n named = and_from _ _ named refl
bare_taken false k n named = refl

bare_owed : (all : Bool) (added : List Key) (o : Owed) → Bare (owed_entries all added o)
bare_owed all added owed.All = refl
bare_owed all added (owed.Keys keys) = by all (list_all (has_key keys) added) where
  by : (a b : Bool) → Bare (cond a (OwedSet owed.All ∷ []) (cond b [] (OwedSet (owed.Keys (joined keys added)) ∷ [])))
  by true b = refl
  by false true = refl
  by false false = refl

bare_image : (before text : List ℕ) → Bare (image_entries before text)
bare_image before text = by (bytes_eq before text) where
  by : (b : Bool) → Bare (cond b [] (ImageSet text ∷ []))
  by true = refl
  by false = refl

bare_weak : (weak added : List Key) → Bare (weak_entries weak added)
bare_weak weak [] = refl
bare_weak weak (k ∷ ks) = refl

inner_value : (metadata : FinMap key_cmp Names) (key : Key) (names : Names) (n : List ℕ) (v : Scalar) → get metadata key ≡ Some names
    → find bytes_cmp n (entries names) ≡ Some v → IsSome (value_at metadata key n)
inner_value metadata key names n v is at = subst IsSome (sym (ap (λ (o : Option Names). get (unwrap_or o empty) n) is)) (ap is_some (get-entries names n ∙ at))

module _ (boot : Bool) (image : Contents) (text : List ℕ) (h : Held) where
  open (parts_of boot image text h) use {added, all, ms, ds, os, ts, ws}

  ms_bare : IsContent image → Bare ms
  ms_bare is_image = known_all key_cmp key_itself key_tied (key_entries h.live.metadata) Bare refl bare-append (λ k x. get image.metadata k ≡ Some x)
      (λ e is. known_all bytes_cmp name_itself name_tied (name_entries h.live.metadata e.0) Bare refl bare-append
      (λ n v. IsSome (value_at image.metadata e.0 n))
      (λ n there. bare_meta (differs n.1 (value_at h.live.metadata e.0 n.0)) e.0 n.0 n.1 (is_image.named.bare e.0 n.0 there)) (entries e.1) (entries_rise e.1)
      (λ n v at. inner_value image.metadata e.0 e.1 n v is at))
      (entries image.metadata) (entries_rise image.metadata) (λ k x is. get-entries image.metadata k ∙ is)

  ds_bare : IsContent h.live → Bare ds
  ds_bare is_live = known_all key_cmp key_itself key_tied (gone_key_entries image.metadata) Bare refl bare-append (λ k x. get h.live.metadata k ≡ Some x)
      (λ e is. known_all bytes_cmp name_itself name_tied (λ n. gone_name_entries image.metadata e.0 n.0) Bare refl bare-append
      (λ n v. IsSome (value_at h.live.metadata e.0 n))
      (λ n there. bare_taken (is_absent (value_at image.metadata e.0 n.0)) e.0 n.0 (is_live.named.bare e.0 n.0 there)) (entries e.1) (entries_rise e.1)
      (λ n v at. inner_value h.live.metadata e.0 e.1 n v is at))
      (entries h.live.metadata) (entries_rise h.live.metadata) (λ k x is. get-entries h.live.metadata k ∙ is)

  -- Each name is bare.
  pub opening_names : IsContent image → IsContent h.live → list_all has_bare_name (opening_entries boot image text h) ≡ true
  opening_names is_image is_live =
      all_parts Bare bare-append boot image text h
      (flat_all Bare refl bare-append (value_entries h.live.values) (entries image.values)
      (λ e. bare_value (is_wanted (is_of_store e.0) e.1 (get h.live.values e.0)) e.0 e.1))
      (flat_all Bare refl bare-append (λ e. gone_entries image.values e.0) (entries h.live.values)
      (λ e. bare_gone (not (is_of_store e.0) && is_absent (get image.values e.0)) e.0))
      (ms_bare is_image) (ds_bare is_live)
      (bare-append os (ts ++ ws) (bare_owed all added h.owed) (bare-append ts ws (bare_image h.image text) (bare_weak h.live.weak added)))

-- ---- weak keys

module _ (P : Key → Type 0) where
  step_all : (x : Key) (xs : List Key) → P x → ((ys : List Key) → All P ys → All P (joined xs ys)) → All P xs → (ys : List Key) → All P ys
      → All P (joined (x ∷ xs) ys)
  step_all x xs here rest more [] second = All-cons P x xs here more
  step_all x xs here rest more (y ∷ ys) second = by (key_cmp x y) (step_all x xs here rest more ys (All-tail P y ys second)) where
    by : (r : Ordering) → All P (joined (x ∷ xs) ys) → All P (match_ordering r (x ∷ joined xs (y ∷ ys)) (x ∷ joined xs ys) (y ∷ joined (x ∷ xs) ys))
    by Less later = All-cons P x (joined xs (y ∷ ys)) here (rest (y ∷ ys) second)
    by Equal later = All-cons P x (joined xs ys) here (rest ys (All-tail P y ys second))
    by Greater later = All-cons P y (joined (x ∷ xs) ys) (All-head P y ys second) later

  all_joined : (xs ys : List Key) → All P xs → All P ys → All P (joined xs ys)
  all_joined [] ys first second = second
  all_joined (x ∷ xs) ys first second = step_all x xs (All-head P x xs first) (λ zs more. all_joined xs zs (All-tail P x xs first) more) (All-tail P x xs first)
      ys second

module _ (image : Contents) (h : Held) where
  opened_at : (q : Key) → get (opened_values image.values h.live.values) q ≡ or_else (cond (is_of_store q) (get h.live.values q) None) (get image.values q)
  opened_at q = filled_at image.values h.live.values q

  stays : (q : Key) → MayBeWeak h.live.values q → MayBeWeak (opened_values image.values h.live.values) q
  unfolding or_else
  stays q may = record {
    stands = subst IsSome (sym (opened_at q)) (by (is_of_store q) (setting_of_store q may.setting) (get h.live.values q) may.stands);
    setting =
        may.setting;
  } where
    by : (s : Bool) → s ≡ true → (o : Option Scalar) → IsSome o → IsSome (or_else (cond s o None) (get image.values q))
    by false off o some = absurd (cc off)
    by true on None some = absurd (cc some)
    by true on (Some v) some = refl

  comes : AreSettings image.values → (q : Key) → is_of_store q ≡ true → IsSome (get image.values q) → MayBeWeak (opened_values image.values h.live.values) q
  unfolding or_else
  comes settings q store there = record {
    stands = subst IsSome (sym (opened_at q))
        (by (cond (is_of_store q) (get h.live.values q) None) (get image.values q) there);
    setting = settings q there store;
  } where
    by : (l i : Option Scalar) → IsSome i → IsSome (or_else l i)
    by None i some = some
    by (Some v) i some = refl

  all_added : AreSettings image.values → All (MayBeWeak (opened_values image.values h.live.values))
      (flat_map (λ e. added_key h.live.values e.0) (entries image.values))
  all_added settings = known_all key_cmp key_itself key_tied (λ e. added_key h.live.values e.0) (All (MayBeWeak (opened_values image.values h.live.values)))
      (All-nil (MayBeWeak (opened_values image.values h.live.values)))
      (All-append (MayBeWeak (opened_values image.values h.live.values))) (λ k x. IsSome (get image.values k))
      (λ e there. one e there (is_of_store e.0) refl (is_absent (get h.live.values e.0)))
      (entries image.values) (entries_rise image.values) (λ k x is. ap is_some (get-entries image.values k ∙ is))
    where
      one : (e : Key × Scalar) → IsSome (get image.values e.0) → (s : Bool) → is_of_store e.0 ≡ s → (a : Bool)
          → All (MayBeWeak (opened_values image.values h.live.values)) (cond (s && a) (e.0 ∷ []) [])
      one e there false is a = All-nil (MayBeWeak (opened_values image.values h.live.values))
      one e there true is false = All-nil (MayBeWeak (opened_values image.values h.live.values))
      one e there true is true = All-cons (MayBeWeak (opened_values image.values h.live.values)) e.0 [] (comes settings e.0 is there)
          (All-nil (MayBeWeak (opened_values image.values h.live.values)))

  live_stay : (weak : List Key) → All (MayBeWeak h.live.values) weak → All (MayBeWeak (opened_values image.values h.live.values)) weak
  live_stay [] may = All-nil (MayBeWeak (opened_values image.values h.live.values))
  live_stay (k ∷ ks) may = All-cons (MayBeWeak (opened_values image.values h.live.values)) k ks (stays k (All-head (MayBeWeak h.live.values) k ks may))
      (live_stay ks (All-tail (MayBeWeak h.live.values) k ks may))

  may_all : AreSettings image.values → IsContent h.live → All (MayBeWeak (opened_values image.values h.live.values))
      (joined h.live.weak (added_keys image.values h.live.values))
  may_all settings is_live = all_joined (MayBeWeak (opened_values image.values h.live.values)) h.live.weak (added_keys image.values h.live.values)
      (live_stay h.live.weak is_live.weak)
      (subst (All (MayBeWeak (opened_values image.values h.live.values))) (added_flat h.live.values (entries image.values)) (all_added settings))

-- A change that makes the step and names no place twice names weak keys that may be weak.
pub opening_weak : (defaults : Contents) (h : Held) (es : List Entry) → AreSettings defaults.values
    → (laid h es).live.values ≡ opened_values defaults.values h.live.values
    → (laid h es).live.weak ≡ joined h.live.weak (added_keys defaults.values h.live.values)
    → is_once es ≡ true → IsContent h.live → NamesWeak h es
opening_weak defaults h es settings values weak once is_live = record {
  may = λ named has. subst (All (MayBeWeak (laid h es).live.values)) (weak_set h es named once has)
      (subst (All (MayBeWeak (laid h es).live.values)) (sym weak)
      (subst (λ (m : FinMap key_cmp Scalar). All (MayBeWeak m) (joined h.live.weak (added_keys defaults.values h.live.values))) (sym values)
      (may_all defaults h settings is_live)));
}

-- ---- the prefix rule

module _ (types : List Row) (image : Contents) (h : Held) (free : row.IsPrefixFree types)
    (known : (key : Key) → IsSome (get image.values key) → row.IsKnown types key) (fit : IsTypedHeld types h) where
  known_opened : (q : Key) → IsSome (get (opened_values image.values h.live.values) q) → row.IsKnown types q
  unfolding or_else
  known_opened q some = by (is_of_store q) refl (get h.live.values q) refl (get image.values q) refl (subst IsSome (opened_at image h q) some) where
    by : (s : Bool) → is_of_store q ≡ s → (l : Option Scalar) → get h.live.values q ≡ l → (i : Option Scalar) → get image.values q ≡ i
        → IsSome (or_else (cond s l None) i) → row.IsKnown types q
    by true store (Some v) there i here some = let typed = fit.settings.typed q v there (store_not_image q store) in (typed.row, typed.has)
    by true store None there i here some = known q (subst IsSome (sym here) some)
    by false other l there i here some = known q (subst IsSome (sym here) some)

  known_pending : (tx : List ℕ) (q : Key) → IsSome (get (inner h.pending tx) q) → row.IsKnown types q
  known_pending tx q some = by (get (inner h.pending tx) q) refl some where
    of : (v : Pending) → IsTaken types q v → row.IsKnown types q
    of (Put v) typed = (typed.row, typed.has)
    of Gone typed = typed

    by : (o : Option Pending) → get (inner h.pending tx) q ≡ o → IsSome o → row.IsKnown types q
    by None is some = absurd (cc some)
    by (Some v) is some = of v (fit.pending tx q v is).taken

-- The rule holds after the step.
pub opened_rule : (defaults : Contents) (h now : Held) → HasTypes defaults h → now.live.values ≡ opened_values defaults.values h.live.values
    → now.pending ≡ h.pending
    → KeepsPrefixRule now
opened_rule defaults h now has values pending = record {
  live = record { alone = λ k q has_k has_q begins. one_known has.types k q has.free (in_live k has_k) (in_live q has_q) begins };
  pending = λ tx. record { alone = λ k q has_k has_q begins. one_known has.types k q has.free (in_pending tx k has_k) (in_pending tx q has_q) begins };
}
  where
    in_live : (q : Key) → IsSome (get now.live.values q) → row.IsKnown has.types q
    in_live q some = known_opened has.types defaults h has.free has.known has.fit q (subst (λ (m : FinMap key_cmp Scalar). IsSome (get m q)) values some)

    in_pending : (tx : List ℕ) (q : Key) → IsSome (get (inner now.pending tx) q) → row.IsKnown has.types q
    in_pending tx q some = known_pending has.types defaults h has.free has.known has.fit tx q
        (subst (λ (m : FinMap bytes_cmp (FinMap key_cmp Pending)). IsSome (get (inner m tx) q)) pending some)
