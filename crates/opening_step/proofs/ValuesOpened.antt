-- The values after the opening step, key by key.
use Rattle.std.proofs.Common.{◌≡◌, ◌&&◌, ◌++◌, ℕ, List, [], ◌∷◌, Option, Some, None, IsSome, is_some, Bool, true, false, cond, not, refl, sym, ◌∙◌}
use Rattle.std.proofs.Common.{ap}
use Rattle.std.specs.List.{flat_map}
use Rattle.std.specs.Ordering.{eq_by_cmp}
use Rattle.std.specs.FinMap.{FinMap, find, get, insert, remove, entries, get-entries, get-insert, get-remove, contains_key, retain_keys, get-retain_keys}
use Rattle.std.specs.FinMap.{same_map, is_sorted}
use Rattle.std.specs.FinMap.Entries.{below_all}
use Rattle.std.proofs.lemmas.Bool.{and_parts}
use Rattle.key_names.specs.Order.{key_cmp, key_total, key_cmp-IsAntisymmetric}
use Rattle.json_trees.specs.Equal.{scalar_eq}
use Rattle.json_trees.specs.EqualLaws.{scalar_eq-Decides}
use Rattle.json_trees.specs.declared.scalar.Scalar.{Scalar}
use Rattle.settings_tree.specs.Laid.{laid, laid_one}
use Rattle.settings_tree.specs.declared.entry.Entry.TheVariants.{LiveSet, LiveGone}
use Rattle.settings_tree.specs.declared.held.Held.{Held}
use Rattle.settings_tree.proofs.LaidAt.{laid-append}
use Rattle.opening_step.specs.Entries.{is_wanted, is_absent, value_entries, gone_entries}
use Rattle.settings_machine.specs.Opening.{is_of_store, filled}
use Rattle.settings_tree.proofs.Rising.{entries_rise}
use Rattle.settings_machine.proofs.Elements.{key_tied}
use Rattle.opening_step.proofs.InOrder.{behind}

abbrev Key : Type 0
Key = List (List ℕ)

abbrev Values : Type 0
Values = FinMap key_cmp Scalar

abbrev Pairs : Type 0
Pairs = List (Key × Scalar)

unfoldable pub or_else : Option Scalar → Option Scalar → Option Scalar
or_else (Some v) other = Some v
or_else None other = other

-- ---- values that are put where they are wanted, one after another

put_wanted : Values → Pairs → Values → Values
put_wanted live [] m = m
put_wanted live (e ∷ es) m = put_wanted live es (cond (is_wanted (is_of_store e.0) e.1 (get live e.0)) (insert m e.0 e.1) m)

with_values : Held → Values → Held
with_values h m = record h { live = record h.live { values = m } }

laid_values : (live : Values) (es : Pairs) (h : Held) → laid h (flat_map (value_entries live) es) ≡ with_values h (put_wanted live es h.live.values)
unfolding put_wanted with_values
laid_values live [] h = refl
laid_values live (e ∷ es) h = laid-append h (value_entries live e) (flat_map (value_entries live) es)
    ∙ by (is_wanted (is_of_store e.0) e.1 (get live e.0)) (λ g. laid_values live es g) where
      by : (b : Bool) → ((g : Held) → laid g (flat_map (value_entries live) es) ≡ with_values g (put_wanted live es g.live.values))
          → laid (laid h (cond b (LiveSet e.0 e.1 ∷ []) [])) (flat_map (value_entries live) es) ≡ with_values h
          (put_wanted live es (cond b (insert h.live.values e.0 e.1) h.live.values))
      by true rest = rest (laid_one h (LiveSet e.0 e.1))
      by false rest = rest h

-- the value at a key: the wanted one, or the one that was there
put_or : Bool → Scalar → Option Scalar → Option Scalar
put_or true v other = Some v
put_or false v other = other

wanted_at : Values → Key → Option Scalar → Option Scalar → Option Scalar
wanted_at live q None other = other
wanted_at live q (Some v) other = put_or (is_wanted (is_of_store q) v (get live q)) v other

abbrev wanted_in : Values → Key × Scalar → Bool
wanted_in live e = is_wanted (is_of_store e.0) e.1 (get live e.0)

get-put_wanted : (live : Values) (es : Pairs) (m : Values) (q : Key) → is_sorted key_cmp es ≡ true
    → get (put_wanted live es m) q ≡ wanted_at live q (find key_cmp q es) (get m q)
unfolding put_wanted wanted_at put_or
get-put_wanted live [] m q rises = refl
get-put_wanted live (e ∷ es) m q rises =
    let both = and_parts (below_all key_cmp e.0 es) (is_sorted key_cmp es) rises in
    get-put_wanted live es (cond (is_wanted (is_of_store e.0) e.1 (get live e.0)) (insert m e.0 e.1) m) q both.1 ∙ by (eq_by_cmp key_cmp q e.0) refl both.0
  where
    now : (b : Bool) → get (cond b (insert m e.0 e.1) m) q ≡ cond b (cond (eq_by_cmp key_cmp q e.0) (Some e.1) (get m q)) (get m q)
    now true = get-insert key_total m e.0 e.1 q
    now false = refl

    here : (b : Bool) → cond b (Some e.1) (get m q) ≡ put_or b e.1 (get m q)
    here true = refl
    here false = refl

    stays : (b : Bool) → cond b (get m q) (get m q) ≡ get m q
    stays true = refl
    stays false = refl

    by : (b : Bool) → eq_by_cmp key_cmp q e.0 ≡ b → below_all key_cmp e.0 es ≡ true
        → wanted_at live q (find key_cmp q es) (get (cond (wanted_in live e) (insert m e.0 e.1) m) q) ≡ wanted_at live q (cond b (Some e.1) (find key_cmp q es))
        (get m q)
    by true is below =
        let one : q ≡ e.0 = key_tied q e.0 is in
        ap (λ (o : Option Scalar). wanted_at live q o (get (cond (wanted_in live e) (insert m e.0 e.1) m) q)) (ap (λ (k : Key). find key_cmp k es) one
        ∙ behind key_cmp e.0 es below)
        ∙ now (wanted_in live e) ∙ ap (λ (b : Bool). cond (wanted_in live e) (cond b (Some e.1) (get m q)) (get m q)) is ∙ here (wanted_in live e)
        ∙ ap (λ (k : Key). put_or (is_wanted (is_of_store k) e.1 (get live k)) e.1 (get m q)) (sym one)
    by false is below = ap (λ (o : Option Scalar). wanted_at live q (find key_cmp q es) o) (now (wanted_in live e)
        ∙ ap (λ (b : Bool). cond (wanted_in live e) (cond b (Some e.1) (get m q)) (get m q)) is ∙ stays (wanted_in live e))

-- ---- values that are filled

get-filled : (es : Pairs) (m : Values) (q : Key) → is_sorted key_cmp es ≡ true → get (filled m es) q ≡ or_else (get m q) (find key_cmp q es)
unfolding or_else
get-filled [] m q rises = none (get m q) where
  none : (o : Option Scalar) → o ≡ or_else o None
  none None = refl
  none (Some v) = refl
get-filled (e ∷ es) m q rises =
    let both = and_parts (below_all key_cmp e.0 es) (is_sorted key_cmp es) rises in
    get-filled es (cond (contains_key m e.0) m (insert m e.0 e.1)) q both.1 ∙ by (contains_key m e.0) refl (eq_by_cmp key_cmp q e.0) refl both.0
  where
    kept : (o other more : Option Scalar) → is_some o ≡ true → or_else o other ≡ or_else o more
    kept None other more some = absurd (cc some)
    kept (Some v) other more some = refl

    lacks : (o : Option Scalar) → is_some o ≡ false → o ≡ None
    lacks None e = refl
    lacks (Some v) e = absurd (cc e)

    by : (b : Bool) → contains_key m e.0 ≡ b → (c : Bool) → eq_by_cmp key_cmp q e.0 ≡ c → below_all key_cmp e.0 es ≡ true
        → or_else (get (cond b m (insert m e.0 e.1)) q) (find key_cmp q es) ≡ or_else (get m q) (cond c (Some e.1) (find key_cmp q es))
    by true has true is below = kept (get m q) (find key_cmp q es) (Some e.1) (ap (λ (k : Key). contains_key m k) (key_tied q e.0 is) ∙ has)
    by true has false is below = refl
    by false has c is below = ap (λ (o : Option Scalar). or_else o (find key_cmp q es)) (get-insert key_total m e.0 e.1 q
        ∙ ap (λ (b : Bool). cond b (Some e.1) (get m q)) is) ∙ new c is
      where
        new : (c : Bool) → eq_by_cmp key_cmp q e.0 ≡ c → or_else (cond c (Some e.1) (get m q)) (find key_cmp q es) ≡ or_else (get m q)
            (cond c (Some e.1) (find key_cmp q es))
        new true is = ap (λ (o : Option Scalar). or_else o (Some e.1)) (sym (lacks (get m q) (ap (λ (k : Key). contains_key m k) (key_tied q e.0 is) ∙ has)))
        new false is = refl

-- ---- services and files that the image lacks are taken away

is_gone : Values → Key → Bool
is_gone image k = not (is_of_store k) && is_absent (get image k)

taken : Values → Pairs → Values → Values
taken image [] m = m
taken image (e ∷ es) m = taken image es (cond (is_gone image e.0) (remove m e.0) m)

laid_taken : (image : Values) (es : Pairs) (h : Held) → laid h (flat_map (λ e. gone_entries image e.0) es) ≡ with_values h (taken image es h.live.values)
unfolding taken with_values is_gone
laid_taken image [] h = refl
laid_taken image (e ∷ es) h = laid-append h (gone_entries image e.0) (flat_map (λ e. gone_entries image e.0) es)
    ∙ by (is_gone image e.0) (λ g. laid_taken image es g) where
      by : (b : Bool) → ((g : Held) → laid g (flat_map (λ e. gone_entries image e.0) es) ≡ with_values g (taken image es g.live.values))
          → laid (laid h (cond b (LiveGone e.0 ∷ []) [])) (flat_map (λ e. gone_entries image e.0) es) ≡ with_values h
          (taken image es (cond b (remove h.live.values e.0) h.live.values))
      by true rest = rest (laid_one h (LiveGone e.0))
      by false rest = rest h

-- after a step
step_at : (b : Bool) (m : Values) (k q : Key) → get (cond b (remove m k) m) q ≡ cond (b && eq_by_cmp key_cmp q k) None (get m q)
step_at true m k q = get-remove key_total m k q
step_at false m k q = refl

get-taken_other : (image : Values) (es : Pairs) (m : Values) (q : Key) → is_gone image q ≡ false → get (taken image es m) q ≡ get m q
unfolding taken
get-taken_other image [] m q not_gone = refl
get-taken_other image (e ∷ es) m q not_gone = get-taken_other image es (cond (is_gone image e.0) (remove m e.0) m) q not_gone
    ∙ step_at (is_gone image e.0) m e.0 q
    ∙ by (is_gone image e.0) refl (eq_by_cmp key_cmp q e.0) refl where
      by : (b : Bool) → is_gone image e.0 ≡ b → (c : Bool) → eq_by_cmp key_cmp q e.0 ≡ c → cond (b && c) None (get m q) ≡ get m q
      by false gone c is = refl
      by true gone false is = refl
      by true gone true is = absurd (cc (sym not_gone ∙ ap (is_gone image) (key_tied q e.0 is) ∙ gone))

get-taken_none : (image : Values) (es : Pairs) (m : Values) (q : Key) → get m q ≡ None → get (taken image es m) q ≡ None
unfolding taken
get-taken_none image [] m q none = none
get-taken_none image (e ∷ es) m q none = get-taken_none image es (cond (is_gone image e.0) (remove m e.0) m) q (step_at (is_gone image e.0) m e.0 q
    ∙ by (is_gone image e.0 && eq_by_cmp key_cmp q e.0)) where
      by : (b : Bool) → cond b None (get m q) ≡ None
      by true = refl
      by false = none

get-taken_gone : (image : Values) (es : Pairs) (m : Values) (q : Key) → is_gone image q ≡ true → IsSome (find key_cmp q es) → get (taken image es m) q ≡ None
unfolding taken
get-taken_gone image [] m q gone some = absurd (cc some)
get-taken_gone image (e ∷ es) m q gone some = by (eq_by_cmp key_cmp q e.0) refl some
    (get-taken_gone image es (cond (is_gone image e.0) (remove m e.0) m) q gone) where
      by : (c : Bool) → eq_by_cmp key_cmp q e.0 ≡ c → IsSome (cond c (Some e.1) (find key_cmp q es))
          → (IsSome (find key_cmp q es) → get (taken image es (cond (is_gone image e.0) (remove m e.0) m)) q ≡ None)
          → get (taken image es (cond (is_gone image e.0) (remove m e.0) m)) q ≡ None
      by false is some rest = rest some
      by true is some rest = get-taken_none image es (cond (is_gone image e.0) (remove m e.0) m) q
          (step_at (is_gone image e.0) m e.0 q ∙ ap (λ (b : Bool). cond b None (get m q))
          (ap (λ (b : Bool). b && eq_by_cmp key_cmp q e.0) (ap (is_gone image) (sym (key_tied q e.0 is)) ∙ gone) ∙ is))

-- ---- together they are the values after the opening step

module _ (image live : Values) where
  abbrev put : Values
  put = put_wanted live (entries image) live

  abbrev all : Values
  all = taken image (entries live) put

  put_at : (q : Key) → get put q ≡ wanted_at live q (get image q) (get live q)
  put_at q = get-put_wanted live (entries image) live q (entries_rise image) ∙ ap (λ (o : Option Scalar). wanted_at live q o (get live q))
      (sym (get-entries image q))

  kept_at : (q : Key) → get (retain_keys live is_of_store) q ≡ cond (is_of_store q) (get live q) None
  kept_at q = get-retain_keys live is_of_store q (λ x tie. ap is_of_store (sym (key_cmp-IsAntisymmetric q x tie)))

  pub filled_at : (q : Key) → get (filled (retain_keys live is_of_store) (entries image)) q ≡ or_else (cond (is_of_store q) (get live q) None) (get image q)
  filled_at q = get-filled (entries image) (retain_keys live is_of_store) q (entries_rise image)
      ∙ ap (λ (o : Option Scalar). or_else o (find key_cmp q (entries image))) (kept_at q)
      ∙ ap (or_else (cond (is_of_store q) (get live q) None)) (sym (get-entries image q))

  there : (q : Key) (w : Scalar) → get live q ≡ Some w → IsSome (find key_cmp q (entries live))
  there q w is = ap is_some (sym (get-entries live q) ∙ is)

  -- the cases of a key
  at_setting : (q : Key) → is_of_store q ≡ true → (i l : Option Scalar) → get live q ≡ l → wanted_at live q i l ≡ or_else l i
  unfolding wanted_at put_or or_else
  at_setting q setting None None is = refl
  at_setting q setting None (Some w) is = refl
  at_setting q setting (Some v) None is = ap (λ (o : Option Scalar). put_or (is_wanted (is_of_store q) v o) v None) is
  at_setting q setting (Some v) (Some w) is = ap (λ (o : Option Scalar). put_or (is_wanted (is_of_store q) v o) v (Some w)) is
      ∙ ap (λ (b : Bool). put_or (not b && not (scalar_eq w v)) v (Some w)) setting

  at_other : (q : Key) → is_of_store q ≡ false → (v : Scalar) (l : Option Scalar) → get live q ≡ l → wanted_at live q (Some v) l ≡ Some v
  unfolding wanted_at put_or
  at_other q other v None is = ap (λ (o : Option Scalar). put_or (is_wanted (is_of_store q) v o) v None) is
  at_other q other v (Some w) is = ap (λ (o : Option Scalar). put_or (is_wanted (is_of_store q) v o) v (Some w)) is
      ∙ ap (λ (b : Bool). put_or (not b && not (scalar_eq w v)) v (Some w)) other ∙ by (scalar_eq w v) refl where
        by : (b : Bool) → scalar_eq w v ≡ b → put_or (not b) v (Some w) ≡ Some v
        by true same = ap Some ((scalar_eq-Decides w v).0 same)
        by false same = refl

  at : (q : Key) (s : Bool) → is_of_store q ≡ s → (i : Option Scalar) → get image q ≡ i → (l : Option Scalar) → get live q ≡ l
      → get all q ≡ or_else (cond s l None) i
  unfolding is_gone or_else wanted_at
  at q true setting i here l is =
      get-taken_other image (entries live) put q (ap (λ (b : Bool). not b && is_absent (get image q)) setting) ∙ put_at q
      ∙ ap (λ (o : Option Scalar). wanted_at live q o (get live q)) here ∙ ap (wanted_at live q i) is ∙ at_setting q setting i l is
  at q false other (Some v) here l is =
      get-taken_other image (entries live) put q (ap (λ (b : Bool). not b && is_absent (get image q)) other ∙ ap is_absent here) ∙ put_at q
      ∙ ap (λ (o : Option Scalar). wanted_at live q o (get live q)) here ∙ ap (wanted_at live q (Some v)) is ∙ at_other q other v l is
  at q false other None here None is = get-taken_none image (entries live) put q
      (put_at q ∙ ap (λ (o : Option Scalar). wanted_at live q o (get live q)) here ∙ is)
  at q false other None here (Some w) is = get-taken_gone image (entries live) put q
      (ap (λ (b : Bool). not b && is_absent (get image q)) other ∙ ap is_absent here)
      (there q w is)

  values_same : all ≡ filled (retain_keys live is_of_store) (entries image)
  values_same = same_map key_total key_cmp-IsAntisymmetric all (filled (retain_keys live is_of_store) (entries image))
      (λ q. at q (is_of_store q) refl (get image q) refl (get live q) refl ∙ sym (filled_at q))

-- Laid over what is held, the entries for values give the values after the step.
pub values_laid : (image : Values) (h : Held) → laid h (flat_map (value_entries h.live.values) (entries image) ++ flat_map (λ e. gone_entries image e.0)
    (entries h.live.values)) ≡ record h { live = record h.live { values = filled (retain_keys h.live.values is_of_store) (entries image) } }
unfolding with_values
values_laid image h =
    laid-append h (flat_map (value_entries h.live.values) (entries image)) (flat_map (λ e. gone_entries image e.0) (entries h.live.values))
    ∙ ap (λ (g : Held). laid g (flat_map (λ e. gone_entries image e.0) (entries h.live.values))) (laid_values h.live.values (entries image) h)
    ∙ laid_taken image (entries h.live.values) (with_values h (put_wanted h.live.values (entries image) h.live.values))
    ∙ ap (with_values h) (values_same image h.live.values)
