-- The metadata after the opening step, key by key and name by name.
use Rattle.std.proofs.Common.{◌≡◌, ◌&&◌, ◌++◌, ℕ, List, [], ◌∷◌, Option, Some, None, IsSome, is_some, Bool, true, false, cond, not, refl, sym, ◌∙◌}
use Rattle.std.proofs.Common.{ap, subst}
use Rattle.std.specs.Prelude.{unwrap_or}
use Rattle.std.specs.List.{flat_map}
use Rattle.std.specs.Ordering.{eq_by_cmp, is_eq}
use Rattle.std.specs.FinMap.{FinMap, find, get, empty, entries, get-entries, get-empty, is_sorted}
use Rattle.std.specs.FinMap.Entries.{below_all}
use Rattle.std.proofs.lemmas.Bool.{and_parts}
use Rattle.std.proofs.lemmas.Cmp.{tied_itself}
use Rattle.key_names.specs.Order.{key_cmp, key_total, key_cmp-IsAntisymmetric, bytes_cmp, bytes_total, bytes_cmp-IsAntisymmetric}
use Rattle.json_trees.specs.Equal.{scalar_eq}
use Rattle.json_trees.specs.EqualLaws.{scalar_eq-Decides}
use Rattle.json_trees.specs.declared.scalar.Scalar.{Scalar}
use Rattle.settings_maps.specs.Maps.{value_at, with_value, without_value, IsFull}
use Rattle.settings_maps.proofs.NestedMaps.{value_at-with, value_at-without, full_with, full_without, same_nested}
use Rattle.settings_tree.specs.Laid.{laid, laid_one}
use Rattle.settings_tree.specs.declared.entry.Entry.TheVariants.{MetaSet, MetaGone}
use Rattle.settings_tree.specs.declared.held.Held.{Held}
use Rattle.settings_tree.proofs.LaidAt.{laid-append}
use Rattle.opening_step.specs.Entries.{differs, is_absent, name_entries, key_entries, gone_name_entries, gone_key_entries}
use Rattle.settings_tree.proofs.Rising.{entries_rise}
use Rattle.settings_machine.proofs.Elements.{key_tied, name_tied}
use Rattle.opening_step.proofs.InOrder.{behind}

abbrev Key : Type 0
Key = List (List ℕ)

abbrev Names : Type 0
Names = FinMap bytes_cmp Scalar

abbrev Metadata : Type 0
Metadata = FinMap key_cmp Names

abbrev Pairs : Type 0
Pairs = List (List ℕ × Scalar)

with_metadata : Held → Metadata → Held
with_metadata h m = record h { live = record h.live { metadata = m } }

-- the metadata at a place: the wanted one, or the one that was there
put_or : Bool → Scalar → Option Scalar → Option Scalar
put_or true v other = Some v
put_or false v other = other

wanted_at : Option Scalar → Option Scalar → Option Scalar → Option Scalar
wanted_at live None other = other
wanted_at live (Some v) other = put_or (differs v live) v other

-- ---- the names of one key

module _ (live : Metadata) (key : Key) where
  put_names : Pairs → Metadata → Metadata
  put_names [] m = m
  put_names (e ∷ es) m = put_names es (cond (differs e.1 (value_at live key e.0)) (with_value m key e.0 e.1) m)

  laid_names : (es : Pairs) (h : Held) → laid h (flat_map (name_entries live key) es) ≡ with_metadata h (put_names es h.live.metadata)
  unfolding put_names with_metadata
  laid_names [] h = refl
  laid_names (e ∷ es) h = laid-append h (name_entries live key e) (flat_map (name_entries live key) es)
      ∙ by (differs e.1 (value_at live key e.0)) (λ g. laid_names es g) where
        by : (b : Bool) → ((g : Held) → laid g (flat_map (name_entries live key) es) ≡ with_metadata g (put_names es g.live.metadata))
            → laid (laid h (cond b (MetaSet key e.0 e.1 ∷ []) [])) (flat_map (name_entries live key) es) ≡ with_metadata h
            (put_names es (cond b (with_value h.live.metadata key e.0 e.1) h.live.metadata))
        by true rest = rest (laid_one h (MetaSet key e.0 e.1))
        by false rest = rest h

  with_at : (b : Bool) (m : Metadata) (n : List ℕ) (v : Scalar) (q : Key) (r : List ℕ)
      → value_at (cond b (with_value m key n v) m) q r ≡ cond (b && (eq_by_cmp key_cmp q key && eq_by_cmp bytes_cmp r n)) (Some v) (value_at m q r)
  with_at false m n v q r = refl
  with_at true m n v q r = value_at-with key_total bytes_total m key q n r v ∙ by (eq_by_cmp key_cmp q key) where
    by : (c : Bool) → cond c (cond (eq_by_cmp bytes_cmp r n) (Some v) (value_at m q r)) (value_at m q r) ≡ cond (c && eq_by_cmp bytes_cmp r n) (Some v)
        (value_at m q r)
    by true = refl
    by false = refl

  put_names_other : (es : Pairs) (m : Metadata) (q : Key) (r : List ℕ) → eq_by_cmp key_cmp q key ≡ false → value_at (put_names es m) q r ≡ value_at m q r
  unfolding put_names
  put_names_other [] m q r other = refl
  put_names_other (e ∷ es) m q r other = put_names_other es (cond (differs e.1 (value_at live key e.0)) (with_value m key e.0 e.1) m) q r other
      ∙ with_at (differs e.1 (value_at live key e.0)) m e.0 e.1 q r ∙ by (differs e.1 (value_at live key e.0)) (eq_by_cmp key_cmp q key) other where
        by : (b c : Bool) → c ≡ false → cond (b && (c && eq_by_cmp bytes_cmp r e.0)) (Some e.1) (value_at m q r) ≡ value_at m q r
        by false c is = refl
        by true false is = refl
        by true true is = absurd (cc is)

  put_names_at : (es : Pairs) (m : Metadata) (r : List ℕ) → is_sorted bytes_cmp es ≡ true
      → value_at (put_names es m) key r ≡ wanted_at (value_at live key r) (find bytes_cmp r es) (value_at m key r)
  unfolding put_names wanted_at put_or
  put_names_at [] m r rises = refl
  put_names_at (e ∷ es) m r rises =
      let both = and_parts (below_all bytes_cmp e.0 es) (is_sorted bytes_cmp es) rises in
      put_names_at es (cond (differs e.1 (value_at live key e.0)) (with_value m key e.0 e.1) m) r both.1 ∙ by (eq_by_cmp bytes_cmp r e.0) refl both.0
    where
      own : eq_by_cmp key_cmp key key ≡ true
      own = ap is_eq (tied_itself key_total key)

      now : (b c : Bool) → eq_by_cmp bytes_cmp r e.0 ≡ c → value_at (cond b (with_value m key e.0 e.1) m) key r ≡ cond (b && c) (Some e.1) (value_at m key r)
      now b c is = with_at b m e.0 e.1 key r ∙ ap (λ (z : Bool). cond (b && (z && eq_by_cmp bytes_cmp r e.0)) (Some e.1) (value_at m key r)) own
          ∙ ap (λ (z : Bool). cond (b && z) (Some e.1) (value_at m key r)) is

      here : (b : Bool) → cond (b && true) (Some e.1) (value_at m key r) ≡ put_or b e.1 (value_at m key r)
      here true = refl
      here false = refl

      stays : (b : Bool) → cond (b && false) (Some e.1) (value_at m key r) ≡ value_at m key r
      stays true = refl
      stays false = refl

      by : (c : Bool) → eq_by_cmp bytes_cmp r e.0 ≡ c → below_all bytes_cmp e.0 es ≡ true
          → wanted_at (value_at live key r) (find bytes_cmp r es) (value_at (cond (differs e.1 (value_at live key e.0)) (with_value m key e.0 e.1) m) key r) ≡
          wanted_at
          (value_at live key r) (cond c (Some e.1) (find bytes_cmp r es)) (value_at m key r)
      by true is below =
          let one : r ≡ e.0 = name_tied r e.0 is in
          ap (λ (o : Option Scalar). wanted_at (value_at live key r) o
          (value_at (cond (differs e.1 (value_at live key e.0)) (with_value m key e.0 e.1) m) key r))
          (ap (λ (k : List ℕ). find bytes_cmp k es) one ∙ behind bytes_cmp e.0 es below)
          ∙ now (differs e.1 (value_at live key e.0)) true is ∙ here (differs e.1 (value_at live key e.0))
          ∙ ap (λ (k : List ℕ). put_or (differs e.1 (value_at live key k)) e.1 (value_at m key r)) (sym one)
      by false is below = ap (wanted_at (value_at live key r) (find bytes_cmp r es)) (now (differs e.1 (value_at live key e.0)) false is
          ∙ stays (differs e.1 (value_at live key e.0)))

  put_names_full : (es : Pairs) (m : Metadata) → IsFull m → IsFull (put_names es m)
  unfolding put_names
  put_names_full [] m full = full
  put_names_full (e ∷ es) m full = put_names_full es (cond (differs e.1 (value_at live key e.0)) (with_value m key e.0 e.1) m)
      (by (differs e.1 (value_at live key e.0))) where
        by : (b : Bool) → IsFull (cond b (with_value m key e.0 e.1) m)
        by true = full_with key_total bytes_total m key e.0 e.1 full
        by false = full

-- ---- all keys

abbrev Keyed : Type 0
Keyed = List (Key × Names)

-- what is under a name of a map, if there is one
name_in : Option Names → List ℕ → Option Scalar
name_in None r = None
name_in (Some i) r = get i r

module _ (live : Metadata) where
  put_keys : Keyed → Metadata → Metadata
  put_keys [] m = m
  put_keys (e ∷ es) m = put_keys es (put_names live e.0 (entries e.1) m)

  laid_keys : (es : Keyed) (h : Held) → laid h (flat_map (key_entries live) es) ≡ with_metadata h (put_keys es h.live.metadata)
  unfolding put_keys with_metadata
  laid_keys [] h = refl
  laid_keys (e ∷ es) h = laid-append h (key_entries live e) (flat_map (key_entries live) es)
      ∙ ap (λ (g : Held). laid g (flat_map (key_entries live) es)) (laid_names live e.0 (entries e.1) h)
      ∙ laid_keys es (with_metadata h (put_names live e.0 (entries e.1) h.live.metadata))

  put_keys_at : (es : Keyed) (m : Metadata) (q : Key) (r : List ℕ) → is_sorted key_cmp es ≡ true
      → value_at (put_keys es m) q r ≡ wanted_at (value_at live q r) (name_in (find key_cmp q es) r) (value_at m q r)
  unfolding put_keys wanted_at name_in
  put_keys_at [] m q r rises = refl
  put_keys_at (e ∷ es) m q r rises =
      let both = and_parts (below_all key_cmp e.0 es) (is_sorted key_cmp es) rises in
      put_keys_at es (put_names live e.0 (entries e.1) m) q r both.1 ∙ by (eq_by_cmp key_cmp q e.0) refl both.0
    where
      by : (c : Bool) → eq_by_cmp key_cmp q e.0 ≡ c → below_all key_cmp e.0 es ≡ true
          → wanted_at (value_at live q r) (name_in (find key_cmp q es) r) (value_at (put_names live e.0 (entries e.1) m) q r) ≡ wanted_at (value_at live q r)
          (name_in (cond c (Some e.1) (find key_cmp q es)) r) (value_at m q r)
      by true is below =
          let one : q ≡ e.0 = key_tied q e.0 is in
          ap (λ (o : Option Names). wanted_at (value_at live q r) (name_in o r) (value_at (put_names live e.0 (entries e.1) m) q r))
          (ap (λ (k : Key). find key_cmp k es) one ∙ behind key_cmp e.0 es below)
          ∙ ap (λ (k : Key). value_at (put_names live e.0 (entries e.1) m) k r) one ∙ put_names_at live e.0 (entries e.1) m r (entries_rise e.1)
          ∙ ap (λ (k : Key). wanted_at (value_at live k r) (find bytes_cmp r (entries e.1)) (value_at m k r)) (sym one)
          ∙ ap (λ (o : Option Scalar). wanted_at (value_at live q r) o (value_at m q r)) (sym (get-entries e.1 r))
      by false is below = ap (wanted_at (value_at live q r) (name_in (find key_cmp q es) r)) (put_names_other live e.0 (entries e.1) m q r is)

  put_keys_full : (es : Keyed) (m : Metadata) → IsFull m → IsFull (put_keys es m)
  unfolding put_keys
  put_keys_full [] m full = full
  put_keys_full (e ∷ es) m full = put_keys_full es (put_names live e.0 (entries e.1) m) (put_names_full live e.0 (entries e.1) m full)

-- ---- what the image lacks is taken away

module _ (image : Metadata) where
  is_gone : Key → List ℕ → Bool
  is_gone k n = is_absent (value_at image k n)

  taken_names : Key → Pairs → Metadata → Metadata
  taken_names key [] m = m
  taken_names key (e ∷ es) m = taken_names key es (cond (is_gone key e.0) (without_value m key e.0) m)

  taken_keys : Keyed → Metadata → Metadata
  taken_keys [] m = m
  taken_keys (e ∷ es) m = taken_keys es (taken_names e.0 (entries e.1) m)

  laid_gone_names : (key : Key) (es : Pairs) (h : Held) → laid h (flat_map (λ n. gone_name_entries image key n.0) es) ≡ with_metadata h
      (taken_names key es h.live.metadata)
  unfolding taken_names with_metadata is_gone
  laid_gone_names key [] h = refl
  laid_gone_names key (e ∷ es) h = laid-append h (gone_name_entries image key e.0) (flat_map (λ n. gone_name_entries image key n.0) es)
      ∙ by (is_gone key e.0) (λ g. laid_gone_names key es g) where
        by : (b : Bool) → ((g : Held) → laid g (flat_map (λ n. gone_name_entries image key n.0) es) ≡ with_metadata g (taken_names key es g.live.metadata))
            → laid (laid h (cond b (MetaGone key e.0 ∷ []) [])) (flat_map (λ n. gone_name_entries image key n.0) es) ≡ with_metadata h
            (taken_names key es (cond b (without_value h.live.metadata key e.0) h.live.metadata))
        by true rest = rest (laid_one h (MetaGone key e.0))
        by false rest = rest h

  laid_gone : (es : Keyed) (h : Held) → laid h (flat_map (gone_key_entries image) es) ≡ with_metadata h (taken_keys es h.live.metadata)
  unfolding taken_keys with_metadata
  laid_gone [] h = refl
  laid_gone (e ∷ es) h = laid-append h (gone_key_entries image e) (flat_map (gone_key_entries image) es)
      ∙ ap (λ (g : Held). laid g (flat_map (gone_key_entries image) es)) (laid_gone_names e.0 (entries e.1) h)
      ∙ laid_gone es (with_metadata h (taken_names e.0 (entries e.1) h.live.metadata))

  without_at : (b : Bool) (m : Metadata) (key : Key) (n : List ℕ) (q : Key) (r : List ℕ)
      → value_at (cond b (without_value m key n) m) q r ≡ cond (b && (eq_by_cmp key_cmp q key && eq_by_cmp bytes_cmp r n)) None (value_at m q r)
  without_at false m key n q r = refl
  without_at true m key n q r = value_at-without key_total bytes_total m key q n r ∙ by (eq_by_cmp key_cmp q key) where
    by : (c : Bool) → cond c (cond (eq_by_cmp bytes_cmp r n) None (value_at m q r)) (value_at m q r) ≡ cond (c && eq_by_cmp bytes_cmp r n) None (value_at m q r)
    by true = refl
    by false = refl

  names_other : (key : Key) (es : Pairs) (m : Metadata) (q : Key) (r : List ℕ) → is_gone q r ≡ false → value_at (taken_names key es m) q r ≡ value_at m q r
  unfolding taken_names
  names_other key [] m q r not_gone = refl
  names_other key (e ∷ es) m q r not_gone = names_other key es (cond (is_gone key e.0) (without_value m key e.0) m) q r not_gone
      ∙ without_at (is_gone key e.0) m key e.0 q r ∙ by (is_gone key e.0) refl (eq_by_cmp key_cmp q key) refl (eq_by_cmp bytes_cmp r e.0) refl where
        by : (b : Bool) → is_gone key e.0 ≡ b → (c : Bool) → eq_by_cmp key_cmp q key ≡ c → (d : Bool) → eq_by_cmp bytes_cmp r e.0 ≡ d
            → cond (b && (c && d)) None (value_at m q r) ≡ value_at m q r
        by false gone c is d at = refl
        by true gone false is d at = refl
        by true gone true is false at = refl
        by true gone true is true at = absurd (cc (sym not_gone ∙ ap (λ (k : Key). is_gone k r) (key_tied q key is)
            ∙ ap (is_gone key) (name_tied r e.0 at) ∙ gone))

  names_none : (key : Key) (es : Pairs) (m : Metadata) (q : Key) (r : List ℕ) → value_at m q r ≡ None → value_at (taken_names key es m) q r ≡ None
  unfolding taken_names
  names_none key [] m q r none = none
  names_none key (e ∷ es) m q r none = names_none key es (cond (is_gone key e.0) (without_value m key e.0) m) q r (without_at (is_gone key e.0) m key e.0 q r
      ∙ by (is_gone key e.0 && (eq_by_cmp key_cmp q key && eq_by_cmp bytes_cmp r e.0))) where
        by : (b : Bool) → cond b None (value_at m q r) ≡ None
        by true = refl
        by false = none

  names_here : (q : Key) (es : Pairs) (m : Metadata) (r : List ℕ) → is_gone q r ≡ true → IsSome (find bytes_cmp r es) → value_at (taken_names q es m) q r ≡ None
  unfolding taken_names
  names_here q [] m r gone some = absurd (cc some)
  names_here q (e ∷ es) m r gone some = by (eq_by_cmp bytes_cmp r e.0) refl some (names_here q es (cond (is_gone q e.0) (without_value m q e.0) m) r gone) where
    own : eq_by_cmp key_cmp q q ≡ true
    own = ap is_eq (tied_itself key_total q)

    by : (c : Bool) → eq_by_cmp bytes_cmp r e.0 ≡ c → IsSome (cond c (Some e.1) (find bytes_cmp r es))
        → (IsSome (find bytes_cmp r es) → value_at (taken_names q es (cond (is_gone q e.0) (without_value m q e.0) m)) q r ≡ None)
        → value_at (taken_names q es (cond (is_gone q e.0) (without_value m q e.0) m)) q r ≡ None
    by false is some rest = rest some
    by true is some rest = names_none q es (cond (is_gone q e.0) (without_value m q e.0) m) q r
        (without_at (is_gone q e.0) m q e.0 q r ∙ ap (λ (b : Bool). cond b None (value_at m q r))
        (ap (λ (b : Bool). b && (eq_by_cmp key_cmp q q && eq_by_cmp bytes_cmp r e.0)) (ap (is_gone q) (sym (name_tied r e.0 is)) ∙ gone)
        ∙ ap (λ (b : Bool). b && eq_by_cmp bytes_cmp r e.0) own ∙ is))

  keys_other : (es : Keyed) (m : Metadata) (q : Key) (r : List ℕ) → is_gone q r ≡ false → value_at (taken_keys es m) q r ≡ value_at m q r
  unfolding taken_keys
  keys_other [] m q r not_gone = refl
  keys_other (e ∷ es) m q r not_gone = keys_other es (taken_names e.0 (entries e.1) m) q r not_gone ∙ names_other e.0 (entries e.1) m q r not_gone

  keys_none : (es : Keyed) (m : Metadata) (q : Key) (r : List ℕ) → value_at m q r ≡ None → value_at (taken_keys es m) q r ≡ None
  unfolding taken_keys
  keys_none [] m q r none = none
  keys_none (e ∷ es) m q r none = keys_none es (taken_names e.0 (entries e.1) m) q r (names_none e.0 (entries e.1) m q r none)

  keys_here : (es : Keyed) (m : Metadata) (q : Key) (r : List ℕ) → is_gone q r ≡ true → IsSome (name_in (find key_cmp q es) r)
      → value_at (taken_keys es m) q r ≡ None
  unfolding taken_keys name_in
  keys_here [] m q r gone some = absurd (cc some)
  keys_here (e ∷ es) m q r gone some = by (eq_by_cmp key_cmp q e.0) refl some (keys_here es (taken_names e.0 (entries e.1) m) q r gone) where
    by : (c : Bool) → eq_by_cmp key_cmp q e.0 ≡ c → IsSome (name_in (cond c (Some e.1) (find key_cmp q es)) r)
        → (IsSome (name_in (find key_cmp q es) r) → value_at (taken_keys es (taken_names e.0 (entries e.1) m)) q r ≡ None)
        → value_at (taken_keys es (taken_names e.0 (entries e.1) m)) q r ≡ None
    by false is some rest = rest some
    by true is some rest = keys_none es (taken_names e.0 (entries e.1) m) q r
        (ap (λ (k : Key). value_at (taken_names k (entries e.1) m) q r) (sym (key_tied q e.0 is))
        ∙ names_here q (entries e.1) m r gone (subst IsSome (get-entries e.1 r) some))

  names_full : (key : Key) (es : Pairs) (m : Metadata) → IsFull m → IsFull (taken_names key es m)
  unfolding taken_names
  names_full key [] m full = full
  names_full key (e ∷ es) m full = names_full key es (cond (is_gone key e.0) (without_value m key e.0) m) (by (is_gone key e.0)) where
    by : (b : Bool) → IsFull (cond b (without_value m key e.0) m)
    by true = full_without key_total m key e.0 full
    by false = full

  keys_full : (es : Keyed) (m : Metadata) → IsFull m → IsFull (taken_keys es m)
  unfolding taken_keys
  keys_full [] m full = full
  keys_full (e ∷ es) m full = keys_full es (taken_names e.0 (entries e.1) m) (names_full e.0 (entries e.1) m full)

-- ---- together they are the image's

module _ (image live : Metadata) (image_full : IsFull image) (live_full : IsFull live) where
  abbrev put : Metadata
  put = put_keys live (entries image) live

  abbrev all : Metadata
  all = taken_keys image (entries live) put

  name_of : (m : Metadata) (q : Key) (r : List ℕ) → value_at m q r ≡ name_in (find key_cmp q (entries m)) r
  unfolding name_in
  name_of m q r = by (get m q) ∙ ap (λ (o : Option Names). name_in o r) (get-entries m q) where
    by : (o : Option Names) → get (unwrap_or o empty) r ≡ name_in o r
    by None = get-empty bytes_cmp r
    by (Some i) = refl

  put_at : (q : Key) (r : List ℕ) → value_at put q r ≡ wanted_at (value_at live q r) (value_at image q r) (value_at live q r)
  put_at q r = put_keys_at live (entries image) live q r (entries_rise image)
      ∙ ap (λ (o : Option Scalar). wanted_at (value_at live q r) o (value_at live q r)) (sym (name_of image q r))

  wanted_now : (v : Scalar) (l : Option Scalar) → wanted_at l (Some v) l ≡ Some v
  unfolding wanted_at put_or
  wanted_now v None = refl
  wanted_now v (Some w) = by (scalar_eq w v) refl where
    by : (b : Bool) → scalar_eq w v ≡ b → put_or (not b) v (Some w) ≡ Some v
    by true same = ap Some ((scalar_eq-Decides w v).0 same)
    by false same = refl

  at : (q : Key) (r : List ℕ) (i : Option Scalar) → value_at image q r ≡ i → (l : Option Scalar) → value_at live q r ≡ l → value_at all q r ≡ i
  unfolding is_gone wanted_at
  at q r (Some v) here l is = keys_other image (entries live) put q r (ap is_absent here) ∙ put_at q r
      ∙ ap (λ (o : Option Scalar). wanted_at o (value_at image q r) o) is ∙ ap (λ (o : Option Scalar). wanted_at l o l) here ∙ wanted_now v l
  at q r None here None is = keys_none image (entries live) put q r (put_at q r
      ∙ ap (λ (o : Option Scalar). wanted_at (value_at live q r) o (value_at live q r)) here ∙ is)
  at q r None here (Some w) is = keys_here image (entries live) put q r (ap is_absent here) (subst IsSome (name_of live q r) (ap is_some is))

  metadata_same : all ≡ image
  metadata_same = same_nested key_total key_cmp-IsAntisymmetric bytes_total bytes_cmp-IsAntisymmetric all image
      (keys_full image (entries live) put (put_keys_full live (entries image) live live_full)) image_full
      (λ q r. at q r (value_at image q r) refl (value_at live q r) refl)

-- Laid over what is held, the entries for metadata give the image's metadata.
pub metadata_laid : (image : Metadata) (h : Held) → IsFull image → IsFull h.live.metadata
    → laid h (flat_map (key_entries h.live.metadata) (entries image) ++ flat_map (gone_key_entries image) (entries h.live.metadata)) ≡ record h {
      live =
          record h.live { metadata = image };
    }
unfolding with_metadata
metadata_laid image h image_full live_full =
    laid-append h (flat_map (key_entries h.live.metadata) (entries image)) (flat_map (gone_key_entries image) (entries h.live.metadata))
    ∙ ap (λ (g : Held). laid g (flat_map (gone_key_entries image) (entries h.live.metadata))) (laid_keys h.live.metadata (entries image) h)
    ∙ laid_gone image (entries h.live.metadata) (with_metadata h (put_keys h.live.metadata (entries image) h.live.metadata))
    ∙ ap (with_metadata h) (metadata_same image h.live.metadata image_full live_full)
