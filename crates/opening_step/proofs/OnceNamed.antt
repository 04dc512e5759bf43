-- The entries of the opening step name no place twice, and bare names alone.
use Rattle.std.proofs.Common.{◌≡◌, ◌&&◌, ◌++◌, ℕ, List, [], ◌∷◌, Option, Some, None, IsSome, is_some, Bool, true, false, cond, not}
use Rattle.std.proofs.Common.{append_assoc, refl, sym, ◌∙◌, ap, subst}
use Rattle.std.specs.List.{flat_map, list_all}
use Rattle.std.specs.Prelude.{unwrap_or}
use Rattle.std.specs.Str.{bytes_eq}
use Rattle.std.specs.Ordering.{eq_by_cmp}
use Rattle.std.specs.FinMap.{FinMap, get, empty, entries, get-entries}
use Rattle.std.proofs.lemmas.Bool.{and_from}
use Rattle.key_names.specs.Order.{bytes_cmp, key_cmp}
use Rattle.json_trees.specs.declared.scalar.Scalar.{Scalar}
use Rattle.settings_maps.specs.KeyList.{has_key, joined}
use Rattle.pending_tx.proofs.Named.{unnamed-append, are_apart, apart-append1, once-append}
use Rattle.settings_maps.specs.Maps.{value_at}
use Rattle.settings_tree.specs.Change.{Place, Live, Meta, TheOwed, TheImage, TheWeak, is_same, is_unnamed, is_once}
use Rattle.settings_tree.specs.Content.{Contents}
use Rattle.settings_tree.specs.declared.entry.Entry.{Entry}
use Rattle.settings_tree.specs.declared.entry.Entry.TheVariants.{LiveSet, LiveGone, MetaSet, MetaGone, OwedSet, ImageSet}
use Rattle.settings_tree.specs.declared.entry.Owed.{Owed}
use Rattle.settings_tree.specs.declared.entry.Owed.TheVariants as owed
use Rattle.settings_tree.specs.declared.held.Held.{Held}
use Rattle.opening_step.specs.Entries.{is_wanted, is_absent, differs, value_entries, gone_entries}
use Rattle.opening_step.specs.Entries.{name_entries, key_entries, gone_name_entries, gone_key_entries}
use Rattle.opening_step.specs.Entries.{owed_entries, image_entries, weak_entries, opening_entries}
use Rattle.settings_machine.specs.Opening.{is_of_store}
use Rattle.settings_tree.proofs.Rising.{entries_rise}
use Rattle.settings_machine.proofs.Elements.{key_tied, key_itself, name_tied, name_itself}
use Rattle.opening_step.proofs.Parts.{parts_of}
use Rattle.opening_step.proofs.Apart.{apart-append2, apart-flat1, apart-flat2, flat_once, known_apart}

abbrev Key : Type 0
Key = List (List ℕ)

-- ---- values

module _ (image live : FinMap key_cmp Scalar) where
  value_once : (e : Key × Scalar) → is_once (value_entries live e) ≡ true
  value_once e = by (is_wanted (is_of_store e.0) e.1 (get live e.0)) where
    by : (b : Bool) → is_once (cond b (LiveSet e.0 e.1 ∷ []) []) ≡ true
    by true = refl
    by false = refl

  value_apart : (d e : Key × Scalar) → eq_by_cmp key_cmp d.0 e.0 ≡ false → are_apart (value_entries live d) (value_entries live e) ≡ true
  value_apart d e other = by (is_wanted (is_of_store d.0) d.1 (get live d.0)) (is_wanted (is_of_store e.0) e.1 (get live e.0)) where
    by : (a b : Bool) → are_apart (cond a (LiveSet d.0 d.1 ∷ []) []) (cond b (LiveSet e.0 e.1 ∷ []) []) ≡ true
    by false b = refl
    by true false = refl
    by true true = ap (λ (c : Bool). (not c && true) && true) other

  gone_once : (e : Key × Scalar) → is_once (gone_entries image e.0) ≡ true
  gone_once e = by (not (is_of_store e.0) && is_absent (get image e.0)) where
    by : (b : Bool) → is_once (cond b (LiveGone e.0 ∷ []) []) ≡ true
    by true = refl
    by false = refl

  gone_apart : (d e : Key × Scalar) → eq_by_cmp key_cmp d.0 e.0 ≡ false → are_apart (gone_entries image d.0) (gone_entries image e.0) ≡ true
  gone_apart d e other = by (not (is_of_store d.0) && is_absent (get image d.0)) (not (is_of_store e.0) && is_absent (get image e.0)) where
    by : (a b : Bool) → are_apart (cond a (LiveGone d.0 ∷ []) []) (cond b (LiveGone e.0 ∷ []) []) ≡ true
    by false b = refl
    by true false = refl
    by true true = ap (λ (c : Bool). (not c && true) && true) other

  not_absent : (s : Bool) (o : Option Scalar) → IsSome o → (not s && is_absent o) ≡ false
  not_absent true o some = refl
  not_absent false None some = absurd (cc some)
  not_absent false (Some v) some = refl

  value_gone : (d : Key × Scalar) → IsSome (get image d.0) → (e : Key × Scalar) → are_apart (value_entries live d) (gone_entries image e.0) ≡ true
  value_gone d there e = by (is_wanted (is_of_store d.0) d.1 (get live d.0)) (not (is_of_store e.0) && is_absent (get image e.0)) refl
      (eq_by_cmp key_cmp d.0 e.0) refl where
        by : (a b : Bool) → (not (is_of_store e.0) && is_absent (get image e.0)) ≡ b → (c : Bool) → eq_by_cmp key_cmp d.0 e.0 ≡ c
            → are_apart (cond a (LiveSet d.0 d.1 ∷ []) []) (cond b (LiveGone e.0 ∷ []) []) ≡ true
        by false b gone c is = refl
        by true false gone c is = refl
        by true true gone false is = ap (λ (c : Bool). (not c && true) && true) is
        by true true gone true is = absurd (cc (sym gone ∙ not_absent (is_of_store e.0) (get image e.0)
            (subst (λ (k : Key). IsSome (get image k)) (key_tied d.0 e.0 is) there)))

  values_once : is_once (flat_map (value_entries live) (entries image) ++ flat_map (λ e. gone_entries image e.0) (entries live)) ≡ true
  values_once = once-append (flat_map (value_entries live) (entries image)) (flat_map (λ e. gone_entries image e.0) (entries live))
      (flat_once key_cmp (value_entries live) value_once value_apart (entries image) (entries_rise image))
      (flat_once key_cmp (λ e. gone_entries image e.0) gone_once gone_apart (entries live) (entries_rise live))
      (known_apart key_cmp key_itself key_tied (value_entries live) (flat_map (λ e. gone_entries image e.0) (entries live)) (λ k x. IsSome (get image k))
      (λ d there. apart-flat2 (value_entries live d) (λ e. gone_entries image e.0) (entries live) (value_gone d there)) (entries image) (entries_rise image)
      (λ k x is. ap is_some (get-entries image k ∙ is)))

-- ---- metadata

abbrev Names : Type 0
Names = FinMap bytes_cmp Scalar

not_both : (x : Bool) → ((not (x && false) && true) && true) ≡ true
not_both true = refl
not_both false = refl

module _ (image live : FinMap key_cmp Names) where
  name_once : (key : Key) (e : List ℕ × Scalar) → is_once (name_entries live key e) ≡ true
  name_once key e = by (differs e.1 (value_at live key e.0)) where
    by : (b : Bool) → is_once (cond b (MetaSet key e.0 e.1 ∷ []) []) ≡ true
    by true = refl
    by false = refl

  name_apart : (key : Key) (d e : List ℕ × Scalar) → eq_by_cmp bytes_cmp d.0 e.0 ≡ false → are_apart (name_entries live key d) (name_entries live key e) ≡ true
  name_apart key d e other = by (differs d.1 (value_at live key d.0)) (differs e.1 (value_at live key e.0)) where
    by : (a b : Bool) → are_apart (cond a (MetaSet key d.0 d.1 ∷ []) []) (cond b (MetaSet key e.0 e.1 ∷ []) []) ≡ true
    by false b = refl
    by true false = refl
    by true true = ap (λ (c : Bool). (not (eq_by_cmp key_cmp key key && c) && true) && true) other ∙ not_both (eq_by_cmp key_cmp key key)

  name_other : (key q : Key) → eq_by_cmp key_cmp key q ≡ false → (d e : List ℕ × Scalar) → are_apart (name_entries live key d) (name_entries live q e) ≡ true
  name_other key q other d e = by (differs d.1 (value_at live key d.0)) (differs e.1 (value_at live q e.0)) where
    by : (a b : Bool) → are_apart (cond a (MetaSet key d.0 d.1 ∷ []) []) (cond b (MetaSet q e.0 e.1 ∷ []) []) ≡ true
    by false b = refl
    by true false = refl
    by true true = ap (λ (c : Bool). (not (c && eq_by_cmp bytes_cmp d.0 e.0) && true) && true) other

  key_once : (e : Key × Names) → is_once (key_entries live e) ≡ true
  key_once e = flat_once bytes_cmp (name_entries live e.0) (name_once e.0) (name_apart e.0) (entries e.1) (entries_rise e.1)

  key_apart : (d e : Key × Names) → eq_by_cmp key_cmp d.0 e.0 ≡ false → are_apart (key_entries live d) (key_entries live e) ≡ true
  key_apart d e other = apart-flat1 (name_entries live d.0) (key_entries live e) (entries d.1)
      (λ n. apart-flat2 (name_entries live d.0 n) (name_entries live e.0) (entries e.1) (name_other d.0 e.0 other n))

  gone_name_once : (key : Key) (e : List ℕ × Scalar) → is_once (gone_name_entries image key e.0) ≡ true
  gone_name_once key e = by (is_absent (value_at image key e.0)) where
    by : (b : Bool) → is_once (cond b (MetaGone key e.0 ∷ []) []) ≡ true
    by true = refl
    by false = refl

  gone_name_apart : (key : Key) (d e : List ℕ × Scalar) → eq_by_cmp bytes_cmp d.0 e.0 ≡ false
      → are_apart (gone_name_entries image key d.0) (gone_name_entries image key e.0) ≡ true
  gone_name_apart key d e other = by (is_absent (value_at image key d.0)) (is_absent (value_at image key e.0)) where
    by : (a b : Bool) → are_apart (cond a (MetaGone key d.0 ∷ []) []) (cond b (MetaGone key e.0 ∷ []) []) ≡ true
    by false b = refl
    by true false = refl
    by true true = ap (λ (c : Bool). (not (eq_by_cmp key_cmp key key && c) && true) && true) other ∙ not_both (eq_by_cmp key_cmp key key)

  gone_name_other : (key q : Key) → eq_by_cmp key_cmp key q ≡ false → (d e : List ℕ × Scalar)
      → are_apart (gone_name_entries image key d.0) (gone_name_entries image q e.0) ≡ true
  gone_name_other key q other d e = by (is_absent (value_at image key d.0)) (is_absent (value_at image q e.0)) where
    by : (a b : Bool) → are_apart (cond a (MetaGone key d.0 ∷ []) []) (cond b (MetaGone q e.0 ∷ []) []) ≡ true
    by false b = refl
    by true false = refl
    by true true = ap (λ (c : Bool). (not (c && eq_by_cmp bytes_cmp d.0 e.0) && true) && true) other

  gone_key_once : (e : Key × Names) → is_once (gone_key_entries image e) ≡ true
  gone_key_once e = flat_once bytes_cmp (λ n. gone_name_entries image e.0 n.0) (gone_name_once e.0) (gone_name_apart e.0) (entries e.1) (entries_rise e.1)

  gone_key_apart : (d e : Key × Names) → eq_by_cmp key_cmp d.0 e.0 ≡ false → are_apart (gone_key_entries image d) (gone_key_entries image e) ≡ true
  gone_key_apart d e other = apart-flat1 (λ n. gone_name_entries image d.0 n.0) (gone_key_entries image e) (entries d.1)
      (λ n. apart-flat2 (gone_name_entries image d.0 n.0) (λ m. gone_name_entries image e.0 m.0) (entries e.1) (gone_name_other d.0 e.0 other n))

  there_not_absent : (o : Option Scalar) → IsSome o → is_absent o ≡ false
  there_not_absent None some = absurd (cc some)
  there_not_absent (Some v) some = refl

  name_gone : (key : Key) (n : List ℕ × Scalar) → IsSome (value_at image key n.0) → (q : Key) (m : List ℕ × Scalar)
      → are_apart (name_entries live key n) (gone_name_entries image q m.0) ≡ true
  name_gone key n there q m = by (differs n.1 (value_at live key n.0)) (is_absent (value_at image q m.0)) refl (eq_by_cmp key_cmp key q) refl
      (eq_by_cmp bytes_cmp n.0 m.0) refl where
        by : (a b : Bool) → is_absent (value_at image q m.0) ≡ b → (c : Bool) → eq_by_cmp key_cmp key q ≡ c → (d : Bool) → eq_by_cmp bytes_cmp n.0 m.0 ≡ d
            → are_apart (cond a (MetaSet key n.0 n.1 ∷ []) []) (cond b (MetaGone q m.0 ∷ []) []) ≡ true
        by false b gone c is d at = refl
        by true false gone c is d at = refl
        by true true gone false is d at = ap (λ (c : Bool). (not (c && eq_by_cmp bytes_cmp n.0 m.0) && true) && true) is
        by true true gone true is false at = ap (λ (c : Bool). (not (c && eq_by_cmp bytes_cmp n.0 m.0) && true) && true) is
            ∙ ap (λ (d : Bool). (not (true && d) && true) && true) at
        by true true gone true is true at = absurd (cc (sym gone ∙ there_not_absent (value_at image q m.0)
            (subst (λ (k : Key). IsSome (value_at image k m.0)) (key_tied key q is)
            (subst (λ (r : List ℕ). IsSome (value_at image key r)) (name_tied n.0 m.0 at) there))))

  abbrev gones : List Entry
  gones = flat_map (gone_key_entries image) (entries live)

  name_gones : (key : Key) (n : List ℕ × Scalar) → IsSome (value_at image key n.0) → are_apart (name_entries live key n) gones ≡ true
  name_gones key n there = apart-flat2 (name_entries live key n) (gone_key_entries image) (entries live)
      (λ e. apart-flat2 (name_entries live key n) (λ m. gone_name_entries image e.0 m.0) (entries e.1) (name_gone key n there e.0))

  inner_value : (key : Key) (names : Names) (n : List ℕ) → get image key ≡ Some names → IsSome (get names n) → IsSome (value_at image key n)
  inner_value key names n is there = subst IsSome (sym (ap (λ (o : Option Names). get (unwrap_or o empty) n) is)) there

  key_gones : (e : Key × Names) → get image e.0 ≡ Some e.1 → are_apart (key_entries live e) gones ≡ true
  key_gones e is = known_apart bytes_cmp name_itself name_tied (name_entries live e.0) gones (λ n v. IsSome (value_at image e.0 n))
      (λ n there. name_gones e.0 n there)
      (entries e.1) (entries_rise e.1)
      (λ n v at. inner_value e.0 e.1 n is (ap is_some (get-entries e.1 n ∙ at)))

  metadata_once : is_once (flat_map (key_entries live) (entries image) ++ gones) ≡ true
  metadata_once = once-append (flat_map (key_entries live) (entries image)) gones
      (flat_once key_cmp (key_entries live) key_once key_apart (entries image) (entries_rise image))
      (flat_once key_cmp (gone_key_entries image) gone_key_once gone_key_apart (entries live) (entries_rise live))
      (known_apart key_cmp key_itself key_tied (key_entries live) gones (λ k x. get image k ≡ Some x) key_gones (entries image) (entries_rise image)
      (λ k x is. get-entries image k ∙ is))

-- ---- values and metadata, and what is single

live_set : (a b : Bool) (k q : Key) (v w : Scalar) (n : List ℕ) → are_apart (cond a (LiveSet k v ∷ []) []) (cond b (MetaSet q n w ∷ []) []) ≡ true
live_set false b k q v w n = refl
live_set true false k q v w n = refl
live_set true true k q v w n = refl

live_taken : (a b : Bool) (k q : Key) (v : Scalar) (n : List ℕ) → are_apart (cond a (LiveSet k v ∷ []) []) (cond b (MetaGone q n ∷ []) []) ≡ true
live_taken false b k q v n = refl
live_taken true false k q v n = refl
live_taken true true k q v n = refl

gone_set : (a b : Bool) (k q : Key) (w : Scalar) (n : List ℕ) → are_apart (cond a (LiveGone k ∷ []) []) (cond b (MetaSet q n w ∷ []) []) ≡ true
gone_set false b k q w n = refl
gone_set true false k q w n = refl
gone_set true true k q w n = refl

gone_taken : (a b : Bool) (k q : Key) (n : List ℕ) → are_apart (cond a (LiveGone k ∷ []) []) (cond b (MetaGone q n ∷ []) []) ≡ true
gone_taken false b k q n = refl
gone_taken true false k q n = refl
gone_taken true true k q n = refl

-- The place is none of the single ones.
pub record IsNotSingle (p : Place) : Type 0 where
  pub owed : is_same p TheOwed ≡ false
  pub image : is_same p TheImage ≡ false
  pub weak : is_same p TheWeak ≡ false

module _ (all : Bool) (added : List Key) (o : Owed) (before text : List ℕ) (weak : List Key) where
  abbrev singles : List Entry
  singles = owed_entries all added o ++ (image_entries before text ++ weak_entries weak added)

  un_owed : (p : Place) → is_same p TheOwed ≡ false → (o : Owed) → is_unnamed p (owed_entries all added o) ≡ true
  un_owed p other owed.All = refl
  un_owed p other (owed.Keys keys) = by all (list_all (has_key keys) added) where
    by : (a b : Bool) → is_unnamed p (cond a (OwedSet owed.All ∷ []) (cond b [] (OwedSet (owed.Keys (joined keys added)) ∷ []))) ≡ true
    by true b = ap (λ (c : Bool). not c && true) other
    by false true = refl
    by false false = ap (λ (c : Bool). not c && true) other

  un_image : (p : Place) → is_same p TheImage ≡ false → is_unnamed p (image_entries before text) ≡ true
  un_image p other = by (bytes_eq before text) where
    by : (b : Bool) → is_unnamed p (cond b [] (ImageSet text ∷ [])) ≡ true
    by true = refl
    by false = ap (λ (c : Bool). not c && true) other

  un_weak : (p : Place) → is_same p TheWeak ≡ false → (keys : List Key) → is_unnamed p (weak_entries weak keys) ≡ true
  un_weak p other [] = refl
  un_weak p other (k ∷ ks) = ap (λ (c : Bool). not c && true) other

  -- None of them names another place.
  pub un_singles : (p : Place) → IsNotSingle p → is_unnamed p singles ≡ true
  un_singles p other = unnamed-append p (owed_entries all added o) (image_entries before text ++ weak_entries weak added) (un_owed p other.owed o)
      (unnamed-append p (image_entries before text) (weak_entries weak added) (un_image p other.image) (un_weak p other.weak added))

  owed_once : (o : Owed) → is_once (owed_entries all added o) ≡ true
  owed_once owed.All = refl
  owed_once (owed.Keys keys) = by all (list_all (has_key keys) added) where
    by : (a b : Bool) → is_once (cond a (OwedSet owed.All ∷ []) (cond b [] (OwedSet (owed.Keys (joined keys added)) ∷ []))) ≡ true
    by true b = refl
    by false true = refl
    by false false = refl

  image_once : is_once (image_entries before text) ≡ true
  image_once = by (bytes_eq before text) where
    by : (b : Bool) → is_once (cond b [] (ImageSet text ∷ [])) ≡ true
    by true = refl
    by false = refl

  weak_once : (keys : List Key) → is_once (weak_entries weak keys) ≡ true
  weak_once [] = refl
  weak_once (k ∷ ks) = refl

  image_weak : are_apart (image_entries before text) (weak_entries weak added) ≡ true
  image_weak = by (bytes_eq before text) where
    by : (b : Bool) → are_apart (cond b [] (ImageSet text ∷ [])) (weak_entries weak added) ≡ true
    by true = refl
    by false = and_from _ _ (un_weak TheImage refl added) refl

  owed_rest : (o : Owed) → are_apart (owed_entries all added o) (image_entries before text ++ weak_entries weak added) ≡ true
  owed_rest owed.All = refl
  owed_rest (owed.Keys keys) = by all (list_all (has_key keys) added) where
    rest : is_unnamed TheOwed (image_entries before text ++ weak_entries weak added) ≡ true
    rest = unnamed-append TheOwed (image_entries before text) (weak_entries weak added) (un_image TheOwed refl) (un_weak TheOwed refl added)

    by : (a b : Bool) → are_apart (cond a (OwedSet owed.All ∷ []) (cond b [] (OwedSet (owed.Keys (joined keys added)) ∷ [])))
        (image_entries before text ++ weak_entries weak added) ≡ true
    by true b = and_from _ _ rest refl
    by false true = refl
    by false false = and_from _ _ rest refl

  singles_once : is_once singles ≡ true
  singles_once = once-append (owed_entries all added o) (image_entries before text ++ weak_entries weak added) (owed_once o)
      (once-append (image_entries before text) (weak_entries weak added) image_once (weak_once added) image_weak) (owed_rest o)

  live_single : (a : Bool) (k : Key) (v : Scalar) → are_apart (cond a (LiveSet k v ∷ []) []) singles ≡ true
  live_single false k v = refl
  live_single true k v = and_from _ _ (un_singles (Live k) (record { owed = refl; image = refl; weak = refl })) refl

  gone_single : (a : Bool) (k : Key) → are_apart (cond a (LiveGone k ∷ []) []) singles ≡ true
  gone_single false k = refl
  gone_single true k = and_from _ _ (un_singles (Live k) (record { owed = refl; image = refl; weak = refl })) refl

  meta_single : (a : Bool) (k : Key) (n : List ℕ) (v : Scalar) → are_apart (cond a (MetaSet k n v ∷ []) []) singles ≡ true
  meta_single false k n v = refl
  meta_single true k n v = and_from _ _ (un_singles (Meta k n) (record { owed = refl; image = refl; weak = refl })) refl

  taken_single : (a : Bool) (k : Key) (n : List ℕ) → are_apart (cond a (MetaGone k n ∷ []) []) singles ≡ true
  taken_single false k n = refl
  taken_single true k n = and_from _ _ (un_singles (Meta k n) (record { owed = refl; image = refl; weak = refl })) refl

-- ---- all together

module _ (boot : Bool) (image : Contents) (text : List ℕ) (h : Held) where
  open (parts_of boot image text h) use {added, all, vs, gs, ms, ds}

  abbrev ss : List Entry
  ss = singles all added h.owed h.image text h.live.weak

  vs_rest : are_apart vs (ms ++ ds) ≡ true
  vs_rest = apart-flat1 (value_entries h.live.values) (ms ++ ds) (entries image.values) (λ d. apart-append2 (value_entries h.live.values d) ms ds
      (apart-flat2 (value_entries h.live.values d) (key_entries h.live.metadata) (entries image.metadata)
      (λ e. apart-flat2 (value_entries h.live.values d) (name_entries h.live.metadata e.0) (entries e.1)
      (λ n. live_set (is_wanted (is_of_store d.0) d.1 (get h.live.values d.0)) (differs n.1 (value_at h.live.metadata e.0 n.0)) d.0 e.0 d.1 n.1 n.0)))
      (apart-flat2 (value_entries h.live.values d) (gone_key_entries image.metadata) (entries h.live.metadata)
      (λ e. apart-flat2 (value_entries h.live.values d) (λ n. gone_name_entries image.metadata e.0 n.0) (entries e.1)
      (λ n. live_taken (is_wanted (is_of_store d.0) d.1 (get h.live.values d.0)) (is_absent (value_at image.metadata e.0 n.0)) d.0 e.0 d.1 n.0))))

  gs_rest : are_apart gs (ms ++ ds) ≡ true
  gs_rest = apart-flat1 (λ e. gone_entries image.values e.0) (ms ++ ds) (entries h.live.values) (λ d. apart-append2 (gone_entries image.values d.0) ms ds
      (apart-flat2 (gone_entries image.values d.0) (key_entries h.live.metadata) (entries image.metadata)
      (λ e. apart-flat2 (gone_entries image.values d.0) (name_entries h.live.metadata e.0) (entries e.1)
      (λ n. gone_set (not (is_of_store d.0) && is_absent (get image.values d.0)) (differs n.1 (value_at h.live.metadata e.0 n.0)) d.0 e.0 n.1 n.0)))
      (apart-flat2 (gone_entries image.values d.0) (gone_key_entries image.metadata) (entries h.live.metadata)
      (λ e. apart-flat2 (gone_entries image.values d.0) (λ n. gone_name_entries image.metadata e.0 n.0) (entries e.1)
      (λ n. gone_taken (not (is_of_store d.0) && is_absent (get image.values d.0)) (is_absent (value_at image.metadata e.0 n.0)) d.0 e.0 n.0))))

  vs_single : are_apart vs ss ≡ true
  vs_single = apart-flat1 (value_entries h.live.values) ss (entries image.values)
      (λ d. live_single all added h.owed h.image text h.live.weak (is_wanted (is_of_store d.0) d.1 (get h.live.values d.0)) d.0 d.1)

  gs_single : are_apart gs ss ≡ true
  gs_single = apart-flat1 (λ e. gone_entries image.values e.0) ss (entries h.live.values)
      (λ d. gone_single all added h.owed h.image text h.live.weak (not (is_of_store d.0) && is_absent (get image.values d.0)) d.0)

  ms_single : are_apart ms ss ≡ true
  ms_single = apart-flat1 (key_entries h.live.metadata) ss (entries image.metadata) (λ e. apart-flat1 (name_entries h.live.metadata e.0) ss (entries e.1)
      (λ n. meta_single all added h.owed h.image text h.live.weak (differs n.1 (value_at h.live.metadata e.0 n.0)) e.0 n.0 n.1))

  ds_single : are_apart ds ss ≡ true
  ds_single = apart-flat1 (gone_key_entries image.metadata) ss (entries h.live.metadata)
      (λ e. apart-flat1 (λ n. gone_name_entries image.metadata e.0 n.0) ss (entries e.1)
      (λ n. taken_single all added h.owed h.image text h.live.weak (is_absent (value_at image.metadata e.0 n.0)) e.0 n.0))

  parts_once : is_once (((vs ++ gs) ++ ms) ++ ds) ≡ true
  parts_once = subst (λ (es : List Entry). is_once es ≡ true) (sym (append_assoc (vs ++ gs) ms ds))
      (once-append (vs ++ gs) (ms ++ ds) (values_once image.values h.live.values) (metadata_once image.metadata h.live.metadata)
      (apart-append1 vs gs (ms ++ ds) vs_rest gs_rest))

  -- No place is named twice.
  pub opening_once : is_once (opening_entries boot image text h) ≡ true
  opening_once = once-append (((vs ++ gs) ++ ms) ++ ds) ss parts_once (singles_once all added h.owed h.image text h.live.weak)
      (apart-append1 ((vs ++ gs) ++ ms) ds ss (apart-append1 (vs ++ gs) ms ss (apart-append1 vs gs ss vs_single gs_single) ms_single) ds_single)
