-- The parts of the entries of the opening step, and what holds of lists that are made part by part.
use Rattle.std.proofs.Common.{◌≡◌, ◌||◌, ◌++◌, ℕ, List, [], ◌∷◌, Some, None, Bool, true, false, cond, not, refl, sym, ◌∙◌, ap}
use Rattle.std.specs.List.{flat_map}
use Rattle.std.specs.Str.{bytes_eq}
use Rattle.std.specs.declared.cmp.Ordering.{Ordering}
use Rattle.std.specs.Ordering.{eq_by_cmp}
use Rattle.std.specs.FinMap.{find, entries, is_sorted}
use Rattle.std.specs.FinMap.Entries.{below_all}
use Rattle.std.proofs.lemmas.Bool.{and_parts}
use Rattle.settings_tree.specs.Content.{Contents}
use Rattle.settings_tree.specs.declared.entry.Entry.{Entry}
use Rattle.settings_tree.specs.declared.held.Held.{Held}
use Rattle.opening_step.specs.Entries.{value_entries, gone_entries, key_entries, gone_key_entries, added_key}
use Rattle.opening_step.specs.Entries.{owed_entries, image_entries, weak_entries, opening_entries}
use Rattle.opening_step.proofs.InOrder.{behind}

-- ---- lists that are made of others

module _ {A : Type 0} (Q : List A → Type 0) (none : Q []) (more : (ls rs : List A) → Q ls → Q rs → Q (ls ++ rs)) where
  -- What holds of the list of each holds of all.
  pub flat_all : {X : Type 0} (f : X → List A) (xs : List X) → ((x : X) → Q (f x)) → Q (flat_map f xs)
  flat_all f [] each = none
  flat_all f (x ∷ xs) each = more (f x) (flat_map f xs) (each x) (flat_all f xs each)

-- The same of a map, entry by entry, where something is known of each.
module _ {K X A : Type 0} (R : K → K → Ordering) (own : (k : K) → eq_by_cmp R k k ≡ true) (alike : (a b : K) → eq_by_cmp R a b ≡ true → a ≡ b)
    (f : K × X → List A) (Q : List A → Type 0) (none : Q [])
    (more : (ls rs : List A) → Q ls → Q rs → Q (ls ++ rs)) (P : K → X → Type 0) (each : (e : K × X) → P e.0 e.1 → Q (f e)) where
  pub known_all : (es : List (K × X)) → is_sorted R es ≡ true → ((k : K) (x : X) → find R k es ≡ Some x → P k x) → Q (flat_map f es)
  known_all [] rises there = none
  known_all (e ∷ es) rises there = let both = and_parts (below_all R e.0 es) (is_sorted R es) rises in
      more (f e) (flat_map f es) (each e (there e.0 e.1 (ap (λ (b : Bool). cond b (Some e.1) (find R e.0 es)) (own e.0))))
      (known_all es both.1 (λ k x is. there k x (by k x is (behind R e.0 es both.0) (eq_by_cmp R k e.0) refl)))
    where
      by : (k : K) (x : X) → find R k es ≡ Some x → find R e.0 es ≡ None → (b : Bool) → eq_by_cmp R k e.0 ≡ b → cond b (Some e.1) (find R k es) ≡ Some x
      by k x is none false other = is
      by k x is none true same = absurd (cc (sym is ∙ ap (λ (q : K). find R q es) (alike k e.0 same) ∙ none))

-- ---- the parts

pub record Parts : Type 0 where
  -- The keys of the defaults that are added, and whether all is owed.
  pub added : List (List (List ℕ))
  pub all : Bool
  -- The values that are set and those that are taken away, and the same of metadata.
  pub vs : List Entry
  pub gs : List Entry
  pub ms : List Entry
  pub ds : List Entry
  -- What is owed, the image text, and the weak keys.
  pub os : List Entry
  pub ts : List Entry
  pub ws : List Entry

-- Those for an image and its text, over what is held.
abbrev pub parts_of : Bool → Contents → List ℕ → Held → Parts
parts_of boot image text h =
    let added : List (List (List ℕ)) = flat_map (λ e. added_key h.live.values e.0) (entries image.values) in
    let all : Bool = boot || not (bytes_eq h.image text) in
    record {
      added = added;
      all = all;
      vs = flat_map (value_entries h.live.values) (entries image.values);
      gs = flat_map (λ e. gone_entries image.values e.0) (entries h.live.values);
      ms = flat_map (key_entries h.live.metadata) (entries image.metadata);
      ds = flat_map (gone_key_entries image.metadata) (entries h.live.metadata);
      os = owed_entries all added h.owed;
      ts = image_entries h.image text;
      ws = weak_entries h.live.weak added;
    }

module _ (Q : List Entry → Type 0) (more : (es fs : List Entry) → Q es → Q fs → Q (es ++ fs)) (boot : Bool) (image : Contents) (text : List ℕ) (h : Held) where
  open (parts_of boot image text h) use {vs, gs, ms, ds, os, ts, ws}

  -- What holds of each part holds of all entries.
  pub all_parts : Q vs → Q gs → Q ms → Q ds → Q (os ++ (ts ++ ws)) → Q (opening_entries boot image text h)
  all_parts values gone names taken singles = more (((vs ++ gs) ++ ms) ++ ds) (os ++ (ts ++ ws))
      (more ((vs ++ gs) ++ ms) ds (more (vs ++ gs) ms (more vs gs values gone) names) taken) singles
