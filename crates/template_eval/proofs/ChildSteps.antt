-- The children of a path, one after another.
use Rattle.std.proofs.Common.{◌≡◌, ◌<◌, ℕ, suc, List, [], ◌∷◌, ◌++◌, length, map, Bool, true}
use Rattle.std.proofs.Common.{false, cond, Option, Some, None, refl, sym, ◌∙◌, ap, arith, append-nil, length-append}
use Rattle.std.specs.Prelude.{◌==◌, ◌&&◌, not, slice_get, is_some, IfSome, IfNone}
use Rattle.std.specs.Borrow.{Bor}
use Rattle.std.specs.Ordering.{is_eq, is_gt}
use Rattle.std.specs.FinMap.{FinMap, get, entries, find, get-entries}
use Rattle.std.proofs.lemmas.Cmp.{tied_itself}
use Rattle.key_names.specs.Order.{bytes_cmp, bytes_total, bytes_cmp-IsAntisymmetric, key_cmp}
use Rattle.key_names.specs.Key.{is_prefix}
use Rattle.settings_maps.specs.Maps.{HasNoneAfter}
use Rattle.settings_tree.specs.Walks.{entries_past, IsLeastBelow, HasNoneBelow}
use Rattle.settings_tree.proofs.Walks.{walk_start, walk_next, walk_end}
use Rattle.template_eval.specs.Place.{Path, Place}
use Rattle.template_eval.specs.Children.{name_below, names_below, child, children_below}
use Rattle.template_eval.specs.Steps.{IsNextChild, name_at}
use Rattle.template_eval.proofs.NameOrder.{cmp-behind, name_there, begins-name_below}
use Rattle.template_eval.proofs.NameSets.{key_of_name, name_of_key}
use Rattle.template_eval.proofs.NextNames.{nothing, none_there}
use Rattle.key_names.proofs.Prefixes.{behind}

-- A path begins with itself.
pub prefix_itself : (p : Path) → is_prefix p p ≡ true
prefix_itself [] = refl
prefix_itself (n ∷ p) = ap (λ r. is_eq r && is_prefix p p) (tied_itself bytes_total n) ∙ prefix_itself p

module _ {X : Type 0} (values : FinMap key_cmp X) (p : Path) where
  -- The children whose names are past that of a key.
  abbrev pub children_past : Path → List Place
  children_past after = map (λ e. child p e.0) (entries_past (names_below values p) (name_below p after))

  -- The next child is the first of those that are left.
  pub next_child_is : (after key : Path) (x : X) → IsNextChild values p after key x → children_past after ≡ child p (name_at p key) ∷ children_past key
  next_child_is after key x next =
      ap (λ es. map (λ e. child p e.0) es) (walk_next bytes_total bytes_cmp-IsAntisymmetric (names_below values p) (name_below p after) (name_at p key) tt
      next.next)
      ∙ ap (λ (o : Option (List ℕ)). child p (name_at p key) ∷ map (λ e. child p e.0) (entries_past (names_below values p) o))
      (sym (name_there p key next.begins next.longer))

  -- Where no name is left, no child is.
  pub no_child_is : (after : Path) → HasNoneAfter (names_below values p) (name_below p after) → children_past after ≡ []
  no_child_is after end = ap (λ es. map (λ e. child p e.0) es) (walk_end bytes_total bytes_cmp-IsAntisymmetric (names_below values p) (name_below p after) end)

  get_none : (k : Path) → slice_get k (length k) ≡ None
  get_none [] = refl
  get_none (n ∷ k) = get_none k

  name_of_itself : (b : Bool) → cond b (slice_get p (length p)) None ≡ None
  name_of_itself true = get_none p
  name_of_itself false = refl

  mapped : (es : List (List ℕ × Unit {0})) → map (child p) (map (λ e. e.0) es) ≡ map (λ e. child p e.0) es
  mapped [] = refl
  mapped (e ∷ es) = ap (λ (l : List Place). child p e.0 ∷ l) (mapped es)

  -- All children are past the path itself.
  pub children_start : children_below values p ≡ children_past p
  children_start =
      mapped (entries (names_below values p)) ∙ ap (λ es. map (λ e. child p e.0) es)
      (sym (walk_start bytes_total bytes_cmp-IsAntisymmetric (names_below values p)))
      ∙ ap (λ (o : Option (List ℕ)). map (λ e. child p e.0) (entries_past (names_below values p) o)) (sym (name_of_itself (is_prefix p p)))

  -- Nothing is below a path: no value, and no child.
  pub nothing_below : HasNoneBelow values p None → (get values p ≡ None) × (children_below values p ≡ [])
  nothing_below end = (
    end.none p tt (prefix_itself p),
    children_start ∙ no_child_is p (record {
      none = λ q past. nothing (get (names_below values p) q)
          (λ has. let from = key_of_name p values q has in none_there (get values from.0) (end.none from.0 tt (begins-name_below p from.0 q from.2)) from.1);
    }),
  )

  not_first : (rest : Path) → is_gt (key_cmp rest []) ≡ false → rest ≡ []
  not_first [] low = refl
  not_first (n ∷ rest) low = absurd (cc low)

  -- Where the first key from a path on goes on beyond it, no value is at the path.
  pub no_value : (k : Path) (x : X) → IsLeastBelow values p None k x → length p < length k → get values p ≡ None
  no_value k x first longer = nothing (get values p) (λ has. by (behind p k first.begins).0 (behind p k first.begins).1
      (first.least p tt (prefix_itself p) has)) where
        by : (rest : Path) → k ≡ p ++ rest → is_gt (key_cmp k p) ≡ false → ⊥
        by rest is low =
            let empty : rest ≡ [] = not_first rest (ap is_gt (sym (ap (λ (l : Path). key_cmp l p) is ∙ ap (key_cmp (p ++ rest)) (sym (append-nil p))
            ∙ cmp-behind p rest [])) ∙ low) in
            omega (arith, ap length is, length-append p rest, ap length empty)

  -- And the path has a child.
  pub some_child : (k : Path) (x : X) → IsLeastBelow values p None k x → length p < length k
      → (c : Place) × (cs : List Place) × (children_below values p ≡ c ∷ cs)
  some_child k x first longer =
      by (entries (names_below values p)) refl (sym (get-entries (names_below values p) (name_at p k))
      ∙ name_of_key p values k x (name_at p k) first.stands (name_there p k first.begins longer))
    where
      by : (es : List (List ℕ × Unit {0})) → entries (names_below values p) ≡ es → find bytes_cmp (name_at p k) (entries (names_below values p)) ≡ Some tt
          → (c : Place) × (cs : List Place) × (children_below values p ≡ c ∷ cs)
      by [] is has = absurd (cc (sym has ∙ ap (find bytes_cmp (name_at p k)) is))
      by (e ∷ es) is has = (child p e.0, map (child p) (map (λ e. e.0) es), ap (λ (l : List (List ℕ × Unit {0})). map (child p) (map (λ e. e.0) l)) is)

  nonzero : (n : ℕ) → (suc n == 0) ≡ false
  nonzero n = grind arith

  -- Whether there is no child past a key.
  pub no_children : (after : Path) (o : Option (Bor Path × Bor X)) (b : Bool) → is_some o ≡ not b → IfSome o (λ e. IsNextChild values p after e.0.now e.1.now)
      → IfNone o (HasNoneAfter (names_below values p) (name_below p after))
      → b ≡ (length (children_past after) == 0)
  no_children after None true is next none = sym (ap (λ (l : List Place). length l == 0) (no_child_is after none))
  no_children after None false is next none = absurd (cc is)
  no_children after (Some e) true is next none = absurd (cc is)
  no_children after (Some e) false is next none =
      sym (ap (λ (l : List Place). length l == 0) (next_child_is after e.0.now e.1.now next) ∙ nonzero (length (children_past e.0.now)))

  -- The first key from a path on, where it has as many names, is the path.
  pub same_key : (k : Path) → is_prefix p k ≡ true → length k ≡ length p → k ≡ p
  same_key k begins same = by (behind p k begins).0 (behind p k begins).1 where
    by : (rest : Path) → k ≡ p ++ rest → k ≡ p
    by [] is = is ∙ append-nil p
    by (n ∷ rest) is = absurd (omega (arith, ap length is, length-append p (n ∷ rest)))

  -- A key that begins with a path and has another number of names goes on beyond it.
  pub longer_key : (k : Path) → is_prefix p k ≡ true → (length k ≡ length p → ⊥) → length p < length k
  longer_key k begins other = by (behind p k begins).0 (behind p k begins).1 where
    by : (rest : Path) → k ≡ p ++ rest → length p < length k
    by [] is = absurd (other (ap length (is ∙ append-nil p)))
    by (n ∷ rest) is = omega (arith, ap length is, length-append p (n ∷ rest))
