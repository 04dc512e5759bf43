-- The files of a part of a tree, by their paths.
use Rattle.std.proofs.Common.{◌≡◌, inl, inr, ◌⊎◌, Bool, true, false, cond, ◌||◌, is_some, List, [], ◌∷◌, Option, Some, None, refl, sym, ◌∙◌, ap, ℕ}
use Rattle.std.specs.FinMap.{empty, get, keys, get-empty, get-insert, get-remove, contains_key-keys}
use Rattle.std.specs.List.{list_any}
use Rattle.std.specs.Ordering.{eq_by_cmp}
use Rattle.outside.specs.Names.{Names, path_cmp}
use Rattle.outside.specs.Order.{path_total}
use Rattle.outside.specs.Tree.{Node, Tree, node_at, file_in}
use Rattle.outside.proofs.Trees.{path_cases}
use Rattle.settings_machine.specs.World.{Files}
use Rattle.settings_machine.specs.Step.{with_file}

get_with : (m : Files) (p : Names) (o : Option (List ℕ)) (q : Names) → get (with_file m p o) q ≡ cond (eq_by_cmp path_cmp q p) o (get m q)
get_with m p None q = get-remove path_total m p q
get_with m p (Some bytes) q = get-insert path_total m p bytes q

module _ (part : Names → Bool) (tree : Tree) where
  abbrev at : Names → Option (List ℕ)
  at path = file_in (node_at tree path)

  files_of : List Names → Files
  files_of [] = empty
  files_of (p ∷ ps) = cond (part p) (with_file (files_of ps) p (at p)) (files_of ps)

  -- A path of the part has what is at it, where it is among the paths, and else nothing.
  has_files : (ps : List Names) (q : Names) → part q ≡ true → get (files_of ps) q ≡ cond (list_any (eq_by_cmp path_cmp q) ps) (at q) None
  unfolding files_of
  has_files [] q here = get-empty path_cmp q
  has_files (p ∷ ps) q here = by (part p) refl (eq_by_cmp path_cmp q p) refl (path_cases q p) (has_files ps q here) where
    by : (b : Bool) → part p ≡ b → (same : Bool) → eq_by_cmp path_cmp q p ≡ same → (q ≡ p) ⊎ (eq_by_cmp path_cmp q p ≡ false)
        → get (files_of ps) q ≡ cond (list_any (eq_by_cmp path_cmp q) ps) (at q) None
        → get (cond b (with_file (files_of ps) p (at p)) (files_of ps)) q ≡ cond (same || list_any (eq_by_cmp path_cmp q) ps) (at q) None
    by true inside true tied (inl is) rest =
        get_with (files_of ps) p (at p) q ∙ ap (λ b. cond b (at p) (get (files_of ps) q)) tied ∙ ap at (sym is)
    by true inside true tied (inr other) rest = absurd (cc (tied, other))
    by true inside false tied is rest = get_with (files_of ps) p (at p) q ∙ ap (λ b. cond b (at p) (get (files_of ps) q)) tied ∙ rest
    by false outside true tied (inl is) rest = let inside = ap part is in absurd (cc (inside, here, outside))
    by false outside true tied (inr other) rest = absurd (cc (tied, other))
    by false outside false tied is rest = rest

  there : (o : Option Node) (b : Bool) → is_some o ≡ b → file_in o ≡ cond b (file_in o) None
  there None true is = absurd (cc is)
  there None false is = refl
  there (Some node) true is = refl
  there (Some node) false is = absurd (cc is)

  pub files_in : Files
  files_in = files_of (keys tree)

  pub has_files_in : (path : Names) → part path ≡ true → at path ≡ get files_in path
  unfolding files_in
  has_files_in path here =
      there (node_at tree path) (list_any (eq_by_cmp path_cmp path) (keys tree)) (contains_key-keys tree path) ∙ sym (has_files (keys tree) path here)
