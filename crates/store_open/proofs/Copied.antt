-- A directory that is copied node by node.
use Rattle.std.proofs.Common.{◌≡◌, inl, inr, ℕ, List, [], ◌∷◌, ◌++◌, ◌||◌, reverse, Option, Some, None, IsSome, Bool, true, false, cond}
use Rattle.std.proofs.Common.{refl, sym, ap, ◌∙◌, subst}
use mathlib.Core.Path.{fun_ext}
use Rattle.std.specs.Prelude.{option_map}
use Rattle.std.specs.Ordering.{eq_by_cmp}
use Rattle.std.specs.FinMap.{find, get-from_entries}
use Rattle.std.proofs.lemmas.List.{reverse-append, append-nil}
use Rattle.std.proofs.lemmas.List.Folds.{list_any-append}
use Rattle.outside.specs.Names.{Names, path_cmp}
use Rattle.outside.specs.Order.{path_total}
use Rattle.outside.specs.Tree as outside
use Rattle.outside.specs.Tree.{Tree, node_at, paths_below}
use Rattle.outside.specs.History.{History, begun, tree_of}
use Rattle.outside.specs.Told.{WhereTold}
use Rattle.outside.proofs.Told.{where_map, where_both}
use Rattle.outside.proofs.Trees.{path_cases, path_itself}
use Rattle.commit_journal.specs.Files.{files_below}
use Rattle.disk_memory.specs.Nodes.{node_of, nodes_of, tree_of_last}
use Rattle.disk_memory.specs.declared.node.Node.{Node}
use Rattle.fs_datastore.proofs.Listing.{in_list, each_listed}
use Rattle.store_open.specs.Copying.{HasOnly, CopiesOne}

-- ---- one node more

-- what the last of the nodes says of its path comes first
last_at : (old : List (Names × Node)) (path : Names) (node : Node) (q : Names) → node_at (tree_of_last (old ++ (path, node) ∷ [])) q
    ≡ cond (eq_by_cmp path_cmp q path) (Some (node_of node)) (node_at (tree_of_last old) q)
last_at old path node q = get-from_entries path_total (nodes_of (reverse (old ++ (path, node) ∷ []))) q
    ∙ ap (λ (es : List (Names × Node)). find path_cmp q (nodes_of es)) (reverse-append old ((path, node) ∷ []))
    ∙ ap (λ (o : Option outside.Node). cond (eq_by_cmp path_cmp q path) (Some (node_of node)) o)
    (sym (get-from_entries path_total (nodes_of (reverse old)) q))

one_more : (paths : List Names) (path q : Names) → in_list q (paths ++ path ∷ []) ≡ (in_list q paths || (eq_by_cmp path_cmp q path || false))
one_more paths path q = list_any-append (eq_by_cmp path_cmp q) paths (path ∷ [])

or_true : (a : Bool) → (a || (true || false)) ≡ true
or_true true = refl
or_true false = refl

or_false : (a : Bool) → (a || (false || false)) ≡ a
or_false true = refl
or_false false = refl

module _ (paths : List Names) (path : Names) (tree : Tree) where
  -- what is wanted at the path, and elsewhere
  here : (q : Names) → q ≡ path → cond (in_list q (paths ++ path ∷ [])) (node_at tree q) None ≡ node_at tree path
  here q is = ap (λ (b : Bool). cond b (node_at tree q) None)
      (one_more paths path q ∙ ap (λ (b : Bool). in_list q paths || (b || false)) (ap (λ (x : Names). eq_by_cmp path_cmp x path) is ∙ path_itself path)
      ∙ or_true (in_list q paths)) ∙ ap (node_at tree) is

  elsewhere : (q : Names) → eq_by_cmp path_cmp q path ≡ false
      → cond (in_list q (paths ++ path ∷ [])) (node_at tree q) None ≡ cond (in_list q paths) (node_at tree q) None
  elsewhere q other = ap (λ (b : Bool). cond b (node_at tree q) None)
      (one_more paths path q ∙ ap (λ (b : Bool). in_list q paths || (b || false)) other ∙ or_false (in_list q paths))

  some_more : (old : List (Names × Node)) (node : Node) → Some (node_of node) ≡ node_at tree path → HasOnly paths tree (tree_of_last old)
      → HasOnly (paths ++ path ∷ []) tree (tree_of_last (old ++ (path, node) ∷ []))
  some_more old node is so_far = record {
    at = λ q. last_at old path node q ∙ elim (path_cases q path) [
      | inl same ↦
          ap (λ (b : Bool). cond b (Some (node_of node)) (node_at (tree_of_last old) q))
          (ap (λ (x : Names). eq_by_cmp path_cmp x path) same ∙ path_itself path) ∙ is ∙ sym (here q same)
      | inr other ↦
          ap (λ (b : Bool). cond b (Some (node_of node)) (node_at (tree_of_last old) q)) other ∙ so_far.at q
          ∙ sym (elsewhere q other)
    ];
  }

  none_more : (copy : Tree) → None ≡ node_at tree path → HasOnly paths tree copy → HasOnly (paths ++ path ∷ []) tree copy
  none_more copy is so_far = record {
    at = λ q. so_far.at q ∙ elim (path_cases q path) [
      | inl same ↦ nothing (in_list q paths) (node_at tree q) (ap (node_at tree) same ∙ sym is) ∙ is ∙ sym (here q same)
      | inr other ↦ sym (elsewhere q other)
    ];
  }
    where
      nothing : (b : Bool) (o : Option outside.Node) → o ≡ None → cond b o None ≡ None
      nothing true o none = none
      nothing false o none = refl

-- a node was found and put after the others
pub copies_some : (a : Option History) (path : Names) (o : Option Node) (node : Node) (old new : List (Names × Node)) → o ≡ Some node
    → new ≡ old ++ (path, node) ∷ [] → WhereTold a (λ h. option_map node_of o ≡ node_at (tree_of h) path)
    → WhereTold a (λ h. CopiesOne path (tree_of h) old new)
copies_some a path o node old new some is found = where_map (λ h at. record {
  copied = λ paths so_far. subst (λ (l : List (Names × Node)). HasOnly (paths ++ path ∷ []) (tree_of h) (tree_of_last l)) (sym is)
      (some_more paths path (tree_of h) old node (sym (ap (option_map node_of) some) ∙ at) so_far);
}) found

-- none was found
pub copies_none : (a : Option History) (path : Names) (o : Option Node) (old : List (Names × Node)) → o ≡ None
    → WhereTold a (λ h. option_map node_of o ≡ node_at (tree_of h) path) → WhereTold a (λ h. CopiesOne path (tree_of h) old old)
copies_none a path o old none found = where_map (λ h at. record {
  copied = λ paths so_far. none_more paths path (tree_of h) (tree_of_last old) (sym (ap (option_map node_of) none) ∙ at) so_far;
}) found

-- ---- all of them

pub nothing_copied : (tree : Tree) → HasOnly [] tree (tree_of_last [])
nothing_copied tree = record { at = λ q. get-from_entries path_total (nodes_of []) q }

module _ (dir : Names) (tree copy : Tree) (has : HasOnly (paths_below dir tree ++ dir ∷ []) tree copy) where
  unlisted : (q : Names) → node_at tree q ≡ None → node_at copy q ≡ None
  unlisted q none = has.at q ∙ nothing (in_list q (paths_below dir tree ++ dir ∷ [])) (node_at tree q) none where
    nothing : (b : Bool) (o : Option outside.Node) → o ≡ None → cond b o None ≡ None
    nothing true o none = none
    nothing false o none = refl

  listed : (q : Names) → in_list q (paths_below dir tree) ≡ true → node_at copy q ≡ node_at tree q
  listed q is = has.at q ∙ ap (λ (b : Bool). cond b (node_at tree q) None)
      (one_more (paths_below dir tree) dir q ∙ ap (λ (b : Bool). b || (eq_by_cmp path_cmp q dir || false)) is)

  below : (name : List ℕ) (rest : Names) → node_at copy (dir ++ name ∷ rest) ≡ node_at tree (dir ++ name ∷ rest)
  below name rest = by (node_at tree (dir ++ name ∷ rest)) refl where
    by : (o : Option outside.Node) → node_at tree (dir ++ name ∷ rest) ≡ o → node_at copy (dir ++ name ∷ rest) ≡ node_at tree (dir ++ name ∷ rest)
    by None is = unlisted (dir ++ name ∷ rest) is ∙ sym is
    by (Some n) is = listed (dir ++ name ∷ rest) (each_listed dir tree name rest (subst IsSome (sym is) refl))

  itself : node_at copy dir ≡ node_at tree dir
  itself = has.at dir ∙ here (paths_below dir tree) dir tree dir refl

  same_at : (q : Names) → files_below dir copy q ≡ files_below dir tree q
  same_at [] = ap (node_at copy) (append-nil dir) ∙ itself ∙ sym (ap (node_at tree) (append-nil dir))
  same_at (name ∷ rest) = below name rest

  pub same_files : files_below dir copy ≡ files_below dir tree
  same_files = fun_ext same_at

-- the copy of a directory has its files
pub copied_files : (a : Option History) (dir : Names) (paths whole : List Names) (nodes : List (Names × Node)) (copy : History)
    → whole ≡ paths ++ dir ∷ [] → copy ≡ begun (tree_of_last nodes) → WhereTold a (λ h. paths ≡ paths_below dir (tree_of h))
    → WhereTold a (λ h. HasOnly whole (tree_of h) (tree_of_last nodes)) → WhereTold a (λ h. files_below dir (tree_of copy) ≡ files_below dir (tree_of h))
copied_files a dir paths whole nodes copy all is list has = where_map (λ h both. ap (λ (k : History). files_below dir (tree_of k)) is
    ∙ same_files dir (tree_of h) (tree_of_last nodes)
    (subst (λ (ps : List Names). HasOnly ps (tree_of h) (tree_of_last nodes)) (all ∙ ap (λ (ps : List Names). ps ++ dir ∷ []) both.0) both.1))
    (where_both list has)
