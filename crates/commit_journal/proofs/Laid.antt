-- Entries laid over files.
use Rattle.std.proofs.Common.{◌≡◌, inl, inr, ◌⊎◌, false, cond, List, [], ◌∷◌, ◌++◌, Option, None, refl, sym, ◌∙◌, ap, subst}
use Rattle.std.proofs.lemmas.List.{append_cancel_left}
use mathlib.Core.Path.{fun_ext}
use Rattle.std.specs.Ordering.{eq_by_cmp}
use Rattle.outside.specs.Names.{Names, path_cmp}
use Rattle.outside.specs.Tree.{Node, Tree, node_at, set_node}
use Rattle.outside.proofs.Trees.{path_cases, path_itself, node_at-set_node}
use Rattle.commit_journal.specs.Entries.{Entry, IsNamed, placed}
use Rattle.commit_journal.specs.Files.{node_of, Files, files_below, with_node, laid}
use Rattle.commit_journal.specs.Install.{installed}

-- the node is at its path
pub with_node_here : (files : Files) (at : Names) (node : Option Node) (p : Names) → p ≡ at → with_node files at node p ≡ node
with_node_here files at node p same = ap (λ q. with_node files at node q) same ∙ ap (λ b. cond b node (files at)) (path_itself at)

-- another path reads as before
pub with_node_other : (files : Files) (at : Names) (node : Option Node) (p : Names) → eq_by_cmp path_cmp p at ≡ false → with_node files at node p ≡ files p
with_node_other files at node p other = ap (λ b. cond b node (files p)) other

-- files that differ only where entries are named become one
pub laid_same : (entries : List Entry) (f g : Files) → ((p : Names) → IsNamed entries p ⊎ (f p ≡ g p)) → (p : Names) → laid entries f p ≡ laid entries g p
laid_same [] f g same p = elim (same p) [ inl named ↦ absurd named | inr is ↦ is ]
laid_same (entry ∷ entries) f g same p = laid_same entries (with_node f entry.0 (node_of entry.1)) (with_node g entry.0 (node_of entry.1)) step p
  where
    at : (q : Names) → (q ≡ entry.0) ⊎ (eq_by_cmp path_cmp q entry.0 ≡ false) → IsNamed (entry ∷ entries) q ⊎ (f q ≡ g q)
        → IsNamed entries q ⊎ (with_node f entry.0 (node_of entry.1) q ≡ with_node g entry.0 (node_of entry.1) q)
    at q (inl here) so = inr (with_node_here f entry.0 (node_of entry.1) q here ∙ sym (with_node_here g entry.0 (node_of entry.1) q here))
    at q (inr other) (inl (inl here)) = inr (with_node_here f entry.0 (node_of entry.1) q here ∙ sym (with_node_here g entry.0 (node_of entry.1) q here))
    at q (inr other) (inl (inr later)) = inl later
    at q (inr other) (inr is) = inr (with_node_other f entry.0 (node_of entry.1) q other ∙ is ∙ sym (with_node_other g entry.0 (node_of entry.1) q other))

    step : (q : Names) → IsNamed entries q ⊎ (with_node f entry.0 (node_of entry.1) q ≡ with_node g entry.0 (node_of entry.1) q)
    step q = at q (path_cases q entry.0) (same q)

-- so they are one choice of files
pub laid_equal : (entries : List Entry) (f g : Files) → ((p : Names) → IsNamed entries p ⊎ (f p ≡ g p)) → laid entries f ≡ laid entries g
laid_equal entries f g same = fun_ext (λ p. laid_same entries f g same p)

-- a path that is not named reads as before
pub laid_other : (entries : List Entry) (f : Files) (p : Names) → (IsNamed entries p → ⊥) → laid entries f p ≡ f p
laid_other [] f p not = refl
laid_other (entry ∷ entries) f p not = laid_other entries (with_node f entry.0 (node_of entry.1)) p (λ later. not (inr later)) ∙ elim (path_cases p entry.0) [
  | inl here ↦ absurd (not (inl here))
  | inr other ↦ with_node_other f entry.0 (node_of entry.1) p other
]

-- paths below one directory are told apart by what follows it
same_test : (dir p q : Names) → eq_by_cmp path_cmp (dir ++ p) (dir ++ q) ≡ eq_by_cmp path_cmp p q
same_test dir p q = go (path_cases p q) (path_cases (dir ++ p) (dir ++ q))
  where
    go : (p ≡ q) ⊎ (eq_by_cmp path_cmp p q ≡ false) → ((dir ++ p) ≡ (dir ++ q)) ⊎ (eq_by_cmp path_cmp (dir ++ p) (dir ++ q) ≡ false)
        → eq_by_cmp path_cmp (dir ++ p) (dir ++ q) ≡ eq_by_cmp path_cmp p q
    go (inl is) any = ap (λ (r : Names). eq_by_cmp path_cmp (dir ++ r) (dir ++ q)) is ∙ path_itself (dir ++ q)
        ∙ sym (ap (λ r. eq_by_cmp path_cmp r q) is ∙ path_itself q)
    go (inr other) (inl is) = ap (λ r. eq_by_cmp path_cmp r (dir ++ q)) is ∙ path_itself (dir ++ q)
        ∙ sym (ap (λ r. eq_by_cmp path_cmp r q) (append_cancel_left dir p q is) ∙ path_itself q)
    go (inr other) (inr apart) = apart ∙ sym other

-- a change of the tree below the directory
pub files_below-set_node : (dir : Names) (tree : Tree) (at : Names) (node : Option Node) → files_below dir (set_node tree (dir ++ at) node) ≡ with_node
    (files_below dir tree) at node
files_below-set_node dir tree at node = fun_ext (λ p. node_at-set_node tree (dir ++ at) node (dir ++ p)
    ∙ ap (λ b. cond b node (node_at tree (dir ++ p))) (same_test dir p at))

-- what is laid at a path depends on that path alone
pub laid_at : (entries : List Entry) (f g : Files) (p : Names) → f p ≡ g p → laid entries f p ≡ laid entries g p
laid_at [] f g p same = same
laid_at (entry ∷ entries) f g p same = laid_at entries (with_node f entry.0 (node_of entry.1)) (with_node g entry.0 (node_of entry.1)) p
    (ap (λ (n : Option Node). cond (eq_by_cmp path_cmp p entry.0) (node_of entry.1) n) same)

-- a path that no entry names may as well be set afterwards
pub laid-with_node : (entries : List Entry) (f : Files) (at : Names) (node : Option Node) → (IsNamed entries at → ⊥)
    → laid entries (with_node f at node) ≡ with_node (laid entries f) at node
laid-with_node entries f at node not = fun_ext (λ p. go p (path_cases p at))
  where
    go : (p : Names) → (p ≡ at) ⊎ (eq_by_cmp path_cmp p at ≡ false) → laid entries (with_node f at node) p ≡ with_node (laid entries f) at node p
    go p (inl here) = laid_other entries (with_node f at node) p (λ named. not (subst (λ q. IsNamed entries q) here named)) ∙ with_node_here f at node p here
        ∙ sym (with_node_here (laid entries f) at node p here)
    go p (inr other) = laid_at entries (with_node f at node) f p (with_node_other f at node p other) ∙ sym (with_node_other (laid entries f) at node p other)

-- what was put where nothing was is taken away
pub with_node_taken : (f : Files) (at : Names) (node : Option Node) → f at ≡ None → with_node (with_node f at node) at None ≡ f
with_node_taken f at node none = fun_ext (λ p. go p (path_cases p at))
  where
    go : (p : Names) → (p ≡ at) ⊎ (eq_by_cmp path_cmp p at ≡ false) → with_node (with_node f at node) at None p ≡ f p
    go p (inl here) = with_node_here (with_node f at node) at None p here ∙ sym (ap f here ∙ none)
    go p (inr other) = with_node_other (with_node f at node) at None p other ∙ with_node_other f at node p other

-- ---- whole paths

-- a place is below the directory, and its entry is named
pub named_placed : (dir : Names) (entries : List Entry) (p : Names) → IsNamed (placed dir entries) p → (rest : Names) × (p ≡ dir ++ rest) × IsNamed entries rest
named_placed dir [] p named = absurd named
named_placed dir (entry ∷ entries) p (inl here) = (entry.0, here, inl refl)
named_placed dir (entry ∷ entries) p (inr later) = let more = named_placed dir entries p later in (more.0, more.1, inr more.2)

-- a path below the directory that is a place is an entry's
pub named_below : (dir : Names) (entries : List Entry) (p : Names) → IsNamed (placed dir entries) (dir ++ p) → IsNamed entries p
named_below dir entries p named = let found = named_placed dir entries (dir ++ p) named in
    subst (λ q. IsNamed entries q) (sym (append_cancel_left dir p found.0 found.1)) found.2

-- entries in their places are laid over the files
pub installed_placed : (dir : Names) (entries : List Entry) (tree : Tree) → files_below dir (installed (placed dir entries) tree) ≡ laid entries
    (files_below dir tree)
installed_placed dir [] tree = refl
installed_placed dir (entry ∷ entries) tree = installed_placed dir entries (set_node tree (dir ++ entry.0) (node_of entry.1))
    ∙ ap (λ (f : Files). laid entries f) (files_below-set_node dir tree entry.0 (node_of entry.1))
