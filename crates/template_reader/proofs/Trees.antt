-- Trees and their spellings, one after another.
use Rattle.std.proofs.Common.{◌≡◌, ℕ, ◌+◌, ◌≤◌, Bool, true, false, List, [], ◌∷◌, ◌++◌, map, refl, sym, ap, ◌∙◌, arith, append_assoc, if◌then◌else◌, subst}
use Rattle.std.specs.Prelude.{nat_lt}
use Rattle.std.proofs.lemmas.List.{append-nil, map_push}
use Rattle.std.proofs.lemmas.Bool.Decides.{nat_tests}
use Rattle.template_reader.specs.Tree.{Tree, Branch, done, node, joined, tree, Head}
use Rattle.template_reader.specs.Tree as trees
use Rattle.template_reader.specs.Taken.{Item, text_item, text}
use Rattle.template_reader.specs.Nest.{Spells, SpellsOne}
use Rattle.template_reader.specs.Reading.{text_tree}
use Rattle.template_reader.specs.Forest.{tree_of, branch_of}
use Rattle.template_reader.specs.declared.node.Node.{Node}

-- A tree joined with no nodes is the tree.
pub joined-done : (t : Tree) → joined t done ≡ t
joined-done done = refl
joined-done (node b t) = ap (node b) (joined-done t)

-- Joining trees is associative.
pub joined-joined : (t u v : Tree) → joined (joined t u) v ≡ joined t (joined u v)
joined-joined done u v = refl
joined-joined (node b t) u v = ap (node b) (joined-joined t u v)

-- The tree of nodes and more nodes is joined of both trees.
tree-append : (xs ys : List Branch) → tree (xs ++ ys) ≡ joined (tree xs) (tree ys)
tree-append [] ys = refl
tree-append (b ∷ xs) ys = ap (node b) (tree-append xs ys)

-- A node that is pushed is joined at the end.
pub tree-push : (xs : List Node) (n : Node) → tree_of (xs ++ n ∷ []) ≡ joined (tree_of xs) (node (branch_of n) done)
tree-push xs n = ap tree (map_push branch_of xs n) ∙ tree-append (map branch_of xs) (branch_of n ∷ [])

-- A number that is no less fails the test.
nat_lt-false : (m n : ℕ) → n ≤ m → nat_lt m n ≡ false
nat_lt-false m n h = grind (arith, nat_tests)

-- A text without a byte adds nothing.
pub no_text : (base : ℕ) (t : Tree) (m n : ℕ) → n ≤ m → t ≡ joined t (text_tree base m n)
no_text base t m n h = sym (joined-done t) ∙ ap (joined t) (rw (nat_lt-false m n h) refl)

-- The item of a text spells its tree, whether a byte is left or not.
spells-text-if : (t : Bool) (m n : ℕ) → Spells (if t then node (trees.text (record { start = m; end = n })) done else done)
    (if t then text (record { start = m; end = n }) ∷ [] else [])
spells-text-if true m n = (text (record { start = m; end = n }) ∷ [], [], refl, refl, refl)
spells-text-if false m n = refl

-- The item of a text spells its tree.
pub spells-text : (base m n : ℕ) → Spells (text_tree base m n) (text_item base m n)
spells-text base m n = spells-text-if (nat_lt m n) (base + m) (base + n)

-- What spells a node spells the tree of this node alone.
pub spells-one : (b : Branch) (a : List Item) → SpellsOne b a → Spells (node b done) a
spells-one b a s = (a, [], sym (append-nil a), s, refl)

-- What spells two trees spells them joined.
pub spells-joined : (t u : Tree) (a b : List Item) → Spells t a → Spells u b → Spells (joined t u) (a ++ b)
spells-joined done u a b s r = let P : List Item → Type 0 = λ l. Spells u l in subst P (ap (λ l. l ++ b) (sym s)) r
spells-joined (node x t) u a b s r =
    (s.0, s.1 ++ b, ap (λ l. l ++ b) s.2 ∙ append_assoc s.0 s.1 b, s.3, spells-joined t u s.1 b s.4 r)
