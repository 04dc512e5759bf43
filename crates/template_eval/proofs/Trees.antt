-- Nodes of a template, one after another.
use Rattle.std.proofs.Common.{◌≡◌, ℕ, ◌+◌, ◌<◌, ◌≤◌, List, [], ◌∷◌, ◌++◌, length, drop, get_or, sym, ap, ◌∙◌, arith, suc, subst}
use Rattle.std.proofs.lemmas.List.{drop_all}
use Rattle.std.proofs.Math.Seq.{drop-cons}
use Rattle.template_reader.specs.Tree.{Tree, Branch, done, node, text, print, block, each}
use Rattle.template_reader.specs.Forest.{tree_of, branch_of, tree_in, branch_step, tree_step}
use Rattle.template_reader.specs.Spans.{RiseWithin, spans_of, spans_in}
use Rattle.template_reader.specs.declared.span.Span.{Span}
use Rattle.template_reader.specs.declared.node.Node.{Node, fold-roll-Node}
use Rattle.template_reader.specs.declared.node.Node.TheOpen.{Node-F}
use Rattle.template_reader.specs.declared.node.Node.TheVariants.{Each, rolls-Each}
use Rattle.template_reader.specs.declared.node.Nodes.{Nodes}
use Rattle.template_reader.specs.declared.walk.Walk.{Walk}
use Rattle.template_eval.specs.Lies.{Lies, LiesOne, size, size_one}

add-one' : (i : ℕ) → suc i ≡ i + 1
add-one' i = omega arith

-- The node that is next.
pub next_node : (nodes : List Node) (i : ℕ) (n : Node) → i < length nodes → n ≡ get_or nodes i n
    → tree_of (drop i nodes) ≡ node (branch_of n) (tree_of (drop (i + 1) nodes))
next_node nodes i n h e =
    ap tree_of (drop-cons nodes i n h) ∙ ap (λ (x : Node). node (branch_of x) (tree_of (drop (suc i) nodes))) (sym e)
    ∙ ap (λ k. node (branch_of n) (tree_of (drop k nodes))) (add-one' i)

-- No node is left.
pub no_node : (nodes : List Node) (i : ℕ) → length nodes ≤ i → tree_of (drop i nodes) ≡ done
no_node nodes i h = ap tree_of (drop_all i nodes h)

-- What is known of the nodes that are left.
pub record Left (source : List ℕ) (nodes : List Node) (i : ℕ) : Type 0 where
  pub lies : Lies (length source) (tree_of (drop i nodes))
  pub small : size (tree_of (drop i nodes)) ≤ size (tree_of nodes)

-- The next node lies in the source and is smaller than all nodes, and so are those after it.
pub next_lies : (source : List ℕ) (nodes : List Node) (i : ℕ) (n : Node) → Left source nodes i → i < length nodes → n ≡ get_or nodes i n
    → LiesOne (length source) (branch_of n) × (size_one (branch_of n) + 1 < size (tree_of nodes)) × Left source nodes (i + 1)
next_lies source nodes i n l h e =
    let k = next_node nodes i n h e in
    let P : Tree → Type 0 = λ t. Lies (length source) t in
    let both = subst P k l.lies in
    let m : size (tree_of (drop i nodes)) ≡ 2 + size_one (branch_of n) + size (tree_of (drop (i + 1) nodes)) = ap size k in
    (both.0, omega (arith, m, l.small), record { lies = both.1; small = omega (arith, m, l.small) })

-- The spans lie within so many bytes.
abbrev AllWithin : ℕ → List Span → Type 0
AllWithin n [] = Unit {0}
AllWithin n (s ∷ ss) = ((s.start ≤ s.end) × (s.end ≤ n)) × AllWithin n ss

low_within : (low n : ℕ) (ss : List Span) → RiseWithin low ss n → low ≤ n
low_within low n [] r = r
low_within low n (s ∷ ss) r = let rest = low_within s.end n ss r.2 in omega (arith, r.0, r.1, rest)

all_within : (low n : ℕ) (ss : List Span) → RiseWithin low ss n → AllWithin n ss
all_within low n [] r = tt
all_within low n (s ∷ ss) r = ((omega (arith, r.1), low_within s.end n ss r.2), all_within s.end n ss r.2)

within_parts : (n : ℕ) (xs ys : List Span) → AllWithin n (xs ++ ys) → AllWithin n xs × AllWithin n ys
within_parts n [] ys a = (tt, a)
within_parts n (x ∷ xs) ys a = let rest = within_parts n xs ys a.1 in ((a.0, rest.0), rest.1)

mutual
  lies_all : (n : ℕ) (t : Tree) → AllWithin n (spans_of t) → Lies n t
  lies_all n done a = tt
  lies_all n (node b t) a = let parts = within_parts n (spans_in b) (spans_of t) a in (lies_one n b parts.0, lies_all n t parts.1)

  lies_one : (n : ℕ) (b : Branch) → AllWithin n (spans_in b) → LiesOne n b
  lies_one n (text s) a = a.0
  lies_one n (print e) a = tt
  lies_one n (block h first other) a = let parts = within_parts n (spans_of first) (spans_of other) a in (lies_all n first parts.0, lies_all n other parts.1)

-- The spans of a template that was read lie in its source.
pub lies_read : (n : ℕ) (t : Tree) → RiseWithin 0 (spans_of t) n → Lies n t
lies_read n t r = lies_all n t (all_within 0 n (spans_of t) r)

-- How an each is seen.
pub branch-each : (w : Walk) (first other : Nodes) → branch_of (Each w first other) ≡ block (each w) (tree_in first) (tree_in other)
branch-each w first other = ap branch_of (sym (rolls-Each w first other)) ∙ fold-roll-Node Branch Tree branch_step tree_step (Node-F.Each w first other)
