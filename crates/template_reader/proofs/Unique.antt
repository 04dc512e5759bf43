-- Items spell one tree at most.
use Rattle.std.proofs.Common.{◌≡◌, true, false, List, [], ◌∷◌, ◌++◌, refl, sym, ap, ◌∙◌, append_assoc, inl, inr}
use Rattle.std.specs.Prelude.{◌⊎◌}
use Rattle.std.proofs.lemmas.List.{append-nil}
use Rattle.template_reader.specs.Tree.{Tree, Branch, done, node, joined, block, test, each, Head}
use Rattle.template_reader.specs.Tree as trees
use Rattle.template_reader.specs.Taken.{Item, text, print, begin, otherwise, finish}
use Rattle.template_reader.specs.Nest.{Spells, SpellsOne, begin_item, finish_item}
use Rattle.template_reader.specs.Reading.{head}
use Rattle.template_reader.specs.declared.tag.Name.{Name}
use Rattle.template_reader.specs.declared.walk.Walk.{Walk}
use Rattle.template_reader.specs.declared.expr.Expr.{Expr}
use Rattle.template_reader.specs.contracts.expr.Expr as expr
use Rattle.template_reader.specs.contracts.walk.Walk as walk
use Rattle.template_reader.specs.contracts.tag.Name as name
use Rattle.std.specs.Coded.{Coded-set}
use mathlib.Core.HLevel.{collapsible→set}
use mathlib.Core.Sum.{⊎_set}
use mathlib.Core.List.{is_set}
use native.Mathlib.Nat.{ℕ_set}
use Rattle.template_reader.proofs.Trees.{joined-done}

-- At each depth, the nodes here and those after an else.
abbrev Levels : Type 0
Levels = List (Tree × Tree)

-- A node before those of the innermost level.
abbrev push : Branch → Levels → Levels
push b [] = []
push b (l ∷ ls) = (node b l.0, l.1) ∷ ls

-- Nodes before those of the innermost level.
abbrev put : Tree → Levels → Levels
put t [] = []
put t (l ∷ ls) = (joined t l.0, l.1) ∷ ls

-- The innermost level becomes a block of the one around it.
abbrev close : Head → Levels → Levels
close h [] = []
close h (l ∷ []) = []
close h (l ∷ m ∷ ls) = (node (block h l.0 l.1) m.0, m.1) ∷ ls

-- The nodes of the innermost level become its other part.
abbrev switch : Levels → Levels
switch [] = []
switch (l ∷ ls) = (done, l.0) ∷ ls

-- The items from the right.
abbrev nest : List Item → Levels
nest [] = (done, done) ∷ []
nest (text s ∷ is) = push (trees.text s) (nest is)
nest (print e ∷ is) = push (trees.print e) (nest is)
nest (begin n w ∷ is) = close (head n w) (nest is)
nest (otherwise ∷ is) = switch (nest is)
nest (finish n ∷ is) = (done, done) ∷ nest is

-- No nodes change nothing.
put-none : (ls : Levels) → ls ≡ put done ls
put-none [] = refl
put-none (l ∷ ls) = refl

-- A node before nodes is a longer tree.
push-put : (b : Branch) (t : Tree) (ls : Levels) → push b (put t ls) ≡ put (node b t) ls
push-put b t [] = refl
push-put b t (l ∷ ls) = refl

-- A level that is closed becomes a block.
close-put : (h : Head) (f o : Tree) (ls : Levels) → close h ((joined f done, o) ∷ ls) ≡ push (block h f o) ls
close-put h f o [] = refl
close-put h f o (l ∷ ls) = ap (λ (f : Tree). (node (block h f o) l.0, l.1) ∷ ls) (joined-done f)

-- A begin closes the level after it.
begins-with : (h : Head) (is : List Item) → nest (begin_item h ∷ is) ≡ close h (nest is)
begins-with (test true w) is = refl
begins-with (test false w) is = refl
begins-with (each w) is = refl

-- An end opens a level.
ends-with : (h : Head) (is : List Item) → nest (finish_item h ∷ is) ≡ (done, done) ∷ nest is
ends-with (test true w) is = refl
ends-with (test false w) is = refl
ends-with (each w) is = refl

-- An other part and the end open a level with that other part.
nest-other : (h : Head) (o : Tree) (two rest : List Item) → ((more rest : List Item) → Spells o more → nest (more ++ rest) ≡ put o (nest rest))
    → ((two ≡ []) × (o ≡ done)) ⊎ ((more : List Item) × (two ≡ otherwise ∷ more) × Spells o more)
    → nest (two ++ (finish_item h ∷ rest)) ≡ (done, o) ∷ nest rest
nest-other h o two rest again (inl p) = ap (λ l. nest (l ++ (finish_item h ∷ rest))) p.0 ∙ ends-with h rest ∙ ap (λ (u : Tree). (done, u) ∷ nest rest) (sym p.1)
nest-other h o two rest again (inr p) =
    ap (λ l. nest (l ++ (finish_item h ∷ rest))) p.1 ∙ ap switch (again p.0 (finish_item h ∷ rest) p.2 ∙ ap (put o) (ends-with h rest))
    ∙ ap (λ (u : Tree). (done, u) ∷ nest rest) (joined-done o)

mutual
  nest-spells : (t : Tree) (is rest : List Item) → Spells t is → nest (is ++ rest) ≡ put t (nest rest)
  nest-spells done is rest s = ap (λ l. nest (l ++ rest)) s ∙ put-none (nest rest)
  nest-spells (node b t) is rest s =
      ap (λ l. nest (l ++ rest)) s.2 ∙ ap nest (append_assoc s.0 s.1 rest) ∙ nest-one b s.0 (s.1 ++ rest) s.3
      ∙ ap (push b) (nest-spells t s.1 rest s.4) ∙ push-put b t (nest rest)

  nest-one : (b : Branch) (is rest : List Item) → SpellsOne b is → nest (is ++ rest) ≡ push b (nest rest)
  nest-one (trees.text x) is rest s = ap (λ l. nest (l ++ rest)) s
  nest-one (trees.print e) is rest s = ap (λ l. nest (l ++ rest)) s
  nest-one (block h f o) is rest s =
      ap (λ l. nest (l ++ rest)) s.2 ∙ begins-with h ((s.0 ++ s.1 ++ (finish_item h ∷ [])) ++ rest)
      ∙ ap (λ l. close h (nest l)) (append_assoc (s.0 ++ s.1) (finish_item h ∷ []) rest ∙ append_assoc s.0 s.1 (finish_item h ∷ rest))
      ∙ ap (close h) (nest-spells f s.0 (s.1 ++ (finish_item h ∷ rest)) s.3
      ∙ ap (put f) (nest-other h o s.1 rest (λ more rest r. nest-spells o more rest r) s.4))
      ∙ close-put h f o (nest rest)

-- Items spell one tree at most.
pub one_tree : (t u : Tree) (is : List Item) → Spells t is → Spells u is → t ≡ u
one_tree t u is s r =
    let a = nest-spells t is [] s in
    let b = nest-spells u is [] r in
    let c : (put t ((done, done) ∷ [])) ≡ put u ((done, done) ∷ []) = sym a ∙ b in
    sym (joined-done t) ∙ ap first_of c ∙ joined-done u
  where
    first_of : Levels → Tree
    first_of [] = done
    first_of (l ∷ ls) = l.0

-- A tree is known from the items that spell it, so trees are a set.
mutual
  spell : Tree → List Item
  spell done = []
  spell (node b t) = spell-one b ++ spell t

  spell-one : Branch → List Item
  spell-one (trees.text s) = text s ∷ []
  spell-one (trees.print e) = print e ∷ []
  spell-one (block h f o) = begin_item h ∷ spell f ++ (otherwise ∷ spell o) ++ (finish_item h ∷ [])

mutual
  unfolding spell spell-one

  spelled : (t : Tree) → Spells t (spell t)
  spelled done = refl
  spelled (node b t) = (spell-one b, spell t, refl, spelled-one b, spelled t)

  spelled-one : (b : Branch) → SpellsOne b (spell-one b)
  spelled-one (trees.text s) = refl
  spelled-one (trees.print e) = refl
  spelled-one (block h f o) = (spell f, otherwise ∷ spell o, refl, spelled f, inr (spell o, refl, spelled o))

-- The nodes of the innermost level.
innermost : Levels → Tree
innermost [] = done
innermost (l ∷ ls) = l.0

-- The items that spell a tree nest back to it.
back : (t : Tree) → innermost (nest (spell t)) ≡ t
unfolding innermost
back t = ap (λ l. innermost (nest l)) (sym (append-nil (spell t))) ∙ ap innermost (nest-spells t (spell t) [] (spelled t)) ∙ joined-done t

-- Expressions are a set.
expr-set : IsSet Expr
expr-set = Coded-set expr.the_row.coded

-- Paths are a set.
walk-set : IsSet Walk
walk-set = Coded-set walk.the_row.coded

-- Names are a set.
name-set : IsSet Name
name-set = Coded-set name.the_row.coded

-- Items are a set.
item-set : IsSet Item
item-set = hlevel (⊎_set, ℕ_set, expr-set, walk-set, name-set)

-- Trees are a set.
pub tree-set : IsSet Tree
tree-set = collapsible→set (λ x y p. sym (back x) ∙ ap (λ is. innermost (nest is)) (ap spell p) ∙ back y)
    (λ x y p q. ap (λ z. sym (back x) ∙ ap (λ is. innermost (nest is)) z ∙ back y) (is_set item-set (spell x) (spell y) (ap spell p) (ap spell q)))
