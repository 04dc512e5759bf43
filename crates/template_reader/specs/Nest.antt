-- How the items of a body nest to its syntax tree.
use Rattle.std.specs.Prelude.{◌≡◌, ℕ, List, [], ◌∷◌, ◌++◌, None, ◌⊎◌, if◌then◌else◌}
use Rattle.template_reader.specs.Spot.{spots}
use Rattle.template_reader.specs.Taken.{Item, text, print, begin, otherwise, finish, items_behind}
use Rattle.template_reader.specs.Fault.{body_fault}
use Rattle.template_reader.specs.Tree.{Tree, Branch, done, node, Head, test, each}
use Rattle.template_reader.specs.Tree as tree
use Rattle.template_reader.specs.declared.tag.Name.TheVariants as name

-- The begin of such a block.
abbrev pub begin_item : Head → Item
begin_item (test unless w) = begin (if unless then name.Unless else name.If) w
begin_item (each w) = begin name.Each w

-- The end of such a block.
abbrev pub finish_item : Head → Item
finish_item (test unless w) = finish (if unless then name.Unless else name.If)
finish_item (each w) = finish name.Each

-- The items spell the nodes: a block may have an else, and has one where its other part has nodes.
abbrev mutual
  pub Spells : Tree → List Item → Type 0
  Spells done items = items ≡ []
  Spells (node b t) items = (one : List Item) × (rest : List Item) × (items ≡ one ++ rest) × SpellsOne b one × Spells t rest

  pub SpellsOne : Branch → List Item → Type 0
  SpellsOne (tree.text s) items = items ≡ text s ∷ []
  SpellsOne (tree.print e) items = items ≡ print e ∷ []
  SpellsOne (tree.block h first other) items =
      (one : List Item) × (two : List Item) × (items ≡ begin_item h ∷ one ++ two ++ finish_item h ∷ [])
      × Spells first one
      × (((two ≡ []) × (other ≡ done)) ⊎ ((more : List Item) × (two ≡ otherwise ∷ more) × Spells other more))

-- A body without fault, and its tree, whose spans count in a source in which so many bytes are before the body.
pub record ParsesBody (base : ℕ) (body : List ℕ) (t : Tree) : Type 0 where
  pub faultless : body_fault body ≡ None
  pub nests : Spells t (items_behind base 0 (spots body))
