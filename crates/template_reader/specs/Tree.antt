-- The syntax tree: nodes one after another, each with the trees within it.
use Rattle.std.specs.Prelude.{Bool, List, [], ◌∷◌}
use Rattle.template_reader.specs.declared.walk.Walk.{Walk}
use Rattle.template_reader.specs.declared.expr.Expr.{Expr}
use Rattle.template_reader.specs.declared.expr.Expr.TheVariants.{Plain, Default, Decode, Json, JoinArray, JoinMap}
use Rattle.template_reader.specs.declared.span.Span.{Span}

-- The path of an expression.
abbrev pub walk_of : Expr → Walk
walk_of (Plain w) = w
walk_of (Default l w) = w
walk_of (Decode w) = w
walk_of (Json w) = w
walk_of (JoinArray j w) = w
walk_of (JoinMap j s f w) = w

-- What a block begins with: if or unless and its path, or each and its path.
pub data Head : Type 0 where
  test : Bool → Walk → Head
  each : Walk → Head

-- The nodes of a tree, and what each is.
mutual
  pub data Tree : Type 0 where
    done : Tree
    node : Branch → Tree → Tree

  pub data Branch : Type 0 where
    text : Span → Branch
    print : Expr → Branch
    block : Head → Tree → Tree → Branch

-- The tree of these nodes.
abbrev pub tree : List Branch → Tree
tree [] = done
tree (b ∷ bs) = node b (tree bs)

-- These nodes, and then those.
abbrev pub joined : Tree → Tree → Tree
joined done u = u
joined (node b t) u = node b (joined t u)
