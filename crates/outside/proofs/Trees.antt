-- Trees by what is at each path.
use Rattle.std.proofs.Common.{◌≡◌, inl, inr, ◌⊎◌, true, false, cond, Option, Some, None, refl, ◌∙◌, ap}
use Rattle.std.specs.declared.cmp.Ordering.TheVariants.{Less, Equal, Greater}
use Rattle.std.specs.Ordering.{eq_by_cmp, is_eq}
use Rattle.std.specs.Cmp.{eq_by_cmp_equiv}
use Rattle.std.specs.FinMap.{get-insert, get-remove, same_map, IsAntisymmetric, nat_cmp-IsAntisymmetric, slice_cmp-IsAntisymmetric}
use Rattle.outside.specs.Names.{Names, path_cmp}
use Rattle.outside.specs.Order.{path_total}
use Rattle.outside.specs.Tree.{Node, Tree, node_at, set_node}

pub path_same : IsAntisymmetric path_cmp
path_same = slice_cmp-IsAntisymmetric (slice_cmp-IsAntisymmetric nat_cmp-IsAntisymmetric)

-- two paths are one or two
pub path_cases : (p q : Names) → (p ≡ q) ⊎ (eq_by_cmp path_cmp p q ≡ false)
path_cases p q =
    elim (path_cmp p q) as (λ r. path_cmp p q ≡ r → (p ≡ q) ⊎ (is_eq r ≡ false)) [
      | Less ↦ λ e. inr refl
      | Equal ↦ λ e. inl (path_same p q e)
      | Greater ↦ λ e. inr refl
    ] refl

pub path_itself : (p : Names) → eq_by_cmp path_cmp p p ≡ true
path_itself p = (eq_by_cmp_equiv path_total).refl p

pub node_at-set_node : (tree : Tree) (p : Names) (node : Option Node) (q : Names) → node_at (set_node tree p node) q ≡ cond (eq_by_cmp path_cmp q p) node
    (node_at tree q)
node_at-set_node tree p None q = get-remove path_total tree p q
node_at-set_node tree p (Some n) q = get-insert path_total tree p n q

pub node_at-set_same : (tree : Tree) (p : Names) (node : Option Node) → node_at (set_node tree p node) p ≡ node
node_at-set_same tree p node = node_at-set_node tree p node p ∙ ap (λ b. cond b node (node_at tree p)) (path_itself p)

pub node_at-set_other : (tree : Tree) (p : Names) (node : Option Node) (q : Names) → eq_by_cmp path_cmp q p ≡ false
    → node_at (set_node tree p node) q ≡ node_at tree q
node_at-set_other tree p node q other = node_at-set_node tree p node q ∙ ap (λ b. cond b node (node_at tree q)) other

-- trees with the same nodes are one
pub same_tree : (a b : Tree) → ((q : Names) → node_at a q ≡ node_at b q) → a ≡ b
same_tree a b same = same_map path_total path_same a b same
