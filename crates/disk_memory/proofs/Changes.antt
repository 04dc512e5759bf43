-- One change more.
use Rattle.std.proofs.Common.{◌≡◌, List, [], ◌∷◌, ◌++◌, Option, Bool, cond, false, true, refl, sym, ◌∙◌, ap, subst}
use Rattle.std.specs.Prelude.{option_map}
use Rattle.std.specs.Ordering.{eq_by_cmp}
use Rattle.std.specs.BTreeMap.{BTreeMap, get, is_at, Updates, IsUnchanged}
use Rattle.std.specs.Map.{lookup}
use Rattle.outside.specs.Names.{Names, path_cmp}
use Rattle.outside.specs.Order.{paths_equal}
use Rattle.outside.specs.Tree as tree
use Rattle.outside.specs.History.{History, begun, next, tree_of}
use Rattle.outside.proofs.Trees.{node_at-set_node}
use Rattle.disk_memory.specs.Nodes.{node_of, put, change_of, tree_in}
use Rattle.disk_memory.specs.Recorded.{after_all, recorded, Mirrors, IsCopy, StaysAgreed}
use Rattle.disk_memory.specs.declared.node.Node.{Node}
use Rattle.disk_memory.specs.declared.change.Change.{Change}
use Rattle.disk_memory.specs.declared.change.Change.TheVariants.{Put, Synced}
use Rattle.disk_memory.proofs.Keys.{get-seen}

-- the history of one change more
pub after_all-push : (h : History) (changes : List Change) (change : Change) → after_all h (changes ++ change ∷ []) ≡ next (change_of change)
    (after_all h changes)
after_all-push h [] change = refl
after_all-push h (first ∷ changes) change = after_all-push (next (change_of first) h) changes change

-- the tree after a put, in place or at once
pub tree_of-put : (in_place : Bool) (path : Names) (node : Option tree.Node) (h : History)
    → tree_of (next (put in_place path node) h) ≡ tree.set_node (tree_of h) path node
tree_of-put true path now h = refl
tree_of-put false path now h = refl

-- a function of a choice is a choice of what it makes
pub option_map-cond : {A B : Type 0} (f : A → B) (b : _) (x y : Option A) → option_map f (cond b x y) ≡ cond b (option_map f x) (option_map f y)
option_map-cond f true x y = refl
option_map-cond f false x y = refl

-- a map whose path was updated, at each path
pub option_map-updated : {A B : Type 0} (f : A → B) (old new : BTreeMap Names A) (path : Names) (node : Option A) (q : Names)
    → Updates path_cmp old new path node → option_map f (get path_cmp new q) ≡ cond (eq_by_cmp path_cmp q path) (option_map f node)
    (option_map f (get path_cmp old q))
option_map-updated f old new path node q updates =
    ap (option_map f) (updates.0 q)
    ∙ option_map-cond f (eq_by_cmp path_cmp path q) node (get path_cmp old q)
    ∙ ap (λ b. cond b (option_map f node) (option_map f (get path_cmp old q))) (paths_equal.symm path q)

-- a node is put
pub mirrors_put : (told : tree.Tree) (old new : BTreeMap Names Node) (path : Names) (node : Option Node) → Mirrors node_of told old
    → Updates path_cmp old new path node → Mirrors node_of (tree.set_node told path (option_map node_of node)) new
mirrors_put told old new path node before updates q =
    option_map-updated node_of old new path node q updates
    ∙ ap (cond (eq_by_cmp path_cmp q path) (option_map node_of node)) (before q)
    ∙ sym (node_at-set_node told path (option_map node_of node) q)

-- the change was made and recorded
pub agreed_put : (changes later : List Change) (old new : BTreeMap Names Node) (path : Names) (node : Option Node) (in_place : Bool)
    → later ≡ changes ++ Put path node in_place ∷ [] → Updates path_cmp old new path node → StaysAgreed changes later old new
agreed_put changes later old new path node in_place is updates = record {
  stays = λ h agrees. subst (λ t. Mirrors node_of t new)
      (sym (tree_of-put in_place path (option_map node_of node) (after_all h changes))
      ∙ ap tree_of (sym (after_all-push h changes (Put path node in_place)) ∙ ap (after_all h) (sym is)))
      (mirrors_put (tree_of (after_all h changes)) old new path node agrees updates);
}

-- nothing was changed
pub agreed_same : (changes later : List Change) (old new : BTreeMap Names Node) → later ≡ changes → IsUnchanged old new → StaysAgreed changes later old new
agreed_same changes later old new same unchanged = record {
  stays = λ h agrees q.
      ap (λ (es : List (Names × Node)). option_map node_of (lookup (is_at (path_cmp q)) es)) unchanged
      ∙ agrees q ∙ ap (λ (cs : List Change). tree.node_at (tree_of (after_all h cs)) q) (sym same);
}

-- a sync is recorded, or not
pub agreed_synced : (h : History) (changes later : List Change) (nodes : BTreeMap Names Node) (b : Bool) → Mirrors node_of (tree_of (after_all h changes)) nodes
    → later ≡ cond b (changes ++ Synced ∷ []) changes → Mirrors node_of (tree_of (after_all h later)) nodes
agreed_synced h changes later nodes true before is q = before q ∙ ap (λ k. tree.node_at (tree_of k) q)
    (sym (after_all-push h changes Synced) ∙ ap (after_all h) (sym is))
agreed_synced h changes later nodes false before is q = before q ∙ ap (λ (cs : List Change). tree.node_at (tree_of (after_all h cs)) q) (sym is)

-- a disk begins over its nodes
pub agreed_begun : (began nodes : BTreeMap Names Node) (changes : List Change) → IsCopy began nodes → changes ≡ []
    → Mirrors node_of (tree_of (recorded began changes)) nodes
agreed_begun began nodes changes copy none q =
    ap (option_map node_of) (copy q) ∙ sym (get-seen node_of began q) ∙ ap (λ (cs : List Change). tree.node_at (tree_of (recorded began cs)) q) (sym none)

-- the history from before and with one change more, by the list of changes
pub told_same : (began : BTreeMap Names Node) (changes later : List Change) → later ≡ changes → recorded began later ≡ recorded began changes
told_same began changes later is = ap (recorded began) is

-- and with one change more
pub told_more : (began : BTreeMap Names Node) (changes later : List Change) (change : Change) → later ≡ changes ++ change ∷ []
    → recorded began later ≡ next (change_of change) (recorded began changes)
told_more began changes later change is = ap (recorded began) is ∙ after_all-push (begun (tree_in began)) changes change

pub ruleset told = (agreed_put, agreed_same, told_same, told_more)
