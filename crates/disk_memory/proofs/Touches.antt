-- What is kept of a history to crash it: one change more.
use Rattle.std.proofs.Common.{◌≡◌, ◌<◌, ◌+◌, inl, inr, ℕ, List, [], ◌∷◌, ◌++◌, length, take, get_or}
use Rattle.std.proofs.Common.{Option, Some, None, Bool, cond, false, true, ◌||◌, refl, sym, ◌∙◌, ap, subst}
use Rattle.std.specs.Prelude.{option_map, unwrap_or}
use Rattle.std.proofs.lemmas.List.{take_more}
use Rattle.std.specs.Ordering.{eq_by_cmp}
use Rattle.std.specs.BTreeMap.{BTreeMap, get, is_at, Updates}
use Rattle.std.specs.Map.{lookup}
use Rattle.std.specs.FinMap as map
use Rattle.outside.specs.Names.{Names, path_cmp}
use Rattle.outside.specs.Order.{path_total, paths_equal}
use Rattle.outside.specs.Tree as tree
use Rattle.outside.specs.History.{History, begun, next, replaced, scribbled, synced, tree_of}
use Rattle.outside.proofs.Trees.{path_cases, path_itself, node_at-set_other}
use Rattle.disk_memory.specs.Nodes.{node_of, put, tree_in}
use Rattle.disk_memory.specs.Crash.{synced_tree, touched, is_torn}
use Rattle.disk_memory.specs.Recorded.{after_all, Mirrors, IsCopy, IsKept, StaysKept, IsUpdated, touched_again}
use Rattle.disk_memory.specs.declared.node.Node.{Node}
use Rattle.disk_memory.specs.declared.change.Change.{Change}
use Rattle.disk_memory.specs.declared.change.Change.TheVariants.{Put, Synced}
use Rattle.disk_memory.specs.declared.change.Touch.{Touch}
use Rattle.disk_memory.proofs.Keys.{get-seen}
use Rattle.disk_memory.proofs.Changes.{after_all-push, tree_of-put, option_map-cond, mirrors_put}

-- something is not nothing
pub some≢none : {A : Type 0} (x : A) → Some x ≡ None → ⊥
some≢none x e = cc

-- what is put at a path of a finite map, at each path
pub get-insert-cases : {A : Type 0} (m : map.FinMap path_cmp A) (at : Names) (v : A) (q : Names)
    → map.get (map.insert m at v) q ≡ cond (eq_by_cmp path_cmp q at) (Some v) (map.get m q)
get-insert-cases m at v q = map.get-insert path_total m at v q

-- a path that is absent after one was put is another one, and was absent
absent : {A : Type 0} (m : map.FinMap path_cmp A) (at : Names) (v : A) (q : Names) → map.get (map.insert m at v) q ≡ None
    → (eq_by_cmp path_cmp q at ≡ false) × (map.get m q ≡ None)
absent m at v q none = elim (path_cases q at) [
  | inl same ↦ absurd (some≢none v (ap (λ b. cond b (Some v) (map.get m q)) (sym (ap (λ p. eq_by_cmp path_cmp q p) (sym same) ∙ path_itself q))
      ∙ sym (get-insert-cases m at v q) ∙ none))
  | inr other ↦ (other, ap (λ b. cond b (Some v) (map.get m q)) (sym other) ∙ sym (get-insert-cases m at v q) ∙ none)
]

-- a path that was not touched has what it had at the last sync
pub untouched : (h : History) (q : Names) → map.get (touched h) q ≡ None → tree.node_at (tree_of h) q ≡ tree.node_at (synced_tree h) q
untouched (begun t) q none = refl
untouched (next (replaced at now) h) q none =
    let apart = absent (touched h) at (is_torn h at) q none in
    node_at-set_other (tree_of h) at now q apart.0 ∙ untouched h q apart.1
untouched (next (scribbled at now) h) q none =
    let apart = absent (touched h) at true q none in
    node_at-set_other (tree_of h) at now q apart.0 ∙ untouched h q apart.1
untouched (next synced h) q none = refl

-- a put touches its path, in place if it is
or_false : (b : Bool) → b ≡ (b || false)
or_false true = refl
or_false false = refl

-- or with true is true
or_true : (b : Bool) → true ≡ (b || true)
or_true true = refl
or_true false = refl

-- the touches after a put
touched-put : (in_place : Bool) (at : Names) (now : Option tree.Node) (h : History) (q : Names)
    → map.get (touched (next (put in_place at now) h)) q ≡ cond (eq_by_cmp path_cmp q at) (Some (is_torn h at || in_place)) (map.get (touched h) q)
touched-put true at now h q = get-insert-cases (touched h) at true q ∙ ap (λ b. cond (eq_by_cmp path_cmp q at) (Some b) (map.get (touched h) q))
    (or_true (is_torn h at))
touched-put false at now h q = get-insert-cases (touched h) at (is_torn h at) q ∙ ap (λ b. cond (eq_by_cmp path_cmp q at) (Some b) (map.get (touched h) q))
    (or_false (is_torn h at))

-- a put is no sync
synced_tree-put : (in_place : Bool) (at : Names) (now : Option tree.Node) (h : History) → synced_tree (next (put in_place at now) h) ≡ synced_tree h
synced_tree-put true at now h = refl
synced_tree-put false at now h = refl

-- a path that is touched once more was written in place if it was so once
again : (found : Option Touch) (node : Option Node) (in_place : Bool) → (touched_again found node in_place).in_place ≡
    (unwrap_or (option_map (λ touch. touch.in_place) found) false || in_place)
again None stood in_place = refl
again (Some touch) stood in_place = refl

module _ (h : History) (nodes later_nodes : BTreeMap Names Node) (touches later_touches : BTreeMap Names Touch) (path : Names) (node : Option Node)
    (in_place : Bool) (kept : IsKept h nodes touches) where
  -- the touch of the path
  abbrev noted : Touch
  noted = touched_again (get path_cmp touches path) (get path_cmp nodes path) in_place

  -- it has from before what the last sync had
  noted_before : (found : Option Touch) → get path_cmp touches path ≡ found → option_map node_of (touched_again found (get path_cmp nodes path) in_place).before
      ≡ tree.node_at (synced_tree h) path
  noted_before (Some touch) is = kept.before path touch is
  noted_before None is = kept.node_at path ∙ untouched h path (sym (kept.touch_at path) ∙ ap (option_map (λ touch. touch.in_place)) is)

  -- the touches are those after the put
  still_touched : IsUpdated touches later_touches path (Some noted) → Mirrors (λ touch. touch.in_place)
      (touched (next (put in_place path (option_map node_of node)) h)) later_touches
  still_touched updated q =
      let torn : noted.in_place ≡ (is_torn h path || in_place) =
      again (get path_cmp touches path) (get path_cmp nodes path) in_place ∙ ap (λ t. unwrap_or t false || in_place) (kept.touch_at path) in
      ap (option_map (λ touch. touch.in_place)) (updated.at q)
      ∙ option_map-cond (λ touch. touch.in_place) (eq_by_cmp path_cmp path q) (Some noted) (get path_cmp touches q)
      ∙ ap (λ b. cond b (Some noted.in_place) (option_map (λ touch. touch.in_place) (get path_cmp touches q))) (paths_equal.symm path q)
      ∙ ap (λ b. cond (eq_by_cmp path_cmp q path) (Some b) (option_map (λ touch. touch.in_place) (get path_cmp touches q))) torn
      ∙ ap (cond (eq_by_cmp path_cmp q path) (Some (is_torn h path || in_place))) (kept.touch_at q)
      ∙ sym (touched-put in_place path (option_map node_of node) h q)

  -- and what they have from before is what the last sync had
  still_before : IsUpdated touches later_touches path (Some noted) → (q : Names) (touch : Touch) → get path_cmp later_touches q ≡ Some touch
      → option_map node_of touch.before ≡ tree.node_at (synced_tree h) q
  still_before updated q touch is = elim (path_cases path q) [
    | inl same ↦
        let first : Some noted ≡ Some touch =
        ap (λ b. cond b (Some noted) (get path_cmp touches q)) (sym (ap (λ p. eq_by_cmp path_cmp path p) (sym same) ∙ path_itself path)) ∙ sym (updated.at q)
        ∙ is in
        let one : noted ≡ touch = cc in
        ap (λ t. option_map node_of t.before) (sym one) ∙ noted_before (get path_cmp touches path) refl ∙ ap (λ p. tree.node_at (synced_tree h) p) same
    | inr other ↦ kept.before q touch (ap (λ b. cond b (Some noted) (get path_cmp touches q)) (sym other) ∙ sym (updated.at q) ∙ is)
  ]

  -- all is kept after the put
  kept_after_put : Updates path_cmp nodes later_nodes path node → IsUpdated touches later_touches path (Some noted)
      → IsKept (next (put in_place path (option_map node_of node)) h) later_nodes later_touches
  kept_after_put updates updated = record {
    node_at = subst (λ t. Mirrors node_of t later_nodes) (sym (tree_of-put in_place path (option_map node_of node) h))
        (mirrors_put (tree_of h) nodes later_nodes path node kept.node_at updates);
    touch_at = still_touched updated;
    before = λ q touch is. still_before updated q touch is ∙ ap (λ t. tree.node_at t q) (sym (synced_tree-put in_place path (option_map node_of node) h));
  }

-- the path is put and noted, with copies of what the change names
pub kept_put : (path : Names) (node copy was : Option Node) (in_place : Bool) (nodes later_nodes : BTreeMap Names Node)
    (touches later_touches : BTreeMap Names Touch) → copy ≡ node → was ≡ get path_cmp nodes path → Updates path_cmp nodes later_nodes path copy
    → IsUpdated touches later_touches path (Some (touched_again (get path_cmp touches path) was in_place))
    → StaysKept (Put path node in_place ∷ []) nodes later_nodes touches later_touches
kept_put path node copy was in_place nodes later_nodes touches later_touches same is updates updated = record {
  stays = λ h kept. kept_after_put h nodes later_nodes touches later_touches path node in_place kept
      (subst (λ n. Updates path_cmp nodes later_nodes path n) same updates)
      (subst (λ n. IsUpdated touches later_touches path (Some (touched_again (get path_cmp touches path) n in_place))) is updated);
}

-- an empty map has nothing at a path
no_entry : (touches : BTreeMap Names Touch) (q : Names) → touches.entries ≡ [] → get path_cmp touches q ≡ None
no_entry touches q none = ap (λ (es : List (Names × Touch)). lookup (is_at (path_cmp q)) es) none

-- nothing is touched after a sync
pub kept_synced : (nodes : BTreeMap Names Node) (touches later_touches : BTreeMap Names Touch) → later_touches.entries ≡ []
    → StaysKept (Synced ∷ []) nodes nodes touches later_touches
kept_synced nodes touches later_touches none = record {
  stays = λ h kept. record {
    node_at = kept.node_at;
    touch_at = λ q. ap (option_map (λ touch. touch.in_place)) (no_entry later_touches q none) ∙ sym (map.get-empty path_cmp q);
    before = λ q touch is. absurd (some≢none touch (sym is ∙ no_entry later_touches q none));
  };
}

-- nothing is touched at the start
pub kept_begun : (began nodes : BTreeMap Names Node) (touches : BTreeMap Names Touch) → IsCopy began nodes → touches.entries ≡ []
    → IsKept (begun (tree_in began)) nodes touches
kept_begun began nodes touches copy none = record {
  node_at = λ q. ap (option_map node_of) (copy q) ∙ sym (get-seen node_of began q);
  touch_at = λ q. ap (option_map (λ touch. touch.in_place)) (no_entry touches q none) ∙ sym (map.get-empty path_cmp q);
  before = λ q touch is. absurd (some≢none touch (sym is ∙ no_entry touches q none));
}

-- no change
pub kept_nothing : (nodes : BTreeMap Names Node) (touches : BTreeMap Names Touch) → StaysKept [] nodes nodes touches touches
kept_nothing nodes touches = record { stays = λ h kept. kept }

-- one change more
pub kept_more : (changes : List Change) (i : ℕ) (change : Change) (n0 n1 n2 : BTreeMap Names Node) (t0 t1 t2 : BTreeMap Names Touch) → i < length changes
    → change ≡ get_or changes i change → StaysKept (take i changes) n0 n1 t0 t1 → StaysKept (change ∷ []) n1 n2 t1 t2
    → StaysKept (take (i + 1) changes) n0 n2 t0 t2
kept_more changes i change n0 n1 n2 t0 t1 t2 here is so_far more = record {
  stays = λ h kept. subst (λ k. IsKept k n2 t2)
      (sym (ap (after_all h) (take_more changes i change here ∙ ap (λ c. take i changes ++ c ∷ []) (sym is)) ∙ after_all-push h (take i changes) change))
      (more.stays (after_all h (take i changes)) (so_far.stays h kept));
}

pub ruleset kept = (kept_put, kept_synced)
