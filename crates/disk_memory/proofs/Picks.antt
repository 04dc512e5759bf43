-- What a crash leaves, by picks.
use Rattle.std.proofs.Common.{◌≡◌, inl, inr, ℕ, zero, suc, List, [], ◌∷◌, length, Bor, Iter, arith, Option, Some, None, cond, false, refl, sym, ◌∙◌, ap, subst}
use Rattle.std.specs.Prelude.{option_map, unwrap_or, slice_get}
use Rattle.std.specs.Option.{option_copied}
use Rattle.std.specs.Slice.Iter.{iter_rest, iter_steps}
use Rattle.std.specs.Ordering.{eq_by_cmp}
use Rattle.std.specs.BTreeMap.{BTreeMap, get, Updates, IsOrdered}
use Rattle.std.specs.Map.{lookup, keys_of}
use Rattle.std.specs.List.{IsDistinct, AllByRecursion}
use Rattle.std.proofs.lemmas.Map.Entries.{lookup_from_place}
use Rattle.std.proofs.lemmas.Option.{slice_get-map}
use Rattle.std.proofs.lemmas.Map.Keys.{IsDistinct-from_sorted}
use Rattle.outside.specs.Names.{Names, path_cmp}
use Rattle.outside.specs.Order.{paths_equal}
use Rattle.outside.specs.Tree as tree
use Rattle.outside.proofs.Trees.{path_cases, path_itself}
use Rattle.disk_memory.specs.Nodes.{node_of}
use Rattle.disk_memory.specs.Crash.{synced_tree, touched, is_torn, left_of}
use Rattle.disk_memory.specs.Recorded.{LaysPick, LaysPicks}
use Rattle.disk_memory.specs.declared.node.Node.{Node}
use Rattle.disk_memory.specs.declared.change.Touch.{Touch}
use Rattle.disk_memory.specs.declared.pick.Pick.{Pick}
use Rattle.disk_memory.specs.declared.pick.Pick.TheVariants.{New}
use Rattle.disk_memory.proofs.Keys.{get-seen, keys_same}
use Rattle.disk_memory.proofs.Changes.{option_map-updated}
use Rattle.disk_memory.proofs.Touches.{some≢none}

-- ---- one pick

-- a pick that puts a node, or none
pub laid_node : (path : Names) (touch : Touch) (pick : Pick) (nodes later : BTreeMap Names Node) (node : Option Node)
    → option_map node_of node ≡ left_of pick (option_map node_of touch.before) touch.in_place (option_map node_of (get path_cmp nodes path))
    → Updates path_cmp nodes later path node → LaysPick path touch pick nodes later
laid_node path touch pick nodes later node is updates = record {
  at = λ q. option_map-updated node_of nodes later path node q updates
      ∙ ap (λ b. cond b (option_map node_of node) (option_map node_of (get path_cmp nodes q))) (paths_equal.symm q path)
      ∙ ap (λ n. cond (eq_by_cmp path_cmp path q) n (option_map node_of (get path_cmp nodes q))) is;
}

-- a pick that leaves what is there
pub laid_new : (path : Names) (touch : Touch) (nodes : BTreeMap Names Node) → LaysPick path touch New nodes nodes
laid_new path touch nodes = record {
  at = λ q. elim (path_cases path q) [
    | inl same ↦ ap (λ p. option_map node_of (get path_cmp nodes p)) (sym same)
        ∙ ap (λ b. cond b (option_map node_of (get path_cmp nodes path)) (option_map node_of (get path_cmp nodes q)))
        (sym (ap (λ p. eq_by_cmp path_cmp path p) (sym same) ∙ path_itself path))
    | inr other ↦ ap (λ b. cond b (option_map node_of (get path_cmp nodes path)) (option_map node_of (get path_cmp nodes q))) (sym other)
  ];
}

pub ruleset laid = (laid_new, laid_node)

-- ---- all picks

abbrev pub first_of : List Pick → Pick
first_of [] = New
first_of (pick ∷ picks) = pick

abbrev pub others_of : List Pick → List Pick
others_of [] = []
others_of (pick ∷ picks) = picks

-- what is at a path after the picks, over what was there before
abbrev pub after_picks : List (Names × Touch) → List Pick → (Names → Option tree.Node) → Names → Option tree.Node
after_picks [] picks stood q = stood q
after_picks (e ∷ es) picks stood q = after_picks es (others_of picks) (λ p. cond (eq_by_cmp path_cmp e.0 p)
    (left_of (first_of picks) (option_map node_of e.1.before) e.1.in_place (stood e.0)) (stood p)) q

-- of no picks the first is New
no_first : (picks : List Pick) → length picks ≡ 0 → (first_of picks ≡ New) × (others_of picks ≡ picks)
no_first [] none = (refl, refl)
no_first (pick ∷ picks) none = absurd (omega arith)

-- the iterator hands out the first pick that is left, and has the others
pub picks_step : (before after : Iter Pick) (pick : Option (Bor Pick)) → iter_steps before pick after
    → (first_of (iter_rest before) ≡ unwrap_or (option_copied pick) New) × (others_of (iter_rest before) ≡ iter_rest after)
picks_step before after None steps = let none = no_first (iter_rest before) steps.0 in (none.0, none.1 ∙ ap iter_rest (sym steps.1))
picks_step before after (Some pick) steps = (ap first_of steps, ap others_of steps)

-- one pick was laid
pub picks_more : (es rest : List (Names × Touch)) (picks others : List Pick) (pick : Pick) (path : Names) (touch : Touch) (nodes later : BTreeMap Names Node)
    (wanted : Names → Option tree.Node) → es ≡ (path, touch) ∷ rest → (first_of picks ≡ pick) × (others_of picks ≡ others)
    → LaysPick path touch pick nodes later
    → ((q : Names) → after_picks es picks (λ p. option_map node_of (get path_cmp nodes p)) q ≡ wanted q) → (q : Names)
    → after_picks rest others (λ p. option_map node_of (get path_cmp later p)) q ≡ wanted q
picks_more es rest picks others pick path touch nodes later wanted is (first, rest_is) lays so_far q =
    let stood : Names → Option tree.Node = λ p. option_map node_of (get path_cmp nodes p) in
    ap (λ (f : Names → Option tree.Node). after_picks rest others f q) (λ i p. lays.at p i)
    ∙ ap (λ c. after_picks rest others (λ p. cond (eq_by_cmp path_cmp path p) (left_of c (option_map node_of touch.before) touch.in_place (stood path))
    (stood p)) q) (sym first)
    ∙ ap (λ (cs : List Pick). after_picks rest cs (λ p. cond (eq_by_cmp path_cmp path p)
    (left_of (first_of picks) (option_map node_of touch.before) touch.in_place (stood path)) (stood p)) q) (sym rest_is)
    ∙ ap (λ (l : List (Names × Touch)). after_picks l picks stood q) (sym is)
    ∙ so_far q

-- ---- what the picks have left

-- a path apart from all keys has no entry
unnamed : (path : Names) (es : List (Names × Touch)) → AllByRecursion (λ y. eq_by_cmp path_cmp path y ≡ false) (keys_of es)
    → lookup (eq_by_cmp path_cmp path) es ≡ None
unnamed path [] all = refl
unnamed path (e ∷ es) all = ap (λ b. cond b (Some e.1) (lookup (eq_by_cmp path_cmp path) es)) all.0 ∙ unnamed path es all.1

-- a path that no entry names stays
picks_elsewhere : (es : List (Names × Touch)) (picks : List Pick) (stood : Names → Option tree.Node) (q : Names) → lookup (eq_by_cmp path_cmp q) es ≡ None
    → after_picks es picks stood q ≡ stood q
picks_elsewhere [] picks stood q none = refl
picks_elsewhere (e ∷ es) picks stood q none = elim (path_cases q e.0) [
  | inl same ↦ absurd (some≢none e.1 (ap (λ b. cond b (Some e.1) (lookup (eq_by_cmp path_cmp q) es))
      (sym (ap (λ p. eq_by_cmp path_cmp q p) (sym same) ∙ path_itself q)) ∙ none))
  | inr other ↦
      picks_elsewhere es (others_of picks) _ q (ap (λ b. cond b (Some e.1) (lookup (eq_by_cmp path_cmp q) es)) (sym other) ∙ none)
      ∙ ap (λ b. cond b (left_of (first_of picks) (option_map node_of e.1.before) e.1.in_place (stood e.0)) (stood q)) (paths_equal.symm e.0 q ∙ other)
]

-- the first pick is the one at place 0
first_is : (picks : List Pick) → first_of picks ≡ unwrap_or (slice_get picks 0) New
first_is [] = refl
first_is (pick ∷ picks) = refl

-- the others begin at the next place
other_is : (picks : List Pick) (k : ℕ) → unwrap_or (slice_get (others_of picks) k) New ≡ unwrap_or (slice_get picks (suc k)) New
other_is [] k = refl
other_is (pick ∷ picks) k = refl

-- a path that the k-th entry names has what the k-th pick leaves
picks_at : (es : List (Names × Touch)) (picks : List Pick) (stood : Names → Option tree.Node) (k : ℕ) (path : Names) (touch : Touch)
    → IsDistinct (eq_by_cmp path_cmp) (keys_of es) → slice_get es k ≡ Some (path, touch)
    → after_picks es picks stood path ≡ left_of (unwrap_or (slice_get picks k) New) (option_map node_of touch.before) touch.in_place (stood path)
unfolding IsDistinct
picks_at [] picks stood k path touch distinct is = absurd (some≢none (path, touch) (sym is))
picks_at (e ∷ es) picks stood zero path touch distinct is =
    let named : e ≡ (path, touch) = cc in
    let apart : lookup (eq_by_cmp path_cmp e.0) es ≡ None = unnamed e.0 es distinct.0 in
    subst (λ n. after_picks (e ∷ es) picks stood n.0 ≡ left_of (unwrap_or (slice_get picks 0) New) (option_map node_of n.1.before) n.1.in_place (stood n.0))
    named
    (picks_elsewhere es (others_of picks) _ e.0 apart
    ∙ ap (λ b. cond b (left_of (first_of picks) (option_map node_of e.1.before) e.1.in_place (stood e.0)) (stood e.0)) (path_itself e.0)
    ∙ ap (λ c. left_of c (option_map node_of e.1.before) e.1.in_place (stood e.0)) (first_is picks))
picks_at (e ∷ es) picks stood (suc k) path touch distinct is = elim (path_cases e.0 path) [
  | inl same ↦ absurd (some≢none touch (sym (lookup_from_place paths_equal es k path touch distinct.1 is)
      ∙ ap (λ p. lookup (eq_by_cmp path_cmp p) es) (sym same) ∙ unnamed e.0 es distinct.0))
  | inr other ↦
      picks_at es (others_of picks) _ k path touch distinct.1 is
      ∙ ap (λ b. left_of (unwrap_or (slice_get (others_of picks) k) New) (option_map node_of touch.before) touch.in_place
      (cond b (left_of (first_of picks) (option_map node_of e.1.before) e.1.in_place (stood e.0)) (stood path))) other
      ∙ ap (λ c. left_of c (option_map node_of touch.before) touch.in_place (stood path)) (other_is picks k)
]

-- what is mapped to none is none
no_touch : (found : Option Touch) → option_map (λ touch. touch.in_place) found ≡ None → found ≡ None
no_touch None none = refl
no_touch (Some touch) none = absurd (some≢none touch.in_place none)

-- the entry at the place of a key
entry_at : (es : List (Names × Touch)) (k : ℕ) (path : Names) → slice_get (keys_of es) k ≡ Some path → (touch : Touch) × (slice_get es k ≡ Some (path, touch))
entry_at es k path is = found (slice_get es k) (sym (slice_get-map (λ e. e.0) es k) ∙ is)
  where
    found : (e : Option (Names × Touch)) → option_map (λ e. e.0) e ≡ Some path → (touch : Touch) × (e ≡ Some (path, touch))
    found None none = absurd (some≢none path (sym none))
    found (Some e) here = let same : e.0 ≡ path = cc in (e.1, λ i. Some (same i, e.1))

-- the picks name the crash state
pub picks_laid : (picks : List Pick) (touches : BTreeMap Names Touch) (nodes later : BTreeMap Names Node) → IsOrdered path_cmp touches
    → ((q : Names) → option_map node_of (get path_cmp later q) ≡ after_picks touches.entries picks (λ p. option_map node_of (get path_cmp nodes p)) q)
    → LaysPicks picks touches nodes later
picks_laid picks touches nodes later ordered is = record {
  picked = λ h kept. record {
    unsettled = λ k path here.
        let distinct = IsDistinct-from_sorted path_cmp _ ordered in
        let entry = entry_at touches.entries k path (ap (λ (ks : List Names). slice_get ks k)
        (sym (keys_same (λ touch. touch.in_place) (touched h) touches kept.touch_at ordered)) ∙ here) in
        let found = lookup_from_place paths_equal touches.entries k path entry.0 distinct entry.1 in
        get-seen node_of later path ∙ is path
        ∙ picks_at touches.entries picks _ k path entry.0 distinct entry.1
        ∙ ap (λ n. left_of (unwrap_or (slice_get picks k) New) n entry.0.in_place (option_map node_of (get path_cmp nodes path)))
        (kept.before path entry.0 found)
        ∙ ap (λ b. left_of (unwrap_or (slice_get picks k) New) (tree.node_at (synced_tree h) path) b (option_map node_of (get path_cmp nodes path)))
        (ap (λ t. unwrap_or (option_map (λ touch. touch.in_place) t) false) (sym found) ∙ ap (λ t. unwrap_or t false) (kept.touch_at path))
        ∙ ap (left_of (unwrap_or (slice_get picks k) New) (tree.node_at (synced_tree h) path) (is_torn h path)) (kept.node_at path);
    settled = λ path none.
        get-seen node_of later path ∙ is path
        ∙ picks_elsewhere touches.entries picks _ path (no_touch (get path_cmp touches path) (kept.touch_at path ∙ none))
        ∙ kept.node_at path;
  };
}
