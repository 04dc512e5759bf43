-- Pairs nest as one text at most.
use Rattle.std.proofs.Common.{◌≡◌, ℕ, List, [], ◌∷◌, ◌++◌, Option, Some, None, Bool, true, false, map, Ordering, Less, Equal, Greater}
use Rattle.std.proofs.Common.{refl, sym, ◌∙◌, ap, subst, if◌then◌else◌, option_map, option_and_then}
use Rattle.std.specs.Str.{is_utf8}
use Rattle.std.specs.Ordering.{match_ordering, ordering_reverse}
use Rattle.json.specs.Json as json
use Rattle.json.specs.Lex.{tokens}
use Rattle.json.specs.Token.{Token}
use Rattle.key_names.specs.Order.{bytes_cmp, bytes_total}
use Rattle.serde_json.specs.Data.{Data, null, boolean, number, string, array, object, Members, no_members, member, put}
use Rattle.serde_json.specs.Read.{of_json, of_members, of_items, number_of, max_depth, read}
use Rattle.serde_json.specs.Written.{compact_text}
use Rattle.json_trees.specs.Json.{data_of}
use Rattle.json_trees.specs.Tree.{Path}
use Rattle.json_trees.specs.Nested.{below, leaves, members_leaves, NestsAs}
use Rattle.json_trees.specs.Scalar.{scalar_data}
use Rattle.json_trees.specs.declared.scalar.Scalar.{Scalar}

-- ---- what is read is in the order of names

-- The name comes before the first of the members.
abbrev Before : List ℕ → Members → Type 0
Before name no_members = Unit {0}
Before name (member k d ms) = bytes_cmp name k ≡ Less

-- The names of members rise, and so do those of the objects in them, but for lists.
abbrev mutual
  IsOrdered : Data → Type 0
  IsOrdered (object ms) = AreOrdered ms
  IsOrdered d = Unit {0}

  AreOrdered : Members → Type 0
  AreOrdered no_members = Unit {0}
  AreOrdered (member k d ms) = IsOrdered d × Before k ms × AreOrdered ms

put_before : (l k : List ℕ) (d : Data) (ms : Members) → bytes_cmp l k ≡ Less → Before l ms → Before l (put k d ms)
put_before l k d no_members less before = less
put_before l k d (member m e ms) less before = by (bytes_cmp k m) where
  by : (o : Ordering) → Before l (match_ordering o (member k d (member m e ms)) (member m d ms) (member m e (put k d ms)))
  by Less = less
  by Equal = before
  by Greater = before

put_ordered : (k : List ℕ) (d : Data) (ms : Members) → IsOrdered d → AreOrdered ms → AreOrdered (put k d ms)
put_ordered k d no_members one all = (one, tt, tt)
put_ordered k d (member l e ms) one all = by (bytes_cmp k l) refl (put_ordered k d ms one all.2) where
  by : (o : Ordering) → bytes_cmp k l ≡ o → AreOrdered (put k d ms)
      → AreOrdered (match_ordering o (member k d (member l e ms)) (member l d ms) (member l e (put k d ms)))
  by Less is more = (one, is, all)
  by Equal is more = (one, all.1, all.2)
  by Greater is more = (all.0, put_before l k d ms (bytes_total.antisymm l k ∙ ap ordering_reverse is) all.1, more)

same_some : {X : Type 0} (x y : X) → Some x ≡ Some y → x ≡ y
same_some x y is = cc is

mutual
  json_ordered : (j : json.Json) (d : Data) → of_json j ≡ Some d → IsOrdered d
  json_ordered json.null d is = subst IsOrdered (same_some null d is) tt
  json_ordered (json.boolean b) d is = subst IsOrdered (same_some (boolean b) d is) tt
  json_ordered (json.number s) d is = by (number_of s) is where
    by : (o : Option _) → option_map number o ≡ Some d → IsOrdered d
    by None is = absurd (cc is)
    by (Some n) is = subst IsOrdered (same_some (number n) d is) tt
  json_ordered (json.string s) d is = subst IsOrdered (same_some (string s) d is) tt
  json_ordered (json.array js) d is = by (of_items js) is where
    by : (o : Option _) → option_map array o ≡ Some d → IsOrdered d
    by None is = absurd (cc is)
    by (Some ds) is = subst IsOrdered (same_some (array ds) d is) tt
  json_ordered (json.object ms) d is =
      by (of_members ms no_members) refl is (λ (found : Members) (there : of_members ms no_members ≡ Some found). members_ordered ms no_members found there tt)
    where
      by : (o : Option Members) → of_members ms no_members ≡ o → option_map object o ≡ Some d
          → ((found : Members) → of_members ms no_members ≡ Some found → AreOrdered found) → IsOrdered d
      by None there is all = absurd (cc is)
      by (Some found) there is all = subst IsOrdered (same_some (object found) d is) (all found there)

  members_ordered : (js : json.Members) (found ms : Members) → of_members js found ≡ Some ms → AreOrdered found → AreOrdered ms
  members_ordered json.no_members found ms is all = subst AreOrdered (same_some found ms is) all
  members_ordered (json.member k j js) found ms is all =
      by (of_json j) refl is (λ (d : Data) (there : of_json j ≡ Some d). json_ordered j d there)
      (λ (d : Data) (is : of_members js (put k d found) ≡ Some ms) (here : AreOrdered (put k d found)). members_ordered js (put k d found) ms is here)
    where
      by : (o : Option Data) → of_json j ≡ o → option_and_then (λ d. of_members js (put k d found)) o ≡ Some ms
          → ((d : Data) → of_json j ≡ Some d → IsOrdered d)
          → ((d : Data) → of_members js (put k d found) ≡ Some ms → AreOrdered (put k d found) → AreOrdered ms) → AreOrdered ms
      by None there is one more = absurd (cc is)
      by (Some d) there is one more = more d is (put_ordered k d found (one d there) all)

read_ordered : (text : List ℕ) (d : Data) → read text ≡ Some d → IsOrdered d
read_ordered text d is = by (option_and_then (λ (p : json.Json × List Token). json.if_last p.0 p.1) (json.value max_depth (tokens text))) is where
  by : (o : Option json.Json) → option_and_then of_json o ≡ Some d → IsOrdered d
  by None is = absurd (cc is)
  by (Some j) is = json_ordered j d is

data_ordered : (text : List ℕ) (d : Data) → data_of text ≡ Some d → IsOrdered d
data_ordered text d is = by (is_utf8 text) is where
  by : (b : Bool) → (if b then read text else None) ≡ Some d → IsOrdered d
  by true is = read_ordered text d is
  by false is = absurd (cc is)

-- ---- leaves part a tree in one way

abbrev Entry : Type 0
Entry = Path × Data

-- The first of the entries, if there is one, does not begin with the name.
abbrev NoneBegins : List ℕ → List Entry → Type 0
NoneBegins name [] = Unit {0}
NoneBegins name (([], d) ∷ es) = Unit {0}
NoneBegins name ((k ∷ path, d) ∷ es) = name ≡ k → ⊥

parted : (k : List ℕ) (xs ys rest other : List Entry) → map (below k) xs ++ rest ≡ map (below k) ys ++ other → NoneBegins k rest → NoneBegins k other
    → (xs ≡ ys) × (rest ≡ other)
parted k [] [] rest other same none none' = (refl, same)
parted k [] (y ∷ ys) rest other same none none' = absurd (subst (NoneBegins k) same none refl)
parted k (x ∷ xs) [] rest other same none none' = absurd (subst (NoneBegins k) (sym same) none' refl)
parted k ((p, v) ∷ xs) ((q, w) ∷ ys) rest other same none none' =
    let tails : map (below k) xs ++ rest ≡ map (below k) ys ++ other = cc same in
    let heads : below k (p, v) ≡ below k (q, w) = cc same in
    let names : k ∷ p ≡ k ∷ q = ap (λ (e : Entry). e.0) heads in
    let paths : p ≡ q = cc names in
    let values : v ≡ w = ap (λ (e : Entry). e.1) heads in
    let both = parted k xs ys rest other tails none none' in
    (ap (λ (x : Path). (x, v) ∷ xs) paths ∙ ap (λ (x : Data). (q, x) ∷ xs) values ∙ ap (λ (l : List Entry). (q, w) ∷ l) both.0, both.1)

-- Each value has some leaf.
record HasFirst (entries : List Entry) : Type 0 where
  first : Entry
  others : List Entry
  are : entries ≡ first ∷ others

some_leaf : (d : Data) → HasFirst (leaves d)
some_leaf null = record { first = ([], null); others = []; are = refl }
some_leaf (boolean b) = record { first = ([], boolean b); others = []; are = refl }
some_leaf (number n) = record { first = ([], number n); others = []; are = refl }
some_leaf (string s) = record { first = ([], string s); others = []; are = refl }
some_leaf (array ds) = record { first = ([], array ds); others = []; are = refl }
some_leaf (object no_members) = record { first = ([], object no_members); others = []; are = refl }
some_leaf (object (member k d ms)) =
    let f = some_leaf d in
    record {
      first = below k f.first;
      others = map (below k) f.others ++ members_leaves ms;
      are = ap (λ (l : List Entry). map (below k) l ++ members_leaves ms) f.are;
    }

-- The leaves of a member begin with its name.
member_first : (k : List ℕ) (d : Data) (ms : Members) → HasFirst (members_leaves (member k d ms))
member_first k d ms = some_leaf (object (member k d ms))

differs : (k l : List ℕ) → bytes_cmp k l ≡ Less → k ≡ l → ⊥
differs k l less same =
    let tied : bytes_cmp l l ≡ Less = subst (λ (x : List ℕ). bytes_cmp x l ≡ Less) same less in
    let clash : Less ≡ Greater = sym tied ∙ bytes_total.antisymm l l ∙ ap ordering_reverse tied in cc clash

none_begins : (k : List ℕ) (ms : Members) → Before k ms → NoneBegins k (members_leaves ms)
none_begins k no_members before = tt
none_begins k (member l d ms) before =
    let f = some_leaf d in
    subst (λ (es : List Entry). NoneBegins k (map (below l) es ++ members_leaves ms)) (sym f.are) (differs k l before)

-- The leaves of an object with members have names before them.
no_leaf : (k : List ℕ) (d : Data) (ms : Members) (v : Data) → members_leaves (member k d ms) ≡ ([], v) ∷ [] → ⊥
no_leaf k d ms v same =
    let f = some_leaf d in
    let clash : below k f.first ∷ (map (below k) f.others ++ members_leaves ms) ≡ ([], v) ∷ [] =
    sym (ap (λ (es : List Entry). map (below k) es ++ members_leaves ms) f.are) ∙ same in
    let heads : below k f.first ≡ ([], v) = cc clash in
    let paths : k ∷ f.first.0 ≡ [] = ap (λ (e : Entry). e.0) heads in cc paths

-- The value of the first leaf.
abbrev leaf_value : List Entry → Data
leaf_value [] = null
leaf_value (e ∷ es) = e.1

mutual
  same_members : (ms ns : Members) → AreOrdered ms → AreOrdered ns → members_leaves ms ≡ members_leaves ns → ms ≡ ns
  same_members no_members no_members one other same = refl
  same_members no_members (member l e ns) one other same =
      let f = member_first l e ns in let clash : [] ≡ f.first ∷ f.others = same ∙ f.are in absurd (cc clash)
  same_members (member k d ms) no_members one other same =
      let f = member_first k d ms in let clash : [] ≡ f.first ∷ f.others = sym same ∙ f.are in absurd (cc clash)
  same_members (member k d ms) (member l e ns) one other same =
      let f = some_leaf d in
      let g = some_leaf e in
      let fronts : below k f.first ∷ (map (below k) f.others ++ members_leaves ms) ≡ below l g.first ∷ (map (below l) g.others ++ members_leaves ns) =
      sym (ap (λ (es : List Entry). map (below k) es ++ members_leaves ms) f.are) ∙ same
      ∙ ap (λ (es : List Entry). map (below l) es ++ members_leaves ns) g.are in
      let heads : below k f.first ≡ below l g.first = cc fronts in
      let paths : k ∷ f.first.0 ≡ l ∷ g.first.0 = ap (λ (x : Entry). x.0) heads in
      let names : k ≡ l = cc paths in
      let here : map (below k) (leaves d) ++ members_leaves ms ≡ map (below k) (leaves e) ++ members_leaves ns =
      same ∙ ap (λ (x : List ℕ). map (below x) (leaves e) ++ members_leaves ns) (sym names) in
      let both = parted k (leaves d) (leaves e) (members_leaves ms) (members_leaves ns) here (none_begins k ms one.1)
      (subst (λ (x : List ℕ). NoneBegins x (members_leaves ns)) (sym names) (none_begins l ns other.1)) in
      ap (λ (x : List ℕ). member x d ms) names ∙ ap (λ (x : Data). member l x ms) (same_data d e one.0 other.0 both.0)
      ∙ ap (member l e) (same_members ms ns one.2 other.2 both.1)

  same_data : (d e : Data) → IsOrdered d → IsOrdered e → leaves d ≡ leaves e → d ≡ e
  same_data (object (member k d ms)) (object (member l e ns)) one other same = ap object (same_members (member k d ms) (member l e ns) one other same)
  same_data (object (member k d ms)) null one other same = absurd (no_leaf k d ms null same)
  same_data (object (member k d ms)) (boolean b) one other same = absurd (no_leaf k d ms (boolean b) same)
  same_data (object (member k d ms)) (number n) one other same = absurd (no_leaf k d ms (number n) same)
  same_data (object (member k d ms)) (string s) one other same = absurd (no_leaf k d ms (string s) same)
  same_data (object (member k d ms)) (array ds) one other same = absurd (no_leaf k d ms (array ds) same)
  same_data (object (member k d ms)) (object no_members) one other same = absurd (no_leaf k d ms (object no_members) same)
  same_data null (object (member l e ns)) one other same = absurd (no_leaf l e ns null (sym same))
  same_data (boolean b) (object (member l e ns)) one other same = absurd (no_leaf l e ns (boolean b) (sym same))
  same_data (number n) (object (member l e ns)) one other same = absurd (no_leaf l e ns (number n) (sym same))
  same_data (string s) (object (member l e ns)) one other same = absurd (no_leaf l e ns (string s) (sym same))
  same_data (array ds) (object (member l e ns)) one other same = absurd (no_leaf l e ns (array ds) (sym same))
  same_data (object no_members) (object (member l e ns)) one other same = absurd (no_leaf l e ns (object no_members) (sym same))
  same_data d e one other same = ap leaf_value same

-- So one text at most is the tree of these pairs.
pub nests_once : (n : ℕ) (pairs : List (Path × Scalar)) (one other : List ℕ) → NestsAs scalar_data n pairs one → NestsAs scalar_data n pairs other
    → one ≡ other
nests_once n pairs one other a b =
    let ms = data_ordered one (object a.members) a.reads_as in
    let ns = data_ordered other (object b.members) b.reads_as in
    a.compact ∙ ap (λ (m : Members). compact_text (object m)) (same_members a.members b.members ms ns (a.leaves_are ∙ sym b.leaves_are)) ∙ sym b.compact
