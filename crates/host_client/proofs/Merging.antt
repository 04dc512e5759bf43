-- Members merged one by one.
use Rattle.std.proofs.Common.{◌≡◌, ℕ, List, [], ◌∷◌, Option, Some, None, String, Global, Ordering, Less, Equal, Greater, nat_cmp, is_eq}
use Rattle.std.proofs.Common.{rules, string_bytes, string_cmp, unwrap_or, option_map, refl, sym, ap, subst, ◌∙◌}
use Rattle.std.proofs.lemmas.Cmp.{nat_list_cmp_total}
use Rattle.std.proofs.lemmas.Map.Keys.{sorted_head, sorted_tail}
use Rattle.std.proofs.lemmas.Map.Text.{is_eq-slice_cmp}
use Rattle.std.proofs.lemmas.Slice.Eq.{bytes_eq-Decides}
use Rattle.std.specs.BTreeMap.{BTreeMap, insert_entry, is_at}
use Rattle.std.specs.Cmp.Lexicographic.{slice_cmp}
use Rattle.std.specs.List.{AllByRecursion}
use Rattle.std.specs.List.Sorted.{IsStrictlySortedBy}
use Rattle.std.specs.Map.{keys_of, lookup}
use Rattle.std.specs.Ordering.{ordering_reverse}
use Rattle.serde_json.specs.Data.{Data, null, object, Members, no_members, member, put}
use Rattle.serde_json.specs.Find.{get_member}
use Rattle.serde_json.specs.View.{view, members_view}
use Rattle.serde_json.specs.declared.value.Value.{Value, Null, Object, the_lemmas}
use Rattle.serde_json.proofs.Views.{Entry, members_view-insert_entry, view-lookup, view-Object}
use Rattle.host_client.specs.Trees.{merged, merged_members}

-- the name is before those of the entries
abbrev IsBefore : List ℕ → List Entry → Type 0
IsBefore name es = AllByRecursion (λ y. slice_cmp nat_cmp name (string_bytes y) ≡ Less) (keys_of es)

-- the value at the name, or null
abbrev value_at : List ℕ → List Entry → Data
value_at name es = unwrap_or (get_member name (members_view es)) null

with_none : (ms : Members) → merged_members ms no_members ≡ ms
with_none no_members = refl
with_none (member k d ms) = refl

-- a name that is before all others stays first
stays_first : (k : List ℕ) (d : Data) (ms : Members) (more : List Entry) → IsBefore k more
    → merged_members (member k d ms) (members_view more) ≡ member k d (merged_members ms (members_view more))
stays_first k d ms [] h = ap (member k d) (sym (with_none ms))
stays_first k d ms (e ∷ more) h = rw h.0

earlier_first : (k l : List ℕ) (d e : Data) (ms ns : Members) → slice_cmp nat_cmp k l ≡ Less
    → merged_members (member k d ms) (member l e ns) ≡ member k d (merged_members ms (member l e ns))
earlier_first k l d e ms ns is = rw is

absent : (name : List ℕ) (es : List Entry) → IsBefore name es → get_member name (members_view es) ≡ None
absent name [] h = refl
absent name (e ∷ es) h = rw h.0 (absent name es h.1)

before_later : (name k : List ℕ) (es : List Entry) → slice_cmp nat_cmp name k ≡ Less → IsBefore k es → IsBefore name es
before_later name k [] is h = tt
before_later name k (e ∷ es) is h = (nat_list_cmp_total.trans name k (string_bytes e.0) is h.0, before_later name k es is h.1)

back : (x y : List ℕ) (o : Ordering) → slice_cmp nat_cmp x y ≡ o → slice_cmp nat_cmp y x ≡ ordering_reverse o
back x y o is = nat_list_cmp_total.antisymm y x ∙ ap ordering_reverse is

-- the first of the later members put among the earlier ones, and the others merged
abbrev Merges : List Entry → List ℕ → Data → List Entry → Type 0
Merges es name d more =
    merged_members (put name (merged (value_at name es) d) (members_view es)) (members_view more)
    ≡ merged_members (members_view es) (member name d (members_view more))

merges_by : (o : Ordering) (e : Entry) (es : List Entry) (name : List ℕ) (d : Data) (more : List Entry) → slice_cmp nat_cmp name (string_bytes e.0) ≡ o
    → IsBefore (string_bytes e.0) es → IsBefore name more → Merges es name d more → Merges (e ∷ es) name d more
merges_by Less e es name d more is sorted over later =
    let none : get_member name (members_view es) ≡ None = absent name es (before_later name (string_bytes e.0) es is sorted) in
    let turned = back name (string_bytes e.0) Less is in
    rw (is, none, turned) (stays_first name d (members_view (e ∷ es)) more over)
merges_by Equal e es name d more is sorted over later =
    let same : name ≡ string_bytes e.0 = (bytes_eq-Decides name (string_bytes e.0)).0 (sym (is_eq-slice_cmp name (string_bytes e.0)) ∙ ap is_eq is) in
    let turned = back name (string_bytes e.0) Equal is in
    rw (is, turned) (stays_first (string_bytes e.0) (merged (view e.1) d) (members_view es) more (subst (λ k. IsBefore k more) same over))
merges_by Greater e es name d more is sorted over later =
    let k = string_bytes e.0 in
    let x : Data = merged (value_at name es) d in
    let value_is : value_at name (e ∷ es) ≡ value_at name es = rw is in
    let put_is : put name x (members_view (e ∷ es)) ≡ member k (view e.1) (put name x (members_view es)) = rw is in
    let turned = back name k Greater is in
    ap (λ v. merged_members (put name (merged v d) (members_view (e ∷ es))) (members_view more)) value_is
    ∙ ap (λ ms. merged_members ms (members_view more)) put_is
    ∙ stays_first k (view e.1) (put name x (members_view es)) more (before_later k name more turned over)
    ∙ ap (member k (view e.1)) later
    ∙ sym (earlier_first k name (view e.1) d (members_view es) (members_view more) turned)

merges : (es : List Entry) (name : List ℕ) (d : Data) (more : List Entry) → IsStrictlySortedBy string_cmp (keys_of es) → IsBefore name more
    → Merges es name d more
merges [] name d more sorted over = stays_first name d no_members more over
merges (e ∷ es) name d more sorted over =
    merges_by _ e es name d more refl (sorted_head string_cmp e.0 (keys_of es) sorted) over
    (merges es name d more (sorted_tail string_cmp e.0 (keys_of es) sorted) over)

view-Null : view Null ≡ null
view-Null = search (rules, the_lemmas)

-- the value that a map has at a name, or null
pub held : (o : Option Value) (d : Option Data) → option_map view o ≡ d → view (unwrap_or o Null) ≡ unwrap_or d null
held None d is = rw (sym is) view-Null
held (Some v) d is = rw (sym is)

-- one more of the later members is merged
pub merged_more : (es fs rest : List Entry) (name : String Global) (old new now : Value) → IsStrictlySortedBy string_cmp (keys_of es)
    → IsStrictlySortedBy string_cmp (keys_of ((name, new) ∷ rest)) → old ≡ unwrap_or (lookup (is_at (string_cmp name)) es) Null
    → view now ≡ merged (view old) (view new) → fs ≡ insert_entry string_cmp es name now
    → merged_members (members_view fs) (members_view rest) ≡ merged_members (members_view es) (members_view ((name, new) ∷ rest))
merged_more es fs rest name old new now sorted rising old_is now_is fs_is =
    let was : view old ≡ value_at (string_bytes name) es = ap view old_is ∙ held _ _ (view-lookup (string_bytes name) es) in
    let put_is : members_view fs ≡ put (string_bytes name) (merged (value_at (string_bytes name) es) (view new)) (members_view es) =
    ap members_view fs_is ∙ members_view-insert_entry es name now
    ∙ ap (λ d. put (string_bytes name) d (members_view es)) (now_is ∙ ap (λ d. merged d (view new)) was) in
    ap (λ ms. merged_members ms (members_view rest)) put_is
    ∙ merges es (string_bytes name) (view new) rest sorted (sorted_head string_cmp name (keys_of rest) rising)

-- two objects, the later one merged into the earlier
pub objects_merged : (old new : Value) (m n r : BTreeMap (String Global) Value) → old ≡ Object m → new ≡ Object n
    → members_view r.entries ≡ merged_members (members_view m.entries) (members_view n.entries) → view (Object r) ≡ merged (view old) (view new)
objects_merged old new m n r old_is new_is r_is = rw (old_is, new_is, view-Object m, view-Object n, view-Object r) (ap object r_is)
