-- Bytes are those of the file of at most one value of a kind.
use Rattle.std.proofs.Common.{arith, ◌≡◌, ℕ, List, [], ◌∷◌, Option, Some, Result, Ok, Err, Bool, true, false, refl, sym, ap, ◌∙◌, subst, ok_or}
use Rattle.std.specs.Prelude.{IsTrue}
use Rattle.std.specs.List.{list_all}
use Rattle.std.proofs.lemmas.Bool.{false≢true, and_parts}
use Rattle.serde_json.specs.Data.{Data, null}
use Rattle.key_names.specs.Key.{is_key, printed}
use Rattle.key_names.specs.Spelling.{SpellsKey}
use Rattle.key_names.proofs.OneReading.{one_key}
use Rattle.json_trees.specs.Collected.{result_and_then}
use Rattle.json_trees.specs.Json.{data_of}
use Rattle.json_trees.specs.Scalar.{scalar_of, scalar_read}
use Rattle.json_trees.specs.declared.item.Item.{Item}
use Rattle.json_trees.specs.declared.item.Item.TheVariants as item
use Rattle.json_trees.specs.declared.scalar.Scalar.{Scalar}
use Rattle.json_trees.specs.declared.scalar.Scalar.TheVariants as scalar
use Rattle.json_trees.specs.declared.scalar_error.ScalarError.TheVariants.{NotJson}
use Rattle.json_trees.specs.declared.pending.Pending.TheVariants.{Put, Gone}
use Rattle.settings_tree.specs.Change.{Place}
use Rattle.settings_tree.specs.Change.{Live, Meta, Pend, TheOwed, TheImage, TheWeak}
use Rattle.settings_tree.specs.declared.entry.Owed.{Owed}
use Rattle.settings_tree.specs.declared.entry.Owed.TheVariants.{All, Keys}
use Rattle.fs_datastore.specs.Values.{Value, live, pending, owed, image, weak, Spells, list_of, owed_scalar, is_for}
use Rattle.settings_tree.specs.Owed.{IsKeyList, IsOwed}
use Rattle.fs_datastore.specs.Texts.{key_items}
use Rattle.key_names.proofs.SpelledKeys.{printed_key}

printed_one : (key other : List (List ℕ)) → IsTrue (is_key key) → IsTrue (is_key other) → printed key ≡ printed other → key ≡ other
printed_one key other v w is = one_key (printed_key key v) (subst (λ (t : List ℕ). SpellsKey t other) (sym is) (printed_key other w))

text_of : Item → List ℕ
text_of (item.Bool b) = []
text_of (item.Int n) = []
text_of (item.Text t) = t

-- items are those of one list of keys
pub items_one : (keys others : List (List (List ℕ))) → IsTrue (list_all is_key keys) → IsTrue (list_all is_key others) → key_items keys ≡ key_items others
    → keys ≡ others
unfolding text_of
items_one [] [] v w is = refl
items_one [] (q ∷ others) v w is = absurd (cc is)
items_one (k ∷ keys) [] v w is = absurd (cc is)
items_one (k ∷ keys) (q ∷ others) v w is =
    let vs = and_parts (is_key k) (list_all is_key keys) v in
    let ws = and_parts (is_key q) (list_all is_key others) w in
    let head : item.Text (printed k) ≡ item.Text (printed q) = cc is in
    let tail : key_items keys ≡ key_items others = cc is in
    let first : k ≡ q = printed_one k q vs.0 ws.0 (ap text_of head) in
    let rest : keys ≡ others = items_one keys others vs.1 ws.1 tail in
    λ i. first i ∷ rest i

items_in : Scalar → List Item
items_in (scalar.Bool b) = []
items_in (scalar.Int n) = []
items_in (scalar.Text t) = []
items_in (scalar.List items) = items

-- so is a list
pub list_one : (keys others : List (List (List ℕ))) → IsKeyList keys → IsKeyList others → list_of keys ≡ list_of others → keys ≡ others
unfolding items_in
list_one keys others v w is = items_one keys others v.valid w.valid (ap items_in is)

is_text : Scalar → Bool
is_text (scalar.Bool b) = false
is_text (scalar.Int n) = false
is_text (scalar.Text t) = true
is_text (scalar.List items) = false

-- and the owed keys
pub owed_one : (one other : Owed) → IsOwed one → IsOwed other → owed_scalar one ≡ owed_scalar other → one ≡ other
unfolding is_text
owed_one All All v w is = refl
owed_one All (Keys others) v w is = absurd (false≢true (sym (ap is_text is)))
owed_one (Keys keys) All v w is = absurd (false≢true (ap is_text is))
owed_one (Keys keys) (Keys others) v w is = ap Keys (list_one keys others v w is)

value_of : {E : Type 0} → Scalar → Result Scalar E → Scalar
value_of d (Ok s) = s
value_of d (Err e) = d

-- bytes are read as one scalar
pub scalar_one : (bytes : List ℕ) (s t : Scalar) → scalar_read bytes ≡ Ok s → scalar_read bytes ≡ Ok t → s ≡ t
unfolding value_of
scalar_one bytes s t is also = ap (value_of s) (sym is ∙ also)

is_good : {E : Type 0} → Result Scalar E → Bool
is_good (Ok s) = true
is_good (Err e) = false

-- `null` is no scalar
pub null_none : (bytes : List ℕ) (s : Scalar) → data_of bytes ≡ Some null → scalar_read bytes ≡ Ok s → ⊥
unfolding is_good
null_none bytes s is reads = false≢true (ap is_good (ap (λ (o : Option Data). result_and_then scalar_of (ok_or o NotJson)) (sym is) ∙ reads))

-- ---- values

value_kind : Value → ℕ
value_kind (live s) = 0
value_kind (pending p) = 1
value_kind (owed o) = 2
value_kind (image t) = 3
value_kind (weak ks) = 4

place_kind : Place → ℕ
place_kind (Live k) = 0
place_kind (Meta k n) = 0
place_kind (Pend t k) = 1
place_kind TheOwed = 2
place_kind TheImage = 3
place_kind TheWeak = 4

for_kind : (p : Place) (v : Value) → IsTrue (is_for p v) → place_kind p ≡ value_kind v
unfolding value_kind place_kind
for_kind (Live k) (live s) is = refl
for_kind (Meta k n) (live s) is = refl
for_kind (Pend t k) (pending p) is = refl
for_kind TheOwed (owed o) is = refl
for_kind TheImage (image t) is = refl
for_kind TheWeak (weak ks) is = refl
for_kind _ _ is = absurd (false≢true is)

one_of_kind : (bytes : List ℕ) (v w : Value) → value_kind v ≡ value_kind w → Spells bytes v → Spells bytes w → v ≡ w
unfolding value_kind
one_of_kind bytes (live s) (live t) same is also = ap live (scalar_one bytes s t is also)
one_of_kind bytes (pending (Put s)) (pending (Put t)) same is also = ap (λ (x : Scalar). pending (Put x)) (scalar_one bytes s t is also)
one_of_kind bytes (pending (Put s)) (pending Gone) same is also = absurd (null_none bytes s also is)
one_of_kind bytes (pending Gone) (pending (Put t)) same is also = absurd (null_none bytes t is also)
one_of_kind bytes (pending Gone) (pending Gone) same is also = refl
one_of_kind bytes (owed o) (owed r) same is also = ap owed (owed_one o r is.0 also.0 (scalar_one bytes (owed_scalar o) (owed_scalar r) is.1.reads also.1.reads))
one_of_kind bytes (image t) (image u) same is also = ap image (sym is ∙ also)
one_of_kind bytes (weak ks) (weak qs) same is also = ap weak (list_one ks qs is.0 also.0 (scalar_one bytes (list_of ks) (list_of qs) is.1.reads also.1.reads))
one_of_kind bytes _ _ same is also = absurd (omega (arith, same))

-- the bytes of a place's file are those of one value
pub spells_one : (p : Place) (bytes : List ℕ) (v w : Value) → IsTrue (is_for p v) → IsTrue (is_for p w) → Spells bytes v → Spells bytes w → v ≡ w
spells_one p bytes v w for also is reads = one_of_kind bytes v w (sym (for_kind p v for) ∙ for_kind p w also) is reads
