-- Keys written as items of a list, and read back.
use Rattle.std.proofs.Common.{arith, ◌≡◌, ◌<◌, ◌+◌, ℕ, zero, suc, List, [], ◌∷◌, ◌++◌, length, take}
use Rattle.std.proofs.Common.{get_or, Option, Some, None, Result, Ok, Err, refl, sym, ap, ◌∙◌, subst}
use Rattle.std.specs.Prelude.{IsTrue, IfOk}
use Rattle.std.specs.List.{list_all}
use Rattle.std.proofs.lemmas.Bool.{and_parts}
use Rattle.std.proofs.lemmas.List.{take_more}
use Rattle.std.specs.Str.{IsUtf8}
use Rattle.json.specs.Lex.{tokens}
use Rattle.serde_json.specs.Data.{null}
use Rattle.key_names.specs.Key.{is_key, printed}
use Rattle.key_names.specs.Spelling.{SpellsKey}
use Rattle.key_names.specs.Faults.{IsRead}
use Rattle.key_names.specs.declared.key_error.KeyError.{KeyError}
use Rattle.key_names.specs.declared.key_error.KeyFault.TheVariants.{Memory}
use Rattle.json_trees.specs.Json.{data_of}
use Rattle.json_trees.specs.Written.{data_tokens, IsReadable}
use Rattle.json_trees.proofs.Trip.{data_of-tokens}
use Rattle.json_trees.specs.declared.item.Item.{Item}
use Rattle.json_trees.specs.declared.item.Item.TheVariants as item
use Rattle.json_trees.specs.declared.pending.Pending.{Pending}
use Rattle.json_trees.specs.declared.pending.Pending.TheVariants.{Gone}
use Rattle.fs_datastore.specs.Values.{Spells, pending}
use Rattle.fs_datastore.specs.Texts.{key_items}
use Rattle.key_names.proofs.SpelledKeys.{printed_key}

pub whole : {X : Type 0} (xs : List X) (n : ℕ) → n ≡ length xs → take n xs ≡ xs
whole xs n is = ap (λ (m : ℕ). take m xs) is ∙ all xs where
  all : {X : Type 0} (xs : List X) → take (length xs) xs ≡ xs
  all [] = refl
  all (x ∷ xs) = ap (λ (r : List _). x ∷ r) (all xs)

-- ---- reading back

-- the keys so far are the first of those of which the items are the texts
abbrev pub SoFar : List Item → ℕ → List (List (List ℕ)) → Type 0
SoFar items i done = (keys : List (List (List ℕ))) → IsTrue (list_all is_key keys) → items ≡ key_items keys → done ≡ take i keys

pub key_at : (keys : List (List (List ℕ))) (items : List Item) (i : ℕ) (found : Item) → IsTrue (list_all is_key keys) → items ≡ key_items keys
    → i < length items → found ≡ get_or items i found
    → (i < length keys) × IsTrue (is_key (get_or keys i [])) × (found ≡ item.Text (printed (get_or keys i [])))
key_at keys items i found valid is low at = go keys i valid (subst (λ (l : List Item). i < length l) is low)
    (at ∙ ap (λ (l : List Item). get_or l i found) is) where
      go : (keys : List (List (List ℕ))) (i : ℕ) → IsTrue (list_all is_key keys) → i < length (key_items keys) → found ≡ get_or (key_items keys) i found
          → (i < length keys) × IsTrue (is_key (get_or keys i [])) × (found ≡ item.Text (printed (get_or keys i [])))
      go [] i valid low at = absurd (omega arith)
      go (k ∷ keys) zero valid low at = (omega arith, (and_parts (is_key k) (list_all is_key keys) valid).0, at)
      go (k ∷ keys) (suc i) valid low at = let rest = go keys i (and_parts (is_key k) (list_all is_key keys) valid).1 (omega arith) at in
          (omega (arith, rest.0), rest.1, rest.2)

-- one more key was read
pub so_far_more : (items : List Item) (i : ℕ) (found : Item) (done now : List (List (List ℕ))) (key : List (List ℕ)) → i < length items
    → found ≡ get_or items i found
    → ((k : List (List ℕ)) → IsTrue (is_key k) → found ≡ item.Text (printed k) → key ≡ k) → SoFar items i done → now ≡ done ++ key ∷ []
    → SoFar items (i + 1) now
so_far_more items i found done now key low at reads so_far is = λ keys valid same.
    let k = key_at keys items i found valid same low at in
    is ∙ ap (λ (l : List (List (List ℕ))). l ++ key ∷ []) (so_far keys valid same) ∙ ap (λ (q : List (List ℕ)). take i keys ++ q ∷ [])
    (reads (get_or keys i []) k.1 k.2) ∙ sym (take_more keys i [] k.0)

-- ---- files of keys

-- `null` is JSON
null_readable : IsReadable 0 null
null_readable = record { reads_back = refl; numbers = tt; shallow = omega arith }

pub null_read : (text : List ℕ) → IsUtf8 text → tokens text ≡ data_tokens null → data_of text ≡ Some null
null_read text utf8 is = data_of-tokens null 0 text null_readable (omega arith) utf8 is

pub gone_spelled : {E : Type 0} (r : Result (List ℕ) E) (value : Pending) → value ≡ Gone → IfOk r (λ text. data_of text ≡ Some null)
    → IfOk r (λ text. Spells text (pending value))
gone_spelled (Ok text) value gone is = subst (λ (p : Pending). Spells text (pending p)) (sym gone) is
gone_spelled (Err e) value gone is = tt

-- ---- one item

text_in : Item → List ℕ
text_in (item.Bool b) = []
text_in (item.Int n) = []
text_in (item.Text t) = t

-- an item that is the printed text of a key spells it
pub texts_one : (found : Item) (text bytes : List ℕ) (key : List (List ℕ)) → found ≡ item.Text text → bytes ≡ text → IsTrue (is_key key)
    → found ≡ item.Text (printed key) → SpellsKey bytes key
unfolding text_in
texts_one found text bytes key is same valid printed_is = subst (λ (t : List ℕ). SpellsKey t key) (sym (same ∙ ap text_in (sym is ∙ printed_is)))
    (printed_key key valid)

pub key_is : (r : Result (List (List ℕ)) KeyError) (read key : List (List ℕ)) → r ≡ Ok read → IsRead r key → Some read ≡ Some key
key_is r read key is reads = ap Some (subst (λ (x : Result (List (List ℕ)) KeyError). IsRead x key) is reads)

pub no_key : (r : Result (List (List ℕ)) KeyError) (fault : KeyError) (key : List (List ℕ)) → r ≡ Err fault → (fault.kind ≡ Memory → ⊥) → IsRead r key
    → None ≡ Some key
no_key r fault key is other reads = absurd (other (subst (λ (x : Result (List (List ℕ)) KeyError). IsRead x key) is reads))

-- the key at an item is found
pub no_key_at : (items : List Item) (i : ℕ) (found : Item) (o : Option (List (List ℕ))) → i < length items → found ≡ get_or items i found
    → ((k : List (List ℕ)) → IsTrue (is_key k) → found ≡ item.Text (printed k) → o ≡ Some k) → o ≡ None
    → (keys : List (List (List ℕ))) → IsTrue (list_all is_key keys) → items ≡ key_items keys → None ≡ Some keys
no_key_at items i found o low at reads none keys valid same = let k = key_at keys items i found valid same low at in
    absurd (cc (none, reads (get_or keys i []) k.1 k.2))
