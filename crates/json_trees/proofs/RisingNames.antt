-- The members of the objects that are read are in the order of their names.
use Rattle.std.proofs.Common.{◌≡◌, ℕ, List, Bool, true, false, if◌then◌else◌, Option, Some, None}
use Rattle.std.proofs.Common.{option_map, option_and_then, Ordering, Less, Equal, Greater, refl, ap, ◌∙◌, subst}
use Rattle.std.specs.Bool.{⊤}
use Rattle.std.specs.Str.{is_utf8}
use Rattle.std.proofs.lemmas.Option.{option_and_then_some}
use Rattle.json.specs.Lex.{tokens}
use Rattle.std.specs.Ordering.{match_ordering, ordering_reverse}
use Rattle.json.specs.Json as json
use Rattle.key_names.specs.Order.{bytes_cmp, bytes_total}
use Rattle.serde_json.specs.Data.{Num, Data, null, boolean, number, string, array, object, Items, Members, no_members, member, put}
use Rattle.serde_json.specs.Read.{of_json, of_items, of_members, number_of, read, max_depth}
use Rattle.json_trees.specs.Json.{data_of}

-- P holds of each name
abbrev pub AllNames : (List ℕ → Type 0) → Members → Type 0
AllNames P no_members = ⊤
AllNames P (member name d ms) = P name × AllNames P ms

-- the names of each object rise; what is in arrays is left out
abbrev mutual
  pub HasRisingNames : Data → Type 0
  HasRisingNames null = ⊤
  HasRisingNames (boolean b) = ⊤
  HasRisingNames (number n) = ⊤
  HasRisingNames (string s) = ⊤
  HasRisingNames (array ds) = ⊤
  HasRisingNames (object ms) = NamesRise ms

  pub NamesRise : Members → Type 0
  NamesRise no_members = ⊤
  NamesRise (member name d ms) = AllNames (λ other. bytes_cmp name other ≡ Less) ms × HasRisingNames d × NamesRise ms

-- what holds of each name and gives another fact gives it of each
AllNames-weaker : (P Q : List ℕ → Type 0) (ms : Members) → ((name : List ℕ) → P name → Q name) → AllNames P ms → AllNames Q ms
AllNames-weaker P Q no_members f h = tt
AllNames-weaker P Q (member name d ms) f h = (f name h.0, AllNames-weaker P Q ms f h.1)

AllNames-put_at : (P : List ℕ → Type 0) (o : Ordering) (k l : List ℕ) (d e : Data) (ms : Members) → P k → P l → AllNames P ms → AllNames P (put k d ms)
    → AllNames P (match_ordering o (member k d (member l e ms)) (member l d ms) (member l e (put k d ms)))
AllNames-put_at P Less k l d e ms here there rest later = (here, (there, rest))
AllNames-put_at P Equal k l d e ms here there rest later = (there, rest)
AllNames-put_at P Greater k l d e ms here there rest later = (there, later)

AllNames-put : (P : List ℕ → Type 0) (k : List ℕ) (d : Data) (ms : Members) → P k → AllNames P ms → AllNames P (put k d ms)
AllNames-put P k d no_members here rest = (here, tt)
AllNames-put P k d (member l e ms) here rest = AllNames-put_at P (bytes_cmp k l) k l d e ms here rest.0 rest.1 (AllNames-put P k d ms here rest.1)

NamesRise-put_at : (o : Ordering) (k l : List ℕ) (d e : Data) (ms : Members) → bytes_cmp k l ≡ o → HasRisingNames d → NamesRise (member l e ms)
    → NamesRise (put k d ms)
    → NamesRise (match_ordering o (member k d (member l e ms)) (member l d ms) (member l e (put k d ms)))
NamesRise-put_at Less k l d e ms is value rise later =
    ((is, AllNames-weaker (λ m. bytes_cmp l m ≡ Less) (λ m. bytes_cmp k m ≡ Less) ms (λ m h. bytes_total.trans k l m is h) rise.0), value, rise)
NamesRise-put_at Equal k l d e ms is value rise later = (rise.0, value, rise.2)
NamesRise-put_at Greater k l d e ms is value rise later =
    (AllNames-put (λ m. bytes_cmp l m ≡ Less) k d ms (bytes_total.antisymm l k ∙ ap ordering_reverse is) rise.0, rise.1, later)

NamesRise-put : (k : List ℕ) (d : Data) (ms : Members) → HasRisingNames d → NamesRise ms → NamesRise (put k d ms)
NamesRise-put k d no_members value rise = (tt, value, tt)
NamesRise-put k d (member l e ms) value rise = NamesRise-put_at (bytes_cmp k l) k l d e ms refl value rise (NamesRise-put k d ms value rise.2)

mapped_object : (o : Option Members) (ms : Members) → option_map object o ≡ Some (object ms) → o ≡ Some ms
mapped_object None ms e = cc
mapped_object (Some found) ms e = cc

no_number : (o : Option Num) (ms : Members) → option_map number o ≡ Some (object ms) → ⊥
no_number None ms e = cc
no_number (Some n) ms e = cc

no_array : (o : Option Items) (ms : Members) → option_map array o ≡ Some (object ms) → ⊥
no_array None ms e = cc
no_array (Some ds) ms e = cc

mutual
  read_value : (j : json.Json) (d : Data) → of_json j ≡ Some d → HasRisingNames d
  read_value j null e = tt
  read_value j (boolean b) e = tt
  read_value j (number n) e = tt
  read_value j (string s) e = tt
  read_value j (array ds) e = tt
  read_value json.null (object ms) e = cc
  read_value (json.boolean b) (object ms) e = cc
  read_value (json.number s) (object ms) e = absurd (no_number (number_of s) ms e)
  read_value (json.string s) (object ms) e = cc
  read_value (json.array js) (object ms) e = absurd (no_array (of_items js) ms e)
  read_value (json.object js) (object ms) e = read_members js no_members ms tt (mapped_object (of_members js no_members) ms e)

  read_members : (js : json.Members) (found ms : Members) → NamesRise found → of_members js found ≡ Some ms → NamesRise ms
  read_members json.no_members found ms rise e = let same : found ≡ ms = cc in subst NamesRise same rise
  read_members (json.member k j js) found ms rise e =
      option_and_then_some (λ d. of_members js (put k d found)) (of_json j) ms e
      (λ d is rest. read_members js (put k d found) ms (NamesRise-put k d found (read_value j d is) rise) rest)

-- the objects of a JSON value that is read have rising names
pub HasRisingNames-data_of : (text : List ℕ) (d : Data) → data_of text ≡ Some d → HasRisingNames d
HasRisingNames-data_of text d e = by (is_utf8 text) e
  where
    by : (test : Bool) → (if test then read text else None) ≡ Some d → HasRisingNames d
    by true e = option_and_then_some of_json (option_and_then (λ p. json.if_last p.0 p.1) (json.value max_depth (tokens text))) d e
        (λ j _ is. read_value j d is)
    by false e = cc
