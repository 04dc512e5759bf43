-- What `json` prints reads back.
use Rattle.std.proofs.Common.{◌≡◌, ℕ, ℤ, pos, negsuc, suc, ◌^◌, ◌<◌, Bool, true, false, cond, List, [], ◌∷◌, ◌++◌, length}
use Rattle.std.proofs.Common.{get_or, decimal, FitsSigned, w64, IsUtf8, Ok, inl, inr, refl, sym, ap, ap₂, ◌∙◌, subst, arith, append_assoc, append-nil}
use Rattle.std.specs.Prelude.{flat_map}
use Rattle.std.specs.List.{AllByRecursion}
use Rattle.std.proofs.lemmas.Bool.{and_parts, cases_eq, ne_eqb}
use Rattle.std.proofs.lemmas.Fmt.{decimal_is_IsNumeral, IsAscii-signed}
use Rattle.std.proofs.lemmas.List.Concat.{flat_map-append}
use Rattle.std.proofs.lemmas.Str.{IsUtf8-append, IsUtf8-nil, IsUtf8-encode, IsUtf8-from_ascii, encode_ascii, inside_one}
use Rattle.std.proofs.lemmas.Str.Parse.{digit_at}
use lib.Utf8.{scalar, scalars, encode, encodes}
use Rattle.json.specs.Token.{Token, begin_array, number, string, boolean, bad}
use Rattle.json.specs.Word.{ends_word, word}
use Rattle.json.specs.Lex.{token, string_token, lex, between, fresh, punctuate, tokens, comma}
use Rattle.json.specs.Print.{quoted, escape}
use Rattle.json.proofs.Printed.Decimals.{IsNumber-signed_decimal}
use Rattle.json.proofs.Printed.Numbers.{lex-number, in_word-ended}
use Rattle.json.proofs.Printed.Strings.{content-escape, lex-escape}
use Rattle.json.proofs.Printed.Tokens.{tokens-print}
use Rattle.json.proofs.Printed.Trees.{ArePrintable-json_tokens}
use Rattle.json.proofs.Printed.Utf8.{IsUtf8-are_ascii, IsUtf8-quoted, IsUtf8-boolean}
use Rattle.serde_json.specs.Find.{of_integer}
use Rattle.serde_json.specs.Written.{number_text, outline, comma_if, compact_text, items_text}
use Rattle.serde_json.proofs.Texts.{print-outline}
use Rattle.json_trees.specs.Scalar.{scalar_data, scalar_read, item_data, json_text}
use Rattle.json_trees.specs.Written.{data_tokens, ItemInRange, ScalarInRange}
use Rattle.json_trees.specs.declared.item.Item.{Item}
use Rattle.json_trees.specs.declared.item.Item.TheVariants as item
use Rattle.json_trees.specs.declared.scalar.Scalar.{Scalar}
use Rattle.json_trees.specs.declared.scalar.Scalar.TheVariants as scalar
use Rattle.json_trees.proofs.Lists.{items_data}
use Rattle.json_trees.proofs.Scalars.{IsReadable-scalar_data, scalar_read-tokens}
use Rattle.template_eval.specs.Quoting.{escaped, scalar_json, ItemIsText, HasTexts, IsValue}
use Rattle.template_eval.proofs.Quoted.{inner, content-inner, lex-inner}

-- Bytes other than 0x7F stay.
kept : (ds : List ℕ) → ((i : ℕ) → i < length ds → get_or ds i 0 ≡ 127 → ⊥) → flat_map escaped ds ≡ ds
kept [] h = refl
kept (d ∷ ds) h = ap₂ (λ (a b : List ℕ). a ++ b) (ap (λ t. cond t (92 ∷ 117 ∷ 48 ∷ 48 ∷ 55 ∷ 102 ∷ []) (d ∷ [])) (ne_eqb d 127 (h 0 (omega arith))))
    (kept ds (λ i low. h (suc i) (omega arith)))

decimal_kept : (n : ℕ) → n < 2 ^ 64 → flat_map escaped (decimal n) ≡ decimal n
decimal_kept n h = kept (decimal n) (λ i low is. let digit = digit_at _ i (decimal_is_IsNumeral n h).0.1 low in omega (arith, digit.1, is))

-- A whole number stays as it is stored.
number_kept : (z : ℤ) → FitsSigned w64 z → flat_map escaped (number_text (of_integer z)) ≡ number_text (of_integer z)
number_kept (pos n) h = decimal_kept n (omega (arith, h.sfits))
number_kept (negsuc n) h = ap (λ l. 45 ∷ l) (decimal_kept (suc n) (omega (arith, h.sfits)))

-- ---- lexemes

-- The token that an item is.
abbrev item_token : Item → Token
item_token (item.Bool b) = boolean b
item_token (item.Int z) = number (number_text (of_integer z))
item_token (item.Text s) = string s

-- Of an item, stored or printed, one lexeme is read before what ends a word.
abbrev Reads : Item → List ℕ → Type 0
Reads i text = (r : List ℕ) → ends_word r ≡ true → lex between (text ++ r) ≡ token (item_token i) ∷ lex between r

reads_bool : (b : Bool) → Reads (item.Bool b) (compact_text (item_data (item.Bool b)))
unfolding lex word
reads_bool true r ended = ap₂ (λ b l. token (cond b (boolean true) bad) ∷ l) ended (in_word-ended r ended)
reads_bool false r ended = ap₂ (λ b l. token (cond b (boolean false) bad) ∷ l) ended (in_word-ended r ended)

reads_number : (z : ℤ) → FitsSigned w64 z → Reads (item.Int z) (number_text (of_integer z))
reads_number (pos n) h r ended = lex-number _ r (IsNumber-signed_decimal (pos n) h.sfits) ended
reads_number (negsuc n) h r ended = lex-number _ r (IsNumber-signed_decimal (negsuc n) h.sfits) ended

stored_text : (s r : List ℕ) → lex between (quoted s ++ r) ≡ token (string s) ∷ lex between r
unfolding lex
stored_text s r = ap (λ l. lex between (34 ∷ l)) (append_assoc (escape s) (34 ∷ []) r) ∙ ap₂ (λ o l. token (string_token o) ∷ l) (content-escape s r)
    (lex-escape s r)

printed_text : (s r : List ℕ) → lex between (flat_map escaped (quoted s) ++ r) ≡ token (string s) ∷ lex between r
unfolding lex
printed_text s r =
    ap (λ l. lex between ((34 ∷ l) ++ r)) (flat_map-append escaped (escape s) (34 ∷ [])) ∙ ap (λ l. lex between (34 ∷ l)) (append_assoc (inner s) (34 ∷ []) r)
    ∙ ap₂ (λ o l. token (string_token o) ∷ l) (content-inner s r) (lex-inner s r)

stored_item : (i : Item) → ItemInRange i → Reads i (compact_text (item_data i))
stored_item (item.Bool b) h = reads_bool b
stored_item (item.Int z) h = reads_number z h
stored_item (item.Text s) h = λ r ended. stored_text s r

printed_item : (i : Item) → ItemInRange i → Reads i (flat_map escaped (compact_text (item_data i)))
printed_item (item.Bool true) h = reads_bool true
printed_item (item.Bool false) h = reads_bool false
printed_item (item.Int z) h = subst (Reads (item.Int z)) (sym (number_kept z h)) (reads_number z h)
printed_item (item.Text s) h = λ r ended. printed_text s r

-- After an item there is a comma or the bracket.
stored_ends : (is : List Item) → ends_word (items_text true (items_data is)) ≡ true
stored_ends [] = refl
stored_ends (i ∷ is) = refl

printed_ends : (is : List Item) → ends_word (flat_map escaped (items_text true (items_data is))) ≡ true
printed_ends [] = refl
printed_ends (i ∷ is) = refl

-- An item and those after it have the same lexemes, stored and printed, where those after it have them.
lex_first : (i : Item) (is : List Item) → ItemInRange i → lex between (flat_map escaped (items_text true (items_data is))) ≡ lex between
    (items_text true (items_data is))
    → lex between (flat_map escaped (items_text false (items_data (i ∷ is)))) ≡ lex between (items_text false (items_data (i ∷ is)))
lex_first i is h behind =
    let text = compact_text (item_data i) in
    let rest = items_text true (items_data is) in
    ap (lex between) (flat_map-append escaped text rest) ∙ printed_item i h (flat_map escaped rest) (printed_ends is)
    ∙ ap (λ l. token (item_token i) ∷ l) behind
    ∙ sym (stored_item i h rest (stored_ends is))

lex_later : (is : List Item) → AllByRecursion ItemInRange is → lex between (flat_map escaped (items_text true (items_data is))) ≡ lex between
    (items_text true (items_data is))
unfolding lex
lex_later [] h = refl
lex_later (i ∷ is) h = ap (λ l. comma ∷ l) (lex_first i is h.0 (lex_later is h.1))

lex_items : (is : List Item) → AllByRecursion ItemInRange is → lex between (flat_map escaped (items_text false (items_data is))) ≡ lex between
    (items_text false (items_data is))
lex_items [] h = refl
lex_items (i ∷ is) h = lex_first i is h.0 (lex_later is h.1)

lex_item : (i : Item) → ItemInRange i → lex between (flat_map escaped (compact_text (item_data i))) ≡ lex between (compact_text (item_data i))
lex_item i h =
    ap (lex between) (sym (append-nil (flat_map escaped (compact_text (item_data i))))) ∙ printed_item i h [] refl ∙ sym (stored_item i h [] refl)
    ∙ ap (lex between) (append-nil (compact_text (item_data i)))

lex_list : (is : List Item) → AllByRecursion ItemInRange is → lex between (91 ∷ flat_map escaped (items_text false (items_data is))) ≡ lex between
    (91 ∷ items_text false (items_data is))
unfolding lex
lex_list is h = ap (λ l. token begin_array ∷ l) (lex_items is h)

lex_scalar : (s : Scalar) → ScalarInRange s → lex between (scalar_json s) ≡ lex between (json_text s)
lex_scalar (scalar.Bool b) h = lex_item (item.Bool b) h
lex_scalar (scalar.Int z) h = lex_item (item.Int z) h
lex_scalar (scalar.Text s) h = lex_item (item.Text s) h
lex_scalar (scalar.List is) h = lex_list is h

-- So it has the tokens of the value.
tokens_are : (s : Scalar) → ScalarInRange s → tokens (scalar_json s) ≡ data_tokens (scalar_data s)
tokens_are s h =
    ap (punctuate fresh) (lex_scalar s h) ∙ ap tokens (sym (print-outline (scalar_data s)))
    ∙ tokens-print (data_tokens (scalar_data s)) (ArePrintable-json_tokens (outline (scalar_data s)) (IsReadable-scalar_data s h).numbers)

-- ---- UTF-8

utf8_char : (c : ℕ) → scalar c ≡ true → IsUtf8 (flat_map escaped (encode c))
utf8_char c ok = elim (cases_eq c 127) [
  | inl delete ↦ subst (λ n. IsUtf8 (flat_map escaped (encode n))) (sym delete)
      (subst (λ l. IsUtf8 (flat_map escaped l)) (sym (encode_ascii 127 (omega arith))) (IsUtf8-are_ascii (92 ∷ 117 ∷ 48 ∷ 48 ∷ 55 ∷ 102 ∷ []) refl))
  | inr another ↦
      let stays : (i : ℕ) → i < length (encode c) → get_or (encode c) i 0 ≡ 127 → ⊥ =
      λ i low is. another (inside_one c [] (encode c) i (sym (append-nil _)) low (omega (arith, is)) ∙ is) in
      subst IsUtf8 (sym (kept (encode c) stays)) (IsUtf8-encode c ok)
]

utf8_chars : (cs : List ℕ) → scalars cs ≡ true → IsUtf8 (flat_map escaped (encodes cs))
utf8_chars [] ok = IsUtf8-nil
utf8_chars (c ∷ cs) ok =
    let parts = and_parts _ _ ok in
    subst IsUtf8 (sym (flat_map-append escaped (encode c) (encodes cs))) (IsUtf8-append _ _ (utf8_char c parts.0) (utf8_chars cs parts.1))

utf8_escaped : (text : List ℕ) → IsUtf8 text → IsUtf8 (flat_map escaped text)
utf8_escaped text u = subst (λ l. IsUtf8 (flat_map escaped l)) u.1.1 (utf8_chars u.0 u.1.0)

utf8_number : (z : ℤ) → FitsSigned w64 z → IsUtf8 (number_text (of_integer z))
utf8_number (pos n) h = IsUtf8-from_ascii _ (IsAscii-signed (pos n) h.sfits)
utf8_number (negsuc n) h = IsUtf8-from_ascii _ (IsAscii-signed (negsuc n) h.sfits)

utf8_item : (i : Item) → ItemInRange i → ItemIsText i → IsUtf8 (compact_text (item_data i))
utf8_item (item.Bool b) h t = IsUtf8-boolean b
utf8_item (item.Int z) h t = utf8_number z h
utf8_item (item.Text s) h t = IsUtf8-quoted s t

utf8_comma : (later : Bool) → IsUtf8 (comma_if later)
utf8_comma true = IsUtf8-are_ascii (44 ∷ []) refl
utf8_comma false = IsUtf8-nil

utf8_items : (later : Bool) (is : List Item) → AllByRecursion ItemInRange is → AllByRecursion ItemIsText is → IsUtf8 (items_text later (items_data is))
utf8_items later [] h t = IsUtf8-are_ascii (93 ∷ []) refl
utf8_items later (i ∷ is) h t = IsUtf8-append _ _ (utf8_comma later) (IsUtf8-append _ _ (utf8_item i h.0 t.0) (utf8_items true is h.1 t.1))

utf8_stored : (s : Scalar) → ScalarInRange s → HasTexts s → IsUtf8 (json_text s)
utf8_stored (scalar.Bool b) h t = utf8_item (item.Bool b) h t
utf8_stored (scalar.Int z) h t = utf8_item (item.Int z) h t
utf8_stored (scalar.Text s) h t = utf8_item (item.Text s) h t
utf8_stored (scalar.List is) h t = IsUtf8-append (91 ∷ []) _ (IsUtf8-are_ascii (91 ∷ []) refl) (utf8_items false is h t)

-- What is printed of a value reads back as the value.
pub reads_back : (s : Scalar) → IsValue s → scalar_read (scalar_json s) ≡ Ok s
reads_back s v = scalar_read-tokens s (scalar_json s) v.numbers (utf8_escaped (json_text s) (utf8_stored s v.numbers v.texts)) (tokens_are s v.numbers)
