-- A text spells one word.
use Rattle.std.proofs.Common.{◌≡◌, ◌≢◌, ℕ, ◌+◌, false, List, ◌++◌, get_or, drop, sym, ◌∙◌, ap, refl, arith}
use Rattle.std.specs.Prelude.{codes}
use Rattle.std.specs.List.{join_with_byte}
use Rattle.std.proofs.lemmas.Bool.{false≢true}
use Rattle.typed_settings.proofs.WordParts.{one_bounds, spelled_pieces}
use Rattle.typed_settings.specs.Word.{item_text, has_parts, bounds_text, SpellsItemWord, SpellsWord}
use Rattle.typed_settings.specs.declared.item_word.ItemWord.{ItemWord}
use Rattle.typed_settings.specs.declared.item_word.ItemWord.TheVariants as item
use Rattle.typed_settings.specs.declared.word.Word.{Word}
use Rattle.typed_settings.specs.declared.word.Word.TheVariants as word

-- ---- names

-- The sum of a text's first three bytes: no two names have the same.
abbrev mark : List ℕ → ℕ
mark text = get_or text 0 0 + get_or text 1 0 + get_or text 2 0

-- A name that is none of the six is the text of no word without parts.
pub no_name : (name : List ℕ) → name ≢ codes "bool" → name ≢ codes "text" → name ≢ codes "line" → name ≢ codes "identifier" → name ≢ codes "base64"
    → name ≢ codes "version" → (w : ItemWord) → has_parts w ≡ false → SpellsItemWord name w → ⊥
no_name name b t l i s v item.Bool parts is = b is.spelled
no_name name b t l i s v (item.Int low high) parts is = absurd (false≢true (sym parts))
no_name name b t l i s v item.Text parts is = t is.spelled
no_name name b t l i s v item.Line parts is = l is.spelled
no_name name b t l i s v item.Identifier parts is = i is.spelled
no_name name b t l i s v item.Base64 parts is = s is.spelled
no_name name b t l i s v item.Version parts is = v is.spelled
no_name name b t l i s v (item.Choice names) parts is = absurd (false≢true (sym parts))

-- A text that begins neither with `int ` nor with `choice ` spells no word with parts.
pub no_parts : (text : List ℕ) → ((rest : List ℕ) → text ≢ codes "int " ++ rest) → ((rest : List ℕ) → text ≢ codes "choice " ++ rest)
    → ((w : ItemWord) → has_parts w ≡ false → SpellsItemWord text w → ⊥) → (w : ItemWord) → SpellsItemWord text w → ⊥
no_parts text int choice none (item.Int low high) is = int (bounds_text low high) is.spelled
no_parts text int choice none (item.Choice names) is = choice (join_with_byte 124 names) is.spelled
no_parts text int choice none w is = none w refl is

-- What begins with `list ` is the text of no word that is no list.
no_single : (rest : List ℕ) (w : ItemWord) → codes "list " ++ rest ≡ item_text w → ⊥
no_single rest item.Bool e = omega (arith, ap mark e)
no_single rest w e = omega (arith, ap mark e)

-- After `list ` there is a word that is no list.
pub no_list : (rest : List ℕ) → ((w : ItemWord) → SpellsItemWord rest w → ⊥) → (w : Word) → SpellsWord (codes "list " ++ rest) w → ⊥
no_list rest none (word.List w) is = none w (record { valid = is.valid; spelled = ap (drop 5) is.spelled })
no_list rest none (word.One w) is = absurd (no_single rest w is.spelled)

-- A text that doesn't begin with `list ` spells no list.
pub no_word : (text : List ℕ) → ((rest : List ℕ) → text ≢ codes "list " ++ rest) → ((w : ItemWord) → SpellsWord text (word.One w) → ⊥) → (w : Word)
    → SpellsWord text w → ⊥
no_word text list none (word.One w) is = none w is
no_word text list none (word.List w) is = list (item_text w) is.spelled

-- ---- a text spells one word

-- One that is no list.
pub one_item_word : (text : List ℕ) (w v : ItemWord) → SpellsItemWord text w → SpellsItemWord text v → w ≡ v
one_item_word text item.Bool item.Bool a b = refl
one_item_word text (item.Int low high) (item.Int low' high') a b =
    let e : bounds_text low high ≡ bounds_text low' high' = ap (drop 4) (sym a.spelled ∙ b.spelled) in
    let same = one_bounds (bounds_text low high) low high low' high' (record { valid = a.valid; spelled = refl }) (record { valid = b.valid; spelled = e }) in
    let lows : low ≡ low' = same.0 in
    let highs : high ≡ high' = same.1 in
    cc
one_item_word text item.Text item.Text a b = refl
one_item_word text item.Line item.Line a b = refl
one_item_word text item.Identifier item.Identifier a b = refl
one_item_word text item.Base64 item.Base64 a b = refl
one_item_word text item.Version item.Version a b = refl
one_item_word text (item.Choice names) (item.Choice names') a b =
    let e : join_with_byte 124 names ≡ join_with_byte 124 names' = ap (drop 7) (sym a.spelled ∙ b.spelled) in
    ap item.Choice (sym (spelled_pieces (join_with_byte 124 names) names (record { valid = a.valid; spelled = refl }))
    ∙ spelled_pieces (join_with_byte 124 names) names' (record { valid = b.valid; spelled = e }))
one_item_word text w v a b = absurd (omega (arith, ap mark (sym a.spelled ∙ b.spelled)))

-- One that may be a list.
pub one_word : (text : List ℕ) (w v : Word) → SpellsWord text w → SpellsWord text v → w ≡ v
one_word text (word.One w) (word.One v) a b = ap word.One (one_item_word text w v (record { valid = a.valid; spelled = a.spelled })
    (record { valid = b.valid; spelled = b.spelled }))
one_word text (word.List w) (word.List v) a b =
    let e : item_text w ≡ item_text v = ap (drop 5) (sym a.spelled ∙ b.spelled) in
    ap word.List (one_item_word (item_text w) w v (record { valid = a.valid; spelled = refl }) (record { valid = b.valid; spelled = e }))
one_word text (word.One w) (word.List v) a b = absurd (no_single (item_text v) w (sym b.spelled ∙ a.spelled))
one_word text (word.List w) (word.One v) a b = absurd (no_single (item_text w) v (sym a.spelled ∙ b.spelled))
