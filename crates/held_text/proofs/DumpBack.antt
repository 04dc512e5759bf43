-- The text of a dump is JSON of its value.
use Rattle.std.proofs.Common.{◌≡◌, ℕ, ◌<◌, ◌^◌, true, List, [], ◌∷◌, ◌++◌, length, take, get_or, codes, IsUtf8}
use Rattle.std.proofs.Common.{refl, sym, ap, ◌∙◌, subst, append_assoc, length-append, arith}
use Rattle.std.specs.Fmt.{decimal}
use Rattle.std.proofs.lemmas.Fmt.{IsAscii-decimal}
use Rattle.std.proofs.lemmas.List.{take_at, drop_at, get_or_at}
use Rattle.std.proofs.lemmas.Str.{IsUtf8-append, IsUtf8-take, IsUtf8-drop, IsUtf8-from_ascii, IsCharBoundary-from_take, IsCharBoundary-before_ascii}
use Rattle.json.proofs.Printed.Tokens.{tokens-print}
use Rattle.json.proofs.Printed.Trees.{ArePrintable-json_tokens}
use Rattle.json.proofs.Printed.Utf8.{are_ascii, IsUtf8-are_ascii, IsUtf8-quoted, IsUtf8-key}
use Rattle.json.specs.Lex.{tokens}
use Rattle.json.specs.Print.{quoted}
use Rattle.serde_json.proofs.Texts.{print-outline}
use Rattle.serde_json.specs.Written.{outline}
use Rattle.json_trees.proofs.Trip.{data_of-tokens}
use Rattle.json_trees.specs.Written.{data_tokens, IsReadable}
use Rattle.settings_tree.specs.declared.held.Held.{Held}
use Rattle.version_links.specs.Versions.{Fits, version_text}
use Rattle.version_links.specs.declared.version.Version.{Version}
use Rattle.held_text.specs.HeldText.{held_text}
use Rattle.held_text.specs.HeldRules.{IsHeld}
use Rattle.held_text.specs.Dump.{dump_members, dump_data, dump_text, SpellsDump}
use Rattle.held_text.proofs.HeldBack.{readable_held}
use Rattle.held_text.proofs.JsonLists.{readable_string, readable_object}

-- What follows UTF-8 in UTF-8 is UTF-8.
utf8_after : (front rest : List ℕ) → IsUtf8 front → IsUtf8 (front ++ rest) → IsUtf8 rest
utf8_after front rest first all =
    let at = length front in
    let whole : IsUtf8 (take at (front ++ rest)) = subst IsUtf8 (sym (take_at front rest at refl)) first in
    let cut = IsCharBoundary-from_take (front ++ rest) at all (omega (arith, length-append front rest)) whole in
    subst IsUtf8 (drop_at front rest at refl) (IsUtf8-drop (front ++ rest) at all cut)

-- What stands before an ASCII byte in UTF-8 is UTF-8.
utf8_before : (front rest : List ℕ) (c : ℕ) → c < 128 → IsUtf8 (front ++ c ∷ rest) → IsUtf8 front
utf8_before front rest c ascii all =
    let at = length front in
    let low : get_or (front ++ c ∷ rest) at 0 < 128 = rw (get_or_at front c rest 0 at refl) ascii in
    let cut = IsCharBoundary-before_ascii (front ++ c ∷ rest) at (omega (arith, length-append front (c ∷ rest))) low in
    subst IsUtf8 (take_at front (c ∷ rest) at refl) (IsUtf8-take (front ++ c ∷ rest) at all cut)

-- What stands before the held text, and after it.
abbrev before : List ℕ
before = 123 ∷ (quoted (codes "held") ++ 58 ∷ [])

abbrev after : Version → List ℕ
after v = quoted (codes "version") ++ 58 ∷ (quoted (version_text v) ++ 125 ∷ [])

-- The text of a dump is the held text between these.
between : (v : Version) (h : Held) → dump_text v h ≡ before ++ (held_text h ++ 44 ∷ after v)
between v h = ap (λ (l : List ℕ). 123 ∷ l) (sym (append_assoc (quoted (codes "held")) (58 ∷ []) (held_text h ++ 44 ∷ after v)))

-- They are UTF-8.
one : (c : ℕ) (rest : List ℕ) → are_ascii (c ∷ []) ≡ true → IsUtf8 rest → IsUtf8 (c ∷ rest)
one c rest ascii utf8 = IsUtf8-append (c ∷ []) rest (IsUtf8-are_ascii (c ∷ []) ascii) utf8

utf8_first : IsUtf8 before
utf8_first = one 123 (quoted (codes "held") ++ 58 ∷ []) refl (IsUtf8-key (codes "held") (IsUtf8-are_ascii (codes "held") refl))

utf8_number : (n : ℕ) → n < 2 ^ 64 → IsUtf8 (decimal n)
utf8_number n low = IsUtf8-from_ascii (decimal n) (IsAscii-decimal n low)

utf8_version : (v : Version) → Fits v → IsUtf8 (version_text v)
utf8_version v fits =
    IsUtf8-append (decimal v.major ++ 46 ∷ decimal v.minor) (46 ∷ decimal v.patch)
    (IsUtf8-append (decimal v.major) (46 ∷ decimal v.minor) (utf8_number v.major fits.major) (one 46 (decimal v.minor) refl (utf8_number v.minor fits.minor)))
    (one 46 (decimal v.patch) refl (utf8_number v.patch fits.patch))

utf8_last : (v : Version) → Fits v → IsUtf8 (44 ∷ after v)
utf8_last v fits = one 44 (after v) refl
    (IsUtf8-append (quoted (codes "version")) (58 ∷ (quoted (version_text v) ++ 125 ∷ []))
    (IsUtf8-quoted (codes "version") (IsUtf8-are_ascii (codes "version") refl))
    (one 58 (quoted (version_text v) ++ 125 ∷ []) refl
    (IsUtf8-append (quoted (version_text v)) (125 ∷ []) (IsUtf8-quoted (version_text v) (utf8_version v fits)) (IsUtf8-are_ascii (125 ∷ []) refl))))

-- So the held text is UTF-8 where the dump is.
pub held_utf8 : (v : Version) (h : Held) → IsUtf8 (dump_text v h) → IsUtf8 (held_text h)
held_utf8 v h all = utf8_before (held_text h) (after v) 44 (omega arith)
    (utf8_after before (held_text h ++ 44 ∷ after v) utf8_first (subst IsUtf8 (between v h) all))

-- And the other way round.
dump_utf8 : (v : Version) (h : Held) → Fits v → IsUtf8 (held_text h) → IsUtf8 (dump_text v h)
dump_utf8 v h fits held = subst IsUtf8 (sym (between v h))
    (IsUtf8-append before (held_text h ++ 44 ∷ after v) utf8_first (IsUtf8-append (held_text h) (44 ∷ after v) held (utf8_last v fits)))

-- The value of a dump can be read back.
readable_dump : (v : Version) (h : Held) → IsHeld h → IsReadable 7 (dump_data v h)
readable_dump v h is = readable_object 6 (dump_members v h) (readable_held h is, (readable_string 6 (version_text v), tt)) refl

-- A text with the tokens of a dump spells it.
pub dump_spelled : (v : Version) (h : Held) (text : List ℕ) → Fits v → IsHeld h → IsUtf8 text → tokens text ≡ data_tokens (dump_data v h) → SpellsDump text v h
dump_spelled v h text fits is utf8 are = record {
  fits = fits;
  valid = is;
  value_is = data_of-tokens (dump_data v h) 7 text (readable_dump v h is) (omega arith) utf8 are;
}

-- So does the text of a dump.
pub dump_back : (v : Version) (h : Held) (text : List ℕ) → Fits v → IsHeld h → text ≡ dump_text v h → SpellsDump text v h
dump_back v h text fits is prints = dump_spelled v h text fits is (subst IsUtf8 (sym prints) (dump_utf8 v h fits is.utf8))
    (ap tokens (prints ∙ sym (print-outline (dump_data v h))) ∙ tokens-print (data_tokens (dump_data v h))
    (ArePrintable-json_tokens (outline (dump_data v h)) (readable_dump v h is).numbers))
