-- The printed text of parts that are all bare: a dot for each zero byte.
use Rattle.std.proofs.Common.{◌≡◌, ◌<◌, ◌≤◌, ℕ, zero, suc, Bool, true, false, cond, ◌&&◌, ◌||◌, List, [], ◌∷◌, if◌then◌else◌, length, map, get_or, refl, sym, ap, ◌∙◌, arith}
use Rattle.std.specs.Prelude.{◌==◌, slice_set}
use Rattle.std.specs.List.{list_all, onto_first, join_with_byte}
use Rattle.std.specs.Str.{IsUtf8, IsAscii}
use Rattle.std.proofs.lemmas.Str.{IsUtf8-from_ascii}
use Rattle.std.proofs.lemmas.Bool.{and_parts, and_from}
use Rattle.std.proofs.lemmas.Bool.Decides.{nat_tests}
use Rattle.std.proofs.lemmas.List.Splits.{length-slice_split}
use Rattle.key_names.specs.Segment.{is_bare, printed_segment, quoted}
use Rattle.key_names.specs.Key.{printed}
use Rattle.key_names.specs.Packed.{parts, has_bare_parts, dotted}

-- A bare character, or a zero byte between parts.
abbrev is_part : ℕ → Bool
is_part b = b == 0 || is_bare b

-- The text with dots for the zero bytes of its first bytes, so many.
abbrev pub dotted_to : ℕ → List ℕ → List ℕ
dotted_to zero text = text
dotted_to (suc n) [] = []
dotted_to (suc n) (b ∷ text) = dotted b ∷ dotted_to n text

-- One byte more.
pub dotted_more : (text : List ℕ) (i : ℕ) → i < length text → slice_set (dotted_to i text) i (dotted (get_or (dotted_to i text) i 0)) ≡ dotted_to (suc i) text
dotted_more [] i low = absurd (omega arith)
dotted_more (b ∷ text) zero low = refl
dotted_more (b ∷ text) (suc i) low = ap (λ (l : List ℕ). dotted b ∷ l) (dotted_more text i (omega arith))

pub length-dotted_to : (text : List ℕ) (i : ℕ) → length (dotted_to i text) ≡ length text
length-dotted_to text zero = refl
length-dotted_to [] (suc i) = refl
length-dotted_to (b ∷ text) (suc i) = ap suc (length-dotted_to text i)

-- All of them.
dotted_all : (text : List ℕ) → dotted_to (length text) text ≡ map dotted text
dotted_all [] = refl
dotted_all (b ∷ text) = ap (λ (l : List ℕ). dotted b ∷ l) (dotted_all text)

pub whole : (text items : List ℕ) (i : ℕ) → length items ≤ i → i ≤ length items → items ≡ dotted_to i text → items ≡ map dotted text
whole text items i far near is =
    let all : i ≡ length text = omega (arith, ap length is, length-dotted_to text i) in
    is ∙ ap (λ n. dotted_to n text) all ∙ dotted_all text

-- The parts joined by dots.
joined_more : (x : ℕ) (segments : List (List ℕ)) (b : Bool) → 0 < length segments
    → join_with_byte 46 (cond b ([] ∷ segments) (onto_first x segments)) ≡ (if b then 46 else x) ∷ join_with_byte 46 segments
joined_more x [] b some = absurd (omega arith)
joined_more x (segment ∷ segments) true some = refl
joined_more x (segment ∷ []) false some = refl
joined_more x (segment ∷ next ∷ segments) false some = refl

joined_dotted : (text : List ℕ) → join_with_byte 46 (parts text) ≡ map dotted text
joined_dotted [] = refl
joined_dotted (b ∷ text) = joined_more b (parts text) (b == 0) (omega (arith, length-slice_split (λ x. x == 0) text))
    ∙ ap (λ (l : List ℕ). dotted b ∷ l) (joined_dotted text)

-- Bare parts are printed as they are.
bare_more : (x : ℕ) (segments : List (List ℕ)) (b : Bool) → (b || is_bare x) ≡ true → list_all (list_all is_bare) segments ≡ true
    → list_all (list_all is_bare) (cond b ([] ∷ segments) (onto_first x segments)) ≡ true
bare_more x segments true part bare = bare
bare_more x [] false part bare = and_from (is_bare x && true) true (and_from (is_bare x) true part refl) refl
bare_more x (segment ∷ segments) false part bare = let each = and_parts (list_all is_bare segment) (list_all (list_all is_bare) segments) bare in
    and_from (list_all is_bare (x ∷ segment)) (list_all (list_all is_bare) segments) (and_from (is_bare x) (list_all is_bare segment) part each.0) each.1

bare_parts : (text : List ℕ) → has_bare_parts text ≡ true → list_all (list_all is_bare) (parts text) ≡ true
bare_parts [] all = refl
bare_parts (b ∷ text) all = let each = and_parts (is_part b) (list_all is_part text) all in bare_more b (parts text) (b == 0) each.0 (bare_parts text each.1)

as_they_are : (segments : List (List ℕ)) → list_all (list_all is_bare) segments ≡ true → map printed_segment segments ≡ segments
as_they_are [] bare = refl
as_they_are (segment ∷ segments) bare = let each = and_parts (list_all is_bare segment) (list_all (list_all is_bare) segments) bare in
    ap (λ (t : Bool). (if t then segment else quoted segment) ∷ map printed_segment segments) each.0
    ∙ ap (λ (l : List (List ℕ)). segment ∷ l) (as_they_are segments each.1)

pub dotted_printed : (text : List ℕ) → has_bare_parts text ≡ true → map dotted text ≡ printed (parts text)
unfolding printed
dotted_printed text all = sym (ap (join_with_byte 46) (as_they_are (parts text) (bare_parts text all)) ∙ joined_dotted text)

-- They are text.
part_low : (b : ℕ) → is_part b ≡ true → dotted b < 128
part_low b part = grind (arith, nat_tests)

dotted_ascii : (text : List ℕ) → has_bare_parts text ≡ true → IsAscii (map dotted text)
dotted_ascii [] all i = omega arith
dotted_ascii (b ∷ text) all zero = part_low b (and_parts (is_part b) _ all).0
dotted_ascii (b ∷ text) all (suc i) = dotted_ascii text (and_parts (is_part b) _ all).1 i

pub dotted_text : (text : List ℕ) → has_bare_parts text ≡ true → IsUtf8 (map dotted text)
dotted_text text all = IsUtf8-from_ascii (map dotted text) (dotted_ascii text all)
