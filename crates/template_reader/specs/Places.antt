-- Where marks are in the bytes, said without a scan: the least place that passes a test.
use Rattle.std.specs.Prelude.{◌≡◌, ◌⊎◌, ℕ, ◌+◌, ◌<◌, Bool, true, false, not, ◌&&◌, ◌||◌, ◌==◌}
use Rattle.std.specs.Prelude.{List, [], ◌∷◌, length, take, drop, filter, Option, Some, None, if◌then◌else◌, codes}
use Rattle.std.specs.List.{slice_split}
use Rattle.std.specs.Str.{bytes_eq}
use Rattle.template_reader.specs.Bytes.{begins, more}
use Rattle.template_reader.specs.Cut.{text_length, through, through_dashes, through_unquoted}
use Rattle.template_reader.specs.Front.{front_length}

-- The place is the least that passes the test, or there is none and no place passes.
abbrev pub IsLeast : (ℕ → Bool) → Option ℕ → Type 0
IsLeast test None = (n : ℕ) → test n ≡ false
IsLeast test (Some n) = (test n ≡ true) × ((m : ℕ) → m < n → test m ≡ false)

-- Whether the mark is at the place.
abbrev pub stands : List ℕ → List ℕ → ℕ → Bool
stands mark bytes n = begins (drop n bytes) mark

-- Whether the list has an even number of elements.
unfoldable pub is_even : List ℕ → Bool
is_even [] = true
is_even (x ∷ xs) = not (is_even xs)

-- The double quotes among the bytes.
abbrev pub quotes_in : List ℕ → List ℕ
quotes_in bytes = filter (λ b. b == 34) bytes

-- Whether the place is outside double quotes: there is an even number of quotes before it.
abbrev pub is_outside : List ℕ → ℕ → Bool
is_outside bytes n = is_even (quotes_in (take n bytes))

-- Whether `--}}` or `--~}}` is at the place.
abbrev pub dashes_stand : List ℕ → ℕ → Bool
dashes_stand bytes n = stands (codes "--}}") bytes n || stands (codes "--~}}") bytes n

-- The end of the dashes that are at the place.
abbrev pub dashes_end : List ℕ → Option ℕ → Option ℕ
dashes_end bytes None = None
dashes_end bytes (Some n) = Some (n + (if stands (codes "--}}") bytes n then 4 else 5))

-- How many bytes are before the first of the lines that is this one, each line with its LF.
abbrev pub before_line : List ℕ → List (List ℕ) → Option ℕ
before_line line [] = None
before_line line (l ∷ ls) = if bytes_eq l line then Some 0 else more (length l + 1) (before_line line ls)

-- A text goes to the least place of `{{`, or to the end where there is none.
abbrev pub TextsEnd : Type 0
TextsEnd = (bytes : List ℕ) → (IsLeast (stands (codes "{{") bytes) (Some (text_length bytes)))
    ⊎ ((IsLeast (stands (codes "{{") bytes) None) × (text_length bytes ≡ length bytes))

-- A comment with dashes goes through the least place of `--}}` or `--~}}`.
abbrev pub DashesEnd : Type 0
DashesEnd = (bytes : List ℕ) → (place : Option ℕ) × IsLeast (dashes_stand bytes) place × (through_dashes bytes ≡ dashes_end bytes place)

-- Another comment goes through the least place of the mark.
abbrev pub CommentsEnd : Type 0
CommentsEnd = (mark bytes : List ℕ) → 0 < length mark → (place : Option ℕ) × IsLeast (stands mark bytes) place × (through mark bytes ≡ more (length mark) place)

-- Any other tag goes through the least place of the mark with an even number of quotes before it.
abbrev pub TagsEnd : Type 0
TagsEnd = (mark bytes : List ℕ) → 0 < length mark → (place : Option ℕ) × IsLeast (λ n. stands mark bytes n && is_outside bytes n) place
    × (through_unquoted mark false bytes ≡ more (length mark) place)

-- The front is the lines before the first that is exactly `+++`.
abbrev pub FrontsEnd : Type 0
FrontsEnd = (source : List ℕ) → front_length source ≡ before_line (codes "+++") (slice_split (λ b. b == 10) source)
