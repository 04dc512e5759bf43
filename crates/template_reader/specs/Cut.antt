-- A body, cut into pieces.
use Rattle.std.specs.Prelude.{ℕ, zero, suc, ◌+◌, Bool, true, false, not, ◌==◌, List, [], ◌∷◌, length, take, drop, Option, Some, None, if◌then◌else◌, codes}
use Rattle.template_reader.specs.Bytes.{begins, more}

-- A piece is a text, a whole tag, or a tag without end and all bytes after it.
pub data Piece : Type 0 where
  text : List ℕ → Piece
  tag : List ℕ → Piece
  unclosed : List ℕ → Piece

-- The bytes of a piece.
abbrev pub bytes_of : Piece → List ℕ
bytes_of (text bytes) = bytes
bytes_of (tag bytes) = bytes
bytes_of (unclosed bytes) = bytes

-- How many bytes are before the first `{{`.
unfoldable pub text_length : List ℕ → ℕ
text_length [] = 0
text_length (b ∷ bs) = if begins (b ∷ bs) (codes "{{") then 0 else 1 + text_length bs

-- How many bytes go to the end of the first mark.
unfoldable pub through : List ℕ → List ℕ → Option ℕ
through mark [] = None
through mark (b ∷ bs) = if begins (b ∷ bs) mark then Some (length mark) else more 1 (through mark bs)

-- How many bytes go to the end of the first `--}}` or `--~}}`.
unfoldable pub through_dashes : List ℕ → Option ℕ
through_dashes [] = None
through_dashes (b ∷ bs) =
    if begins (b ∷ bs) (codes "--}}") then Some 4
    else (if begins (b ∷ bs) (codes "--~}}") then Some 5 else more 1 (through_dashes bs))

-- How many bytes go to the end of the first mark outside double quotes, where the first byte is inside them or not.
unfoldable pub through_unquoted : List ℕ → Bool → List ℕ → Option ℕ
through_unquoted mark quoted [] = None
through_unquoted mark true (b ∷ bs) = more 1 (through_unquoted mark (not (b == 34)) bs)
through_unquoted mark false (b ∷ bs) =
    if begins (b ∷ bs) mark then Some (length mark) else more 1 (through_unquoted mark (b == 34) bs)

-- How many bytes the tag at the start has, if it has an end.
unfoldable pub tag_length : List ℕ → Option ℕ
tag_length bytes =
    if begins bytes (codes "{{!--") then more 5 (through_dashes (drop 5 bytes))
    else (if begins bytes (codes "{{~!--") then more 6 (through_dashes (drop 6 bytes))
    else (if begins bytes (codes "{{!") then more 3 (through (codes "}}") (drop 3 bytes))
    else (if begins bytes (codes "{{~!") then more 4 (through (codes "}}") (drop 4 bytes))
    else (if begins bytes (codes "{{{") then more 3 (through_unquoted (codes "}}}") false (drop 3 bytes))
    else more 2 (through_unquoted (codes "}}") false (drop 2 bytes))))))

-- The tag at the start, of this length if it has an end.
abbrev pub tag_piece : List ℕ → Option ℕ → Piece
tag_piece bytes None = unclosed bytes
tag_piece bytes (Some n) = tag (take n bytes)

-- The piece at the start.
unfoldable pub first_piece : List ℕ → Piece
first_piece bytes =
    if begins bytes (codes "{{") then tag_piece bytes (tag_length bytes)
    else text (take (text_length bytes) bytes)

-- The pieces, at most so many, one after the other.
unfoldable pub pieces : ℕ → List ℕ → List Piece
pieces zero bytes = []
pieces (suc n) [] = []
pieces (suc n) (b ∷ bs) =
    let p = first_piece (b ∷ bs) in
    p ∷ pieces n (drop (length (bytes_of p)) (b ∷ bs))

-- All pieces: each has a byte at least.
unfoldable pub cut : List ℕ → List Piece
cut bytes = pieces (length bytes) bytes
