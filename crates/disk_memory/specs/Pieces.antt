-- Bytes in pieces, of which some were given.
use Rattle.std.specs.Prelude.{ℕ, ◌<◌, List, [], ◌∷◌, ◌++◌, length, take, drop, map, Vec, slice_get, Option, Some, None}
use Rattle.std.specs.List.{flat_map}
use Rattle.std.specs.declared.alloc.Global.{Global}

-- Pieces of bytes.
abbrev pub Pieces : Type 0
Pieces = List (Vec ℕ Global)

-- The bytes of the pieces, joined.
abbrev pub joined : Pieces → List ℕ
joined pieces = flat_map (λ piece. piece.items) pieces

-- The bytes of the piece, none where there is no piece.
abbrev pub bytes_in : Option (Vec ℕ Global) → List ℕ
bytes_in None = []
bytes_in (Some piece) = piece.items

-- The bytes of the piece with this number.
abbrev pub piece_at : Pieces → ℕ → List ℕ
piece_at pieces i = bytes_in (slice_get pieces i)

-- The bytes before the place: the pieces before the i-th, and so many bytes from there.
abbrev pub before_place : Pieces → ℕ → ℕ → List ℕ
before_place pieces i offset = joined (take i pieces) ++ take offset (joined (drop i pieces))

-- The bytes from the place on.
abbrev pub from_place : Pieces → ℕ → ℕ → List ℕ
from_place pieces i offset = drop offset (joined (drop i pieces))

-- What is left of each piece, where so many bytes of the first were given.
abbrev pub cut : ℕ → Pieces → List (List ℕ)
cut offset [] = []
cut offset (piece ∷ pieces) = drop offset piece.items ∷ map (λ p. p.items) pieces

-- The first piece that isn't empty.
abbrev pub first_filled : List (List ℕ) → List ℕ
first_filled [] = []
first_filled ([] ∷ pieces) = first_filled pieces
first_filled ((b ∷ bytes) ∷ pieces) = b ∷ bytes

-- What is left of the first piece that has some bytes left.
abbrev pub next_piece : Pieces → ℕ → ℕ → List ℕ
next_piece pieces i offset = first_filled (cut offset (drop i pieces))

-- The place is at a byte, or no piece is left.
pub record AtByte (pieces : Pieces) (i offset : ℕ) : Type 0 where
  pub there : i < length pieces → offset < length (piece_at pieces i)
