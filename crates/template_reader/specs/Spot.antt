-- Each piece in its place: what is before and after it, and the blocks that are open before it.
use Rattle.std.specs.Prelude.{ℕ, ◌+◌, Bool, true, false, List, [], ◌∷◌, ◌++◌, length, Option, Some, None}
use Rattle.std.specs.List.{flat_map}
use Rattle.template_reader.specs.Cut.{Piece, text, tag, unclosed, bytes_of, cut}
use Rattle.template_reader.specs.Says.{tag_of}
use Rattle.template_reader.specs.declared.tag.Form.{Form}
use Rattle.template_reader.specs.declared.tag.Form.TheVariants.{Comment, Print, Begin, Otherwise, Finish}
use Rattle.template_reader.specs.declared.tag.Tag.{Tag}
use Rattle.template_reader.specs.declared.tag.Name.{Name}

-- A block that is begun: its name, whether its else has come, and where its tag begins.
pub record Block : Type 0 where
  pub name : Name
  pub other : Bool
  pub place : ℕ

-- The innermost block's else has come.
abbrev pub after_else : List Block → List Block
after_else [] = []
after_else (b ∷ bs) = record b { other = true } ∷ bs

-- The innermost block has ended.
abbrev pub after_finish : List Block → List Block
after_finish [] = []
after_finish (b ∷ bs) = bs

-- The blocks after a tag that says this.
abbrev pub after_form : ℕ → List Block → Form → List Block
after_form place blocks Comment = blocks
after_form place blocks (Print e) = blocks
after_form place blocks (Begin n w) = record { name = n; other = false; place = place } ∷ blocks
after_form place blocks Otherwise = after_else blocks
after_form place blocks (Finish n) = after_finish blocks

-- The blocks after a tag.
abbrev pub after_tag : ℕ → List Block → Option Tag → List Block
after_tag place blocks None = blocks
after_tag place blocks (Some t) = after_form place blocks t.form

-- The blocks after a piece.
abbrev pub after_piece : ℕ → List Block → Piece → List Block
after_piece place blocks (text bytes) = blocks
after_piece place blocks (tag bytes) = after_tag place blocks (tag_of bytes)
after_piece place blocks (unclosed bytes) = blocks

-- The blocks that are open after these pieces, the innermost first.
unfoldable pub blocks_after : ℕ → List Block → List Piece → List Block
blocks_after place blocks [] = blocks
blocks_after place blocks (p ∷ ps) = blocks_after (place + length (bytes_of p)) (after_piece place blocks p) ps

-- The bytes of these pieces.
abbrev pub all_bytes : List Piece → List ℕ
all_bytes ps = flat_map bytes_of ps

-- A piece, all bytes before it, the blocks that are open before it, and all bytes after it.
pub record Spot : Type 0 where
  pub before : List ℕ
  pub blocks : List Block
  pub piece : Piece
  pub after : List ℕ

-- The pieces ps, each in its place after the pieces done.
unfoldable pub spots_behind : List Piece → List Piece → List Spot
spots_behind done [] = []
spots_behind done (p ∷ ps) =
    record { before = all_bytes done; blocks = blocks_after 0 [] done; piece = p; after = all_bytes ps } ∷ spots_behind (done ++ p ∷ []) ps

-- The pieces of a body, each in its place.
unfoldable pub spots : List ℕ → List Spot
spots body = spots_behind [] (cut body)
