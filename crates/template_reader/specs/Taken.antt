-- Which bytes of the texts are left, and what the body then says, in order.
use Rattle.std.specs.Prelude.{ℕ, ◌+◌, ◌-◌, Bool, true, false, ◌==◌, nat_lt, max, List}
use Rattle.std.specs.Prelude.{[], ◌∷◌, ◌++◌, length, drop, Option, Some, None, unwrap_or, if◌then◌else◌}
use Rattle.std.specs.List.{list_all, after_last, suffix_len, prefix_len}
use Rattle.template_reader.specs.Bytes.{begins, is_space, is_blank, more}
use Rattle.template_reader.specs.Cut.{Piece}
use Rattle.template_reader.specs.Cut as piece
use Rattle.template_reader.specs.Says.{tag_of}
use Rattle.template_reader.specs.declared.tag.Form.{Form}
use Rattle.template_reader.specs.declared.tag.Form.TheVariants as form
use Rattle.template_reader.specs.declared.tag.Tag.{Tag}
use Rattle.template_reader.specs.Spot.{Spot}
use Rattle.template_reader.specs.declared.span.Span.{Span}
use Rattle.template_reader.specs.declared.expr.Expr.{Expr}
use Rattle.template_reader.specs.declared.walk.Walk.{Walk}
use Rattle.template_reader.specs.declared.tag.Name.{Name}

-- The bytes from the start of the line on.
abbrev pub line_start : List ℕ → List ℕ
line_start before = after_last (λ b. b == 10) before

-- How many bytes the line's end at the start has: LF, CR LF or the end of the body.
unfoldable pub line_end : List ℕ → Option ℕ
line_end bytes =
    if length bytes == 0 then Some 0
    else (if begins bytes (10 ∷ []) then Some 1
    else (if begins bytes (13 ∷ 10 ∷ []) then Some 2 else None))

-- How many bytes the spaces and tabs at the start have, and the line's end after them.
unfoldable pub line_rest : List ℕ → Option ℕ
line_rest after = let n = prefix_len is_blank after in more n (line_end (drop n after))

-- A block tag or a comment may be alone on its line.
abbrev pub may_be_alone : Form → Bool
may_be_alone form.Comment = true
may_be_alone (form.Print e) = false
may_be_alone (form.Begin n w) = true
may_be_alone form.Otherwise = true
may_be_alone (form.Finish n) = true

-- How many bytes are between the start of the line and the tag, where they are spaces and tabs.
unfoldable pub line_front : List ℕ → Option ℕ
line_front before = if list_all is_blank (line_start before) then Some (length (line_start before)) else None

-- Both numbers, where there are both.
abbrev pub both : Option ℕ → Option ℕ → Option (ℕ × ℕ)
both None n = None
both (Some m) None = None
both (Some m) (Some n) = Some (m, n)

-- How many bytes a tag takes before it and after it where it is alone on its line.
unfoldable pub alone : Tag → List ℕ → List ℕ → Option (ℕ × ℕ)
alone t before after = if may_be_alone t.form then both (line_front before) (line_rest after) else None

-- How many bytes a tag takes before it, if it says something.
unfoldable pub tag_takes_before : Option Tag → List ℕ → List ℕ → ℕ
tag_takes_before None before after = 0
tag_takes_before (Some t) before after =
    max (unwrap_or (alone t before after) (0, 0)).0 (if t.front then suffix_len is_space before else 0)

-- How many bytes a tag takes after it, if it says something.
unfoldable pub tag_takes_after : Option Tag → List ℕ → List ℕ → ℕ
tag_takes_after None before after = 0
tag_takes_after (Some t) before after =
    max (unwrap_or (alone t before after) (0, 0)).1 (if t.back then prefix_len is_space after else 0)

-- The tag that a piece is, if it is one that says something.
abbrev pub tag_in : Piece → Option Tag
tag_in (piece.text bytes) = None
tag_in (piece.tag bytes) = tag_of bytes
tag_in (piece.unclosed bytes) = None

-- How many bytes a piece takes before it.
abbrev pub takes_before : Spot → ℕ
takes_before s = tag_takes_before (tag_in s.piece) s.before s.after

-- How many bytes a piece takes after it.
abbrev pub takes_after : Spot → ℕ
takes_after s = tag_takes_after (tag_in s.piece) s.before s.after

-- What a piece says, if anything: a text that is left, or a tag that is no comment.
pub data Item : Type 0 where
  text : Span → Item
  print : Expr → Item
  begin : Name → Walk → Item
  otherwise : Item
  finish : Name → Item

-- A text of the body, where a byte of it is left; in the source so many bytes are before the body.
abbrev pub text_item : ℕ → ℕ → ℕ → List Item
text_item base start end = if nat_lt start end then text (record { start = base + start; end = base + end }) ∷ [] else []

-- A tag that says this.
abbrev pub form_item : Form → List Item
form_item form.Comment = []
form_item (form.Print e) = print e ∷ []
form_item (form.Begin n w) = begin n w ∷ []
form_item form.Otherwise = otherwise ∷ []
form_item (form.Finish n) = finish n ∷ []

-- A tag.
abbrev pub tag_item : Option Tag → List Item
tag_item None = []
tag_item (Some t) = form_item t.form

-- A piece at a place of the body, where so many bytes are taken from the front and from the end of a text.
abbrev pub piece_item : ℕ → ℕ → ℕ → ℕ → Piece → List Item
piece_item base place front back (piece.text bytes) = text_item base (place + front) (place + length bytes - back)
piece_item base place front back (piece.tag bytes) = tag_item (tag_of bytes)
piece_item base place front back (piece.unclosed bytes) = []

-- How many bytes the first of these takes before it.
abbrev pub first_takes_before : List Spot → ℕ
first_takes_before [] = 0
first_takes_before (s ∷ ss) = takes_before s

-- What these pieces say, each between its neighbours, of which the one before the first takes so many bytes.
unfoldable pub items_behind : ℕ → ℕ → List Spot → List Item
items_behind base front [] = []
items_behind base front (s ∷ ss) = piece_item base (length s.before) front (first_takes_before ss) s.piece ++ items_behind base (takes_after s) ss
