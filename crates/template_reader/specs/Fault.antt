-- The first fault of a body.
use Rattle.std.specs.Prelude.{ℕ, ◌+◌, ◌-◌, Bool, true, false, not, ◌&&◌, ◌||◌, nat_le, List, [], ◌∷◌, length, Option, Some, None, if◌then◌else◌, codes}
use Rattle.std.specs.List.{list_any}
use Rattle.std.specs.Option.{option_or}
use Rattle.template_reader.specs.Bytes.{begins, ends}
use Rattle.template_reader.specs.Cut.{Piece, text, tag, unclosed, cut}
use Rattle.template_reader.specs.Says.{tag_of}
use Rattle.template_reader.specs.declared.tag.Form.{Form}
use Rattle.template_reader.specs.declared.tag.Form.TheVariants.{Comment, Print, Begin, Otherwise, Finish}
use Rattle.template_reader.specs.declared.tag.Tag.{Tag}
use Rattle.template_reader.specs.Spot.{Block, Spot, spots, blocks_after}
use Rattle.template_reader.specs.declared.walk.Walk.{Walk}
use Rattle.template_reader.specs.declared.walk.Walk.TheVariants.{Root, This, AtKey, AtIndex}
use Rattle.template_reader.specs.declared.expr.Expr.{Expr}
use Rattle.template_reader.specs.Tree.{walk_of}
use Rattle.template_reader.specs.declared.tag.Name.{Name}
use Rattle.template_reader.specs.declared.tag.Name.TheVariants as name
use Rattle.template_reader.specs.declared.template_error.TemplateKind.{TemplateKind}
use Rattle.template_reader.specs.declared.template_error.TemplateKind.TheVariants.{Escape, Unclosed, BadTag, NotBegun, TwoElse, NotInEach, TooDeep, NeverClosed}
use Rattle.template_reader.specs.declared.template_error.TemplateError.{TemplateError}

-- The path begins at the root.
abbrev pub is_root : Walk → Bool
is_root (Root k) = true
is_root (This k) = false
is_root AtKey = false
is_root AtIndex = false

-- The names are one.
abbrev pub same_name : Name → Name → Bool
same_name name.If name.If = true
same_name name.If name.Unless = false
same_name name.If name.Each = false
same_name name.Unless name.If = false
same_name name.Unless name.Unless = true
same_name name.Unless name.Each = false
same_name name.Each name.If = false
same_name name.Each name.Unless = false
same_name name.Each name.Each = true

-- Some block is an each, in its first part.
abbrev pub is_in_each : List Block → Bool
is_in_each blocks = list_any (λ b. same_name name.Each b.name && not b.other) blocks

-- The path is `this`, `@key` or `@index`, outside every each.
abbrev pub is_outside : List Block → Walk → Bool
is_outside blocks w = not (is_root w || is_in_each blocks)

-- The fault of a tag that says this, after these blocks.
unfoldable pub form_fault : List Block → Form → Option TemplateKind
form_fault blocks Comment = None
form_fault blocks (Print e) = if is_outside blocks (walk_of e) then Some NotInEach else None
form_fault blocks (Begin n w) =
    if is_outside blocks w then Some NotInEach else (if nat_le 32 (length blocks) then Some TooDeep else None)
form_fault [] Otherwise = Some NotBegun
form_fault (b ∷ bs) Otherwise = if b.other then Some TwoElse else None
form_fault [] (Finish n) = Some NotBegun
form_fault (b ∷ bs) (Finish n) = if same_name n b.name then None else Some NotBegun

-- The fault of a tag after these blocks.
abbrev pub tag_fault : List Block → Option Tag → Option TemplateKind
tag_fault blocks None = Some BadTag
tag_fault blocks (Some t) = form_fault blocks t.form

-- A fault, at its place.
abbrev pub at : ℕ → Option TemplateKind → Option TemplateError
at place None = None
at place (Some kind) = Some (record { kind = kind; place = place })

-- The fault of a piece at a place, after these blocks and before these bytes.
unfoldable pub piece_fault : ℕ → List Block → List ℕ → Piece → Option TemplateError
piece_fault place blocks after (text bytes) =
    if begins after (codes "{{") && ends bytes (92 ∷ []) then Some (record { kind = Escape; place = place + (length bytes - 1) }) else None
piece_fault place blocks after (tag bytes) = at place (tag_fault blocks (tag_of bytes))
piece_fault place blocks after (unclosed bytes) = Some (record { kind = Unclosed; place = place })

-- The fault of a piece in its place.
abbrev pub spot_fault : Spot → Option TemplateError
spot_fault s = piece_fault (length s.before) s.blocks s.after s.piece

-- The first fault of these pieces.
unfoldable pub first_fault : List Spot → Option TemplateError
first_fault [] = None
first_fault (s ∷ ss) = option_or (spot_fault s) (first_fault ss)

-- The innermost block is open at the end.
abbrev pub never_closed : List Block → Option TemplateError
never_closed [] = None
never_closed (b ∷ bs) = Some (record { kind = NeverClosed; place = b.place })

-- The first fault of a body: that of a piece, or else of a block that is never closed.
unfoldable pub body_fault : List ℕ → Option TemplateError
body_fault body = option_or (first_fault (spots body)) (never_closed (blocks_after 0 [] (cut body)))
