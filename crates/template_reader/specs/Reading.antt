-- The fault and the items of what is left of a body, from a place on. They say what each call of the reader has done; no public clause rests on them.
use Rattle.std.specs.Prelude.{◌≡◌, ℕ, ◌+◌, ◌-◌, ◌≤◌, ◌<◌, Bool, true, false, nat_lt, if◌then◌else◌, List, [], ◌∷◌, ◌++◌, length, take, drop, Option, Some}
use Rattle.std.specs.Option.{option_or}
use Rattle.template_reader.specs.Cut.{Piece, bytes_of, cut}
use Rattle.template_reader.specs.Spot.{Block, after_piece, after_form, all_bytes}
use Rattle.template_reader.specs.Fault.{piece_fault, never_closed, form_fault, at, is_in_each}
use Rattle.template_reader.specs.Taken.{Item, piece_item, text_item, form_item, tag_in, tag_takes_before, tag_takes_after}
use Rattle.template_reader.specs.Taken as item
use Rattle.template_reader.specs.Tree.{Tree, Branch, done, node, text, joined, Head, test, each}
use Rattle.template_reader.specs.Nest.{Spells, SpellsOne}
use Rattle.template_reader.specs.declared.tag.Form.{Form}
use Rattle.template_reader.specs.declared.tag.Form.TheVariants as form
use Rattle.template_reader.specs.declared.tag.Name.{Name}
use Rattle.template_reader.specs.declared.tag.Name.TheVariants as name
use Rattle.template_reader.specs.declared.walk.Walk.{Walk}
use Rattle.template_reader.specs.declared.reading.Stop.{Stop}
use Rattle.template_reader.specs.declared.reading.Stop.TheVariants as stop
use Rattle.template_reader.specs.declared.reading.Step.{Step}
use Rattle.template_reader.specs.declared.reading.Step.TheVariants as step
use Rattle.template_reader.specs.declared.tag.Tag.{Tag}
use Rattle.template_reader.specs.declared.template_error.TemplateError.{TemplateError}

-- The first fault of these pieces, which are at a place after these blocks.
unfoldable pub fault_in : ℕ → List Block → List Piece → Option TemplateError
fault_in place blocks [] = never_closed blocks
fault_in place blocks (p ∷ ps) =
    option_or (piece_fault place blocks (all_bytes ps) p) (fault_in (place + length (bytes_of p)) (after_piece place blocks p) ps)

-- How many bytes the first of these pieces takes of the bytes before it.
abbrev pub first_takes : List ℕ → List Piece → ℕ
first_takes before [] = 0
first_takes before (p ∷ ps) = tag_takes_before (tag_in p) before (all_bytes ps)

-- What these pieces say after the bytes before them, where so many bytes are taken from the front.
unfoldable pub items_in : ℕ → List ℕ → ℕ → List Piece → List Item
items_in base before front [] = []
items_in base before front (p ∷ ps) =
    piece_item base (length before) front (first_takes (before ++ bytes_of p) ps) p
    ++ items_in base (before ++ bytes_of p) (tag_takes_after (tag_in p) before (all_bytes ps)) ps

-- The first fault from a place on, after these blocks.
abbrev pub fault_at : List ℕ → ℕ → List Block → Option TemplateError
fault_at body place blocks = fault_in place blocks (cut (drop place body))

-- What the body says from a place on, where so many bytes are taken there.
abbrev pub items_at : ℕ → List ℕ → ℕ → ℕ → List Item
items_at base body place front = items_in base (take place body) front (cut (drop place body))

-- From here on there is only a text.
pub record IsLast (body : List ℕ) (from : ℕ) : Type 0 where
  pub fault : (blocks : List Block) → fault_at body from blocks ≡ never_closed blocks
  pub items : (base front : ℕ) → items_at base body from front ≡ text_item base (from + front) (length body)

-- From here on there is a text, maybe an empty one, and then this tag.
pub record IsNext (body : List ℕ) (from start end : ℕ) (t : Tag) : Type 0 where
  pub ordered : from ≤ start
  pub some : start < end
  pub inside : end ≤ length body
  pub fault : (blocks : List Block)
      → fault_at body from blocks ≡ option_or (at start (form_fault blocks t.form)) (fault_at body end (after_form start blocks t.form))
  pub items : (base front : ℕ)
      → items_at base body from front ≡ text_item base (from + front) (start - tag_takes_before (Some t) (take start body) (drop end body))
      ++ (form_item t.form ++ items_at base body end (tag_takes_after (Some t) (take start body) (drop end body)))

-- This is the fault, whatever blocks are open.
pub record IsWrong (body : List ℕ) (from : ℕ) (e : TemplateError) : Type 0 where
  pub fault : (blocks : List Block) → fault_at body from blocks ≡ Some e

-- A text, maybe an empty one, and the tag after it were read: the nodes went from old to new, and the tag says this.
pub record Passes (base : ℕ) (body : List ℕ) (from front : ℕ) (old new : Tree) (f : Form) (start end skip : ℕ) : Type 0 where
  pub later : from < end
  pub inside : end + skip ≤ length body
  pub fault : (blocks : List Block)
      → fault_at body from blocks ≡ option_or (at start (form_fault blocks f)) (fault_at body end (after_form start blocks f))
  pub items : (t : Tree) × (a : List Item) × (new ≡ joined old t) × Spells t a
      × (items_at base body from front ≡ a ++ (form_item f ++ items_at base body end skip))

-- The first fault from what ends a part of nodes on: the end of the body, an else, or an end.
abbrev pub stop_fault : List ℕ → List Block → Stop → ℕ → ℕ → Option TemplateError
stop_fault body blocks stop.End place end = never_closed blocks
stop_fault body blocks stop.Otherwise place end = option_or (at place (form_fault blocks form.Otherwise))
    (fault_at body end (after_form place blocks form.Otherwise))
stop_fault body blocks (stop.Finish n) place end = option_or (at place (form_fault blocks (form.Finish n)))
    (fault_at body end (after_form place blocks (form.Finish n)))

-- What the body says from there on.
abbrev pub stop_items : ℕ → List ℕ → Stop → ℕ → ℕ → List Item
stop_items base body stop.End end skip = []
stop_items base body stop.Otherwise end skip = item.otherwise ∷ items_at base body end skip
stop_items base body (stop.Finish n) end skip = item.finish n ∷ items_at base body end skip

-- So many blocks are open, within an each or not.
pub record Fits (depth : ℕ) (in_each : Bool) (blocks : List Block) : Type 0 where
  pub depth_is : length blocks ≡ depth
  pub each_is : is_in_each blocks ≡ in_each

-- The nodes went from old to new while a part of the body was read.
pub record Moves (base : ℕ) (body : List ℕ) (at front depth : ℕ) (in_each : Bool) (old new : Tree) (place skip : ℕ) : Type 0 where
  pub later : at ≤ place
  pub inside : place + skip ≤ length body
  pub fault : (blocks : List Block) → Fits depth in_each blocks → fault_at body at blocks ≡ fault_at body place blocks
  pub items : (t : Tree) × (a : List Item) × (new ≡ joined old t) × Spells t a × (items_at base body at front ≡ a ++ items_at base body place skip)

-- They did, and this ends them.
pub record Stops (base : ℕ) (body : List ℕ) (at front depth : ℕ) (in_each : Bool) (old new : Tree) (stop : Stop) (place end skip : ℕ) : Type 0 where
  pub later : at ≤ end
  pub inside : end + skip ≤ length body
  pub fault : (blocks : List Block) → Fits depth in_each blocks → fault_at body at blocks ≡ stop_fault body blocks stop place end
  pub items : (t : Tree) × (a : List Item) × (new ≡ joined old t) × Spells t a × (items_at base body at front ≡ a ++ stop_items base body stop end skip)

-- This is the first fault from there on, whatever the open blocks are.
pub record Fails (body : List ℕ) (at depth : ℕ) (in_each : Bool) (e : TemplateError) : Type 0 where
  pub fault : (blocks : List Block) → Fits depth in_each blocks → fault_at body at blocks ≡ Some e

-- One tag was read.
abbrev pub Steps : ℕ → List ℕ → ℕ → ℕ → ℕ → Bool → Tree → Tree → Step → Type 0
Steps base body at front depth in_each old new (step.Goes rest) = (at < rest.from) × Moves base body at front depth in_each old new rest.from rest.taken
Steps base body at front depth in_each old new (step.Stops s place rest) = Stops base body at front depth in_each old new s place rest.from rest.taken

-- A block that is begun, whose else has come or not.
abbrev pub opened : Name → Bool → ℕ → Block
opened name other place = record { name = name; other = other; place = place }

-- The other part of a block was read, and its end.
pub record Others (base : ℕ) (body : List ℕ) (from front depth : ℕ) (in_each : Bool) (name : Name) (start : ℕ) (t : Tree) (end skip : ℕ) : Type 0 where
  pub later : from ≤ end
  pub inside : end + skip ≤ length body
  pub fault : (blocks : List Block) → Fits depth in_each blocks → fault_at body from (opened name true start ∷ blocks) ≡ fault_at body end blocks
  pub items : (a : List Item) × Spells t a × (items_at base body from front ≡ a ++ (item.finish name ∷ items_at base body end skip))

-- A block was read after its begin, and its end.
pub record Blocks (base : ℕ) (body : List ℕ) (from front depth : ℕ) (in_each : Bool) (name : Name) (path : Walk) (start : ℕ) (b : Branch) (end skip : ℕ) : Type
    0 where
  pub later : from ≤ end
  pub inside : end + skip ≤ length body
  pub fault : (blocks : List Block) → Fits depth in_each blocks → fault_at body from (opened name false start ∷ blocks) ≡ fault_at body end blocks
  pub items : (a : List Item) × SpellsOne b (item.begin name path ∷ a) × (items_at base body from front ≡ a ++ items_at base body end skip)

-- This is the first fault from there on, within the block.
pub record FailsIn (body : List ℕ) (from depth : ℕ) (in_each : Bool) (block : Block) (e : TemplateError) : Type 0 where
  pub fault : (blocks : List Block) → Fits depth in_each blocks → fault_at body from (block ∷ blocks) ≡ Some e

-- What a block of this name begins with.
abbrev pub head : Name → Walk → Head
head name.If w = test false w
head name.Unless w = test true w
head name.Each w = each w

-- The tree of a text, where a byte of it is left.
abbrev pub text_tree : ℕ → ℕ → ℕ → Tree
text_tree base start end = if nat_lt start end then node (text (record { start = base + start; end = base + end })) done else done
