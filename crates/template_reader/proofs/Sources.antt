-- A source has one tree, or a fault.
use Rattle.std.proofs.Common.{◌≡◌, ◌≢◌, ℕ, ◌+◌, ◌≤◌, Bool, true, false, List, length, take}
use Rattle.std.proofs.Common.{drop, Option, Some, None, refl, sym, ap, ◌∙◌, arith, subst, if◌then◌else◌}
use Rattle.std.specs.Prelude.{min, Result, Ok, Err, IfOk, IfErr}
use Rattle.std.specs.Option.{option_map}
use Rattle.std.proofs.lemmas.List.{length-drop}
use Rattle.template_reader.specs.Front.{front_length, is_toml, behind_front, body_start}
use Rattle.template_reader.specs.Fault.{body_fault}
use Rattle.template_reader.specs.Spot.{spots}
use Rattle.template_reader.specs.Taken.{items_behind}
use Rattle.template_reader.specs.Nest.{ParsesBody}
use Rattle.template_reader.specs.Parses.{Parses, moved, fault_from, fault, IsRead, IsRefused}
use Rattle.template_reader.specs.Spans.{spans_of, RiseWithin}
use Rattle.template_reader.specs.Tree.{Tree}
use Rattle.template_reader.specs.Forest.{tree_in}
use Rattle.template_reader.specs.declared.template.Template.{Template}
use Rattle.template_reader.specs.declared.template_error.TemplateError.{TemplateError}
use Rattle.template_reader.specs.declared.template_error.TemplateKind.{TemplateKind}
use Rattle.template_reader.specs.declared.template_error.TemplateKind.TheVariants.{BadFront, Escape, Unclosed, BadTag, NotBegun}
use Rattle.template_reader.specs.declared.template_error.TemplateKind.TheVariants.{TwoElse, NotInEach, TooDeep, NeverClosed, Memory}
use Rattle.template_reader.proofs.SpanOrder.{spans_rise, rise-lower}
use Rattle.template_reader.proofs.Unique.{one_tree}

-- The body begins within the source.
behind-within : (source : List ℕ) (o : Option ℕ) (start : ℕ) → behind_front source o ≡ Some start → start ≤ length source
behind-within source None start e = let z : 0 ≡ start = (cc) in omega arith
behind-within source (Some n) start e = by (is_toml (take n source)) refl
  where
    by : (t : Bool) → is_toml (take n source) ≡ t → start ≤ length source
    by true f = let z : min (n + 4) (length source) ≡ start = some_is _ _
        (sym (ap (λ (t : Bool). if t then Some (min (n + 4) (length source)) else None) f) ∙ e) in omega arith
      where
        some_is : (a b : ℕ) → Some a ≡ Some b → a ≡ b
        some_is a b e = cc
    by false f = absurd (let z = sym (ap (λ (t : Bool). if t then Some (min (n + 4) (length source)) else None) f) ∙ e in cc)

-- The body begins within the source.
start-within : (source : List ℕ) (start : ℕ) → body_start source ≡ Some start → start ≤ length source
unfolding body_start
start-within source start e = behind-within source (front_length source) start e

-- The spans of a source's tree lie in the source, in order.
pub source_spans : (source : List ℕ) (t : Tree) → Parses source t → RiseWithin 0 (spans_of t) (length source)
source_spans source t p =
    let h = start-within source p.start p.front in
    let e : p.start + length (drop p.start source) ≡ length source = omega (arith, length-drop p.start source) in
    let P : ℕ → Type 0 = λ n. RiseWithin p.start (spans_of t) n in
    rise-lower 0 p.start (length source) (spans_of t) (omega arith) (subst P e (spans_rise p.start (drop p.start source) t p.body))

-- What the reader of the front and that of the body say together.
pub parses_from : (source body : List ℕ) (base : ℕ) (t : Tree) → body_start source ≡ Some base → body ≡ drop base source → ParsesBody base body t
    → Parses source t
parses_from source body base t front body_is p =
    let P : List ℕ → Type 0 = λ l. ParsesBody base l t in
    record { start = base; front = front; body = subst P body_is p }

-- Where the front is no TOML, that is the fault.
pub fault_front : (source : List ℕ) (e : TemplateError) → body_start source ≡ None → e ≡ record { kind = BadFront; place = 0 } → fault source ≡ Some e
unfolding fault
fault_front source e front is = ap (fault_from source) front ∙ ap (λ (e : TemplateError). Some e) (sym is)

-- The first fault of the body, moved past the front, is that of the source.
pub fault_body : (source body : List ℕ) (base : ℕ) (e f : TemplateError) → body_start source ≡ Some base → body ≡ drop base source → body_fault body ≡ Some e
    → f ≡ moved base e → fault source ≡ Some f
unfolding fault
fault_body source body base e f front body_is wrong is =
    ap (fault_from source) front ∙ ap (λ l. option_map (moved base) (body_fault l)) (sym body_is) ∙ ap (option_map (moved base)) wrong
    ∙ ap (λ (e : TemplateError). Some e) (sym is)

-- A source that parses has no fault, and one tree.
pub faultless : (source : List ℕ) (t : Tree) → Parses source t → fault source ≡ None
unfolding fault
faultless source t p = ap (fault_from source) p.front ∙ ap (option_map (moved p.start)) p.body.faultless

-- A source has one tree at most.
pub one_parse : (source : List ℕ) (t u : Tree) → Parses source t → Parses source u → t ≡ u
one_parse source t u p q =
    let same : q.start ≡ p.start = some_is q.start p.start (sym q.front ∙ p.front) in
    let P : ℕ → Type 0 = λ n. ParsesBody n (drop n source) u in
    let r : ParsesBody p.start (drop p.start source) u = subst P same q.body in
    one_tree t u (items_behind p.start 0 (spots (drop p.start source))) p.body.nests r.nests
  where
    some_is : (a b : ℕ) → Some a ≡ Some b → a ≡ b
    some_is a b e = cc

-- A kind that isn't another than Memory is Memory.
memory_unless : (k : TemplateKind) → (k ≢ Memory → ⊥) → k ≡ Memory
memory_unless BadFront h = absurd (h (λ e. cc))
memory_unless Escape h = absurd (h (λ e. cc))
memory_unless Unclosed h = absurd (h (λ e. cc))
memory_unless BadTag h = absurd (h (λ e. cc))
memory_unless NotBegun h = absurd (h (λ e. cc))
memory_unless TwoElse h = absurd (h (λ e. cc))
memory_unless NotInEach h = absurd (h (λ e. cc))
memory_unless TooDeep h = absurd (h (λ e. cc))
memory_unless NeverClosed h = absurd (h (λ e. cc))
memory_unless Memory h = refl

-- A source has not both no fault and a fault.
none-some : (source : List ℕ) (e : TemplateError) → fault source ≡ None → fault source ≡ Some e → ⊥
none-some source e f g = let h : None ≡ Some e = sym f ∙ g in cc

-- A reading is exact.
pub read_exactly : (source : List ℕ) (r : Result Template TemplateError) → IfOk r (λ t. Parses source (tree_in t.nodes))
    → IfErr r (λ e. e.kind ≢ Memory → fault source ≡ Some e)
    → (t : Tree) → Parses source t → IsRead r t
read_exactly source (Ok u) p f t q = one_parse source (tree_in u.nodes) t p q
read_exactly source (Err e) p f t q = memory_unless e.kind (λ other. none-some source e (faultless source t q) (f other))

-- So exactly the first fault is answered, unless it ran out of memory.
pub refused_exactly : {T : Type 0} (source : List ℕ) (tree : T → Tree) (r : Result T TemplateError) → IfOk r (λ t. Parses source (tree t))
    → IfErr r (λ e. e.kind ≢ Memory → fault source ≡ Some e)
    → (e : TemplateError) → fault source ≡ Some e → IsRefused r e
refused_exactly {T} source tree (Ok u) p f e q = none-some source e (faultless source (tree u) p) q
refused_exactly {T} source tree (Err g) p f e q = λ other. let h : Some g ≡ Some e = sym (f other) ∙ q in cc

-- The spans of what is read.
pub read_spans : (source : List ℕ) (r : Result Template TemplateError) → IfOk r (λ t. Parses source (tree_in t.nodes))
    → IfOk r (λ t. RiseWithin 0 (spans_of (tree_in t.nodes)) (length source))
read_spans source (Ok t) p = source_spans source (tree_in t.nodes) p
read_spans source (Err e) p = tt
