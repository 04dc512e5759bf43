use Rattle.std.proofs.Common.{◌≡◌, ◌+◌, ◌<◌, suc, length, ap, sym, ◌∙◌, slice_set, get_or, arith, subst, vec_items, rules, IfOk}
use Rattle.std.proofs.lemmas.List.{with_items_is, places}
use Rattle.std.specs.Str.{IsUtf8}
use Rattle.std.specs.String.{string_vec}
use Rattle.std.specs.Vec.{with_items}
use Rattle.key_names.specs.Packed.{dotted}
use Rattle.key_names.proofs.Dotted.{dotted_to, dotted_more, whole, length-dotted_to, dotted_printed, dotted_text}
use Rattle.key_names.proofs.printing.bare_printed.Goals as goal

pub loop-b-preserved : goal.loop-b-preserved
loop-b-preserved c =
    let text = c.args.text.now in
    let i = c.loop-b.b-index in
    let next : i + 1 ≡ suc i = omega arith in
    let low : i < length text = omega (arith, ap length c.loop-b.invariant, length-dotted_to text i) in
    ap (λ l. slice_set l i c.dotted.result) c.loop-b.invariant
    ∙ ap (slice_set (dotted_to i text) i) (c.dotted.ensures ∙ ap (λ l. dotted (get_or l i 0)) c.loop-b.invariant)
    ∙ dotted_more text i low
    ∙ ap (λ n. dotted_to n text) (sym next)

pub unwrap-requires : goal.unwrap-requires
unwrap-requires c =
    let items = with_items_is c.in_ok-bytes.bytes c.loop-b.b-items (search (rules, places)) in
    let all = whole c.args.text.now c.loop-b.b-items c.loop-b.b-index (omega arith) (omega arith) c.loop-b.invariant in
    c.from_utf8.ensures.succeeds (subst IsUtf8 (sym (items ∙ all)) (dotted_text c.args.text.now c.requires))

pub returns : goal.returns
returns c =
    let items = with_items_is c.in_ok-bytes.bytes c.loop-b.b-items (search (rules, places)) in
    let all = whole c.args.text.now c.loop-b.b-items c.loop-b.b-index (omega arith) (omega arith) c.loop-b.invariant in
    let text = subst (λ r. IfOk r (λ t. string_vec t ≡ with_items c.in_ok-bytes.bytes c.loop-b.b-items)) c.unwrap.ensures c.from_utf8.ensures.ok in
    ap vec_items text ∙ items ∙ all ∙ dotted_printed c.args.text.now c.requires
