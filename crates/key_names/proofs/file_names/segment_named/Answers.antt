use Rattle.std.proofs.Common.{◌≡◌, ◌∙◌, sym, ap, refl, true≢false}
use Rattle.std.proofs.lemmas.Slice.Eq.{bytes_eq-Decides}
use Rattle.percent_encoding.specs.Percent.{percent_decode}
use Rattle.key_names.specs.Segment.{is_segment, file_name}
use Rattle.key_names.proofs.FileNames.{percent_decode-file_name}
use Rattle.key_names.proofs.file_names.segment_named.Goals as goal

pub returns-then-not-is_segment-clause-none : goal.returns-then-not-is_segment-clause-none
returns-then-not-is_segment-clause-none c _ s n =
    let decoded : c.as_slice.result.now ≡ percent_decode c.args.name.now =
    rw (c.as_slice.ensures.value, c.in_ok-append_to.ensures.ok, c.new-segment.ensures.items, c.percent_decode.ensures.bytes) refl in
    let same : c.as_slice.result.now ≡ s = decoded ∙ percent_decode-file_name c.args.name.now s n in
    true≢false (sym n.valid ∙ ap is_segment (sym same) ∙ sym c.is_segment.ensures ∙ c.if-not-is_segment.true)

pub returns-else-eq-clause-none : goal.returns-else-eq-clause-none
returns-else-eq-clause-none c _ s n =
    let decoded : c.as_slice-2.result.now ≡ percent_decode c.args.name.now =
    rw (c.as_slice-2.ensures.value, c.in_ok-append_to.ensures.ok, c.new-segment.ensures.items, c.percent_decode.ensures.bytes) refl in
    let same : c.as_slice-2.result.now ≡ s = decoded ∙ percent_decode-file_name c.args.name.now s n in
    let again : c.as_slice-3.result.now ≡ c.args.name.now = c.as_slice-3.ensures.value ∙ c.in_ok-again.ensures ∙ ap file_name same ∙ sym n.spelled in
    true≢false (sym ((bytes_eq-Decides c.as_slice-3.result.now c.args.name.now).1 again) ∙ sym c.eq.ensures ∙ c.if-eq.false)
