use Rattle.std.proofs.Common.{◌∙◌, sym, arith}
use Rattle.key_names.specs.Packed.{segments_of}
use Rattle.key_names.proofs.KeyLimits.{child_too_many, child_segment_too_long, child_too_long, child_fits}
use Rattle.key_names.proofs.limits.child_limit.Goals as goal

pub returns-then-count-ge-MAX_SEGMENTS : goal.returns-then-count-ge-MAX_SEGMENTS
returns-then-count-ge-MAX_SEGMENTS c = child_too_many (segments_of c.args.text.now) c.args.segment.now (rw c.count.ensures at c.if-count-ge-MAX_SEGMENTS.true)

pub returns-then-not-has_short_name : goal.returns-then-not-has_short_name
returns-then-not-has_short_name c = child_segment_too_long (segments_of c.args.text.now) c.args.segment.now c.requires
    (rw c.count.ensures at c.if-count-ge-MAX_SEGMENTS.false) (sym c.has_short_name.ensures ∙ c.if-not-has_short_name.true)

pub returns-then-dotted_len-printed_segment_len-gt-MAX_PRINTED : goal.returns-then-dotted_len-printed_segment_len-gt-MAX_PRINTED
returns-then-dotted_len-printed_segment_len-gt-MAX_PRINTED c = child_too_long (segments_of c.args.text.now) c.args.segment.now c.requires
    (rw c.count.ensures at c.if-count-ge-MAX_SEGMENTS.false) (sym c.has_short_name.ensures ∙ c.if-not-has_short_name.false) (omega arith)

pub returns : goal.returns
returns c = child_fits (segments_of c.args.text.now) c.args.segment.now c.requires (rw c.count.ensures at c.if-count-ge-MAX_SEGMENTS.false)
    (sym c.has_short_name.ensures ∙ c.if-not-has_short_name.false) (omega arith)
