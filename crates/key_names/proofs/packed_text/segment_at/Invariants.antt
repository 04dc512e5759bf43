use Rattle.std.proofs.Common.{◌≡◌, ◌<◌, [], length, slice_index_or}
use denote.Shadow.{shadow}
use denote.Text.{Utf8}
use Rattle.key_names.specs.Packed.{parts, segments_of}
use Rattle.key_names.proofs.packed_text.segment_at.Given as goal

-- the segment is so far on in what is left
abbrev pub invariant-loop-front : goal.invariant-loop-front
invariant-loop-front l = record {
  within : l.left < length (parts l.rest);
  there : slice_index_or (parts l.rest) l.left [] ≡ slice_index_or (segments_of l.text) l.index [];
  text : shadow (Utf8 l.rest);
}

abbrev pub decreases-loop-front : goal.decreases-loop-front
decreases-loop-front l = length l.rest
