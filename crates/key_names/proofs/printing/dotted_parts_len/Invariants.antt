use Rattle.std.proofs.Common.{◌≡◌, ◌≤◌, ◌+◌, ◌*◌, length}
use denote.Shadow.{shadow}
use denote.Text.{Utf8}
use Rattle.std.specs.Prelude.{IsTrue}
use Rattle.std.specs.List.{sum_by, list_all}
use Rattle.key_names.specs.Segment.{printed_segment, has_short_name}
use Rattle.key_names.specs.Packed.{parts}
use Rattle.key_names.proofs.printing.dotted_parts_len.Given as goal

-- the length so far, with that of what is left
abbrev pub invariant-loop-front : goal.invariant-loop-front
invariant-loop-front l = record {
  whole : l.len + sum_by (λ s. length (printed_segment s) + 1) (parts l.rest) ≡ sum_by (λ s. length (printed_segment s) + 1) (parts l.text);
  bound : l.len + 130 * length (parts l.rest) ≤ 130 * 32;
  short : IsTrue (list_all has_short_name (parts l.rest));
  text : shadow (Utf8 l.rest);
}

abbrev pub decreases-loop-front : goal.decreases-loop-front
decreases-loop-front l = length l.rest
