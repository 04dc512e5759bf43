use Rattle.std.proofs.Common.{◌≡◌, ◌≤◌, take}
use Rattle.std.specs.List.{sum_by}
use Rattle.typed_settings.proofs.Lengths.{dotted_len}
use Rattle.typed_settings.proofs.reading.is_short.Given as goal

abbrev pub invariant-loop-place : goal.invariant-loop-place
invariant-loop-place l = record {
  sum : l.len ≡ sum_by dotted_len (take l.place-index l.places);
  within : l.len ≤ 1025;
}
