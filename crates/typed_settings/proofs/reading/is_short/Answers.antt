use Rattle.std.proofs.Common.{◌<◌, ◌≤◌, length, true≢false, sym, ap, arith}
use Rattle.std.specs.List.{sum_by}
use Rattle.std.proofs.lemmas.List.{take_all}
use Rattle.typed_settings.specs.Pattern.{printed_pattern}
use Rattle.typed_settings.proofs.Lengths.{dotted_len, too_long, short_enough}
use Rattle.typed_settings.proofs.reading.is_short.Goals as goal

pub returns-then-len-gt1025 : goal.returns-then-len-gt1025
returns-then-len-gt1025 c =
    let long : 1024 < length (printed_pattern c.args.places.now) = too_long c.args.places.now c.loop-place.place-index c.place-item.result (omega arith)
    c.place-item.is (omega (arith, c.loop-place.invariant.sum, c.printed_len.ensures, c.saturating_add.ensures, c.saturating_add-len.ensures)) in
    (λ short. absurd (true≢false (sym short)), λ short. absurd (omega (arith, long, short)))

pub returns : goal.returns
returns c =
    let all = take_all c.loop-place.place-index c.args.places.now (omega arith) in
    let sum : sum_by dotted_len c.args.places.now ≤ 1025 = omega (arith, c.loop-place.invariant.sum, c.loop-place.invariant.within, ap (sum_by dotted_len) all)
    in
    let short : length (printed_pattern c.args.places.now) ≤ 1024 = short_enough c.args.places.now sum in
    grind (arith, short)
