use Rattle.std.proofs.Common.{arith, ℕ, ◌<◌, get_or}
use Rattle.key_names.proofs.FileNames.{file_name-percent_encode}
use Rattle.key_names.proofs.file_names.encoded.Goals as goal

pub returns : goal.returns
returns c =
    let small : (i : ℕ) → get_or c.args.segment.now i 0 < 256 = λ i. omega (arith, c.type_inv.segment i) in
    let text = file_name-percent_encode c.args.segment.now small in
    rw (c.into_bytes.ensures.value, c.in_ok-append_to.ensures.ok, c.new-text.ensures.bytes, c.percent_encode.ensures.text) text
