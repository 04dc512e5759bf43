use Rattle.std.proofs.Common.{rules, arith, ◌≡◌, ◌≤◌, ◌-◌, true, length, take, map, sym, ◌∙◌, ap, length-drop}
use Rattle.httparse.specs.Spans.{header_bytes, IsResponseOf, IsResponseWithin}
use Rattle.host_client.specs.Reply.{lengths, fits}
use Rattle.host_client.proofs.Replies.{reply_at}
use Rattle.host_client.proofs.reply.parts_of.Goals as goal

pub returns-then-fits-clause-reply : goal.returns-then-fits-clause-reply
returns-then-fits-clause-reply c =
    let bytes = c.args.bytes.now in
    let headers = c.parse_response.new.headers in
    let head = c.in-Ok-Complete.head in
    let size = length bytes - head.len in
    let found : IsResponseOf bytes headers head = search rules in
    let within : IsResponseWithin bytes headers head = search rules in
    let room : length (take head.headers headers) ≤ 64 =
    omega (arith, ap length c.split_at.ensures.front, c.split_at.ensures.front_len, within.section.count_fits, c.parse_response.auto.headers) in
    let good : fits (lengths (map (header_bytes bytes) (take head.headers headers))) size ≡ true =
    sym (c.fits.ensures ∙ ap (λ hs. fits (lengths (map (header_bytes bytes) hs)) size) c.split_at.ensures.front) ∙ c.if-fits.true in
    reply_at bytes headers head found.0 size room (sym (length-drop head.len bytes)) found.1 good
