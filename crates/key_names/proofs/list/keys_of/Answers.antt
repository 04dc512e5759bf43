use Rattle.std.proofs.Common.{◌≡◌, ◌≢◌, ◌+◌, length, length-take, length-drop, take, drop, arith}
use Rattle.key_names.specs.Spelling.{SpellsKey}
use Rattle.key_names.proofs.Parts.{Leads-none, joins_whole, leads_more}
use Rattle.key_names.proofs.list.keys_of.Goals as goal

pub loop-key-init : goal.loop-key-init
loop-key-init c = record { within = omega arith; leads = Leads-none SpellsKey 44 c.args.text.now c.new-keys.result.items c.new-keys.ensures.items }

pub returns-then-start-text-clause-ok : goal.returns-then-start-text-clause-ok
returns-then-start-text-clause-ok c =
    let rest = drop c.loop-key.start c.args.text.now in
    let piece = rw c.split_at.ensures.back at c.piece_len-len.ensures.piece in
    let read = rw (c.split_at-in-loop-key.ensures.front, c.split_at.ensures.back) at c.in-Ok.ensures.ok in
    let ends : c.loop-key.start + length (take c.piece_len-len.result rest) ≡ length c.args.text.now =
    omega (arith, length-take c.piece_len-len.result rest, length-drop c.loop-key.start c.args.text.now, c.if-start-text.true) in
    rw c.in_ok-push.ensures.items
    (joins_whole SpellsKey 44 c.args.text.now c.loop-key.keys.items c.loop-key.start c.loop-key.invariant.within c.loop-key.invariant.leads
    c.in-Ok.key (take c.piece_len-len.result rest) piece.rest piece.text_is read ends)

pub loop-key-preserved : goal.loop-key-preserved
loop-key-preserved c =
    let rest = drop c.loop-key.start c.args.text.now in
    let piece = rw c.split_at.ensures.back at c.piece_len-len.ensures.piece in
    let read = rw (c.split_at-in-loop-key.ensures.front, c.split_at.ensures.back) at c.in-Ok.ensures.ok in
    let long : length (take c.piece_len-len.result rest) ≡ c.piece_len-len.result =
    omega (arith, length-take c.piece_len-len.result rest, length-drop c.loop-key.start c.args.text.now) in
    let goes_on : c.loop-key.start + length (take c.piece_len-len.result rest) ≢ length c.args.text.now = omega (arith, long, c.if-start-text.false) in
    record {
      within = omega (arith, c.if-start-text.false);
      leads =
          rw (c.in_ok-push.ensures.items, ← long)
          (leads_more SpellsKey 44 c.args.text.now c.loop-key.keys.items c.loop-key.start c.loop-key.invariant.within c.loop-key.invariant.leads
          c.in-Ok.key (take c.piece_len-len.result rest) piece.rest piece.text_is read goes_on piece.ends);
    }
