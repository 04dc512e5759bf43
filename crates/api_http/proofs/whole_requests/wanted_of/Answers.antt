use Rattle.std.proofs.Common.{arith, ◌≡◌}
use Rattle.api_http.proofs.Messages.{asked_message, message_not_waiting}
use Rattle.api_http.proofs.whole_requests.wanted_of.Goals as goal

-- bytes that are not yet a request are waited for
pub returns-clause-waits : goal.returns-clause-waits
returns-clause-waits c n more = c.in_ok-reading.ensures.not_yet (c.wanted_by.ensures.not_yet n more)

pub returns-clause-until : goal.returns-clause-until
returns-clause-until c n wanted more fewer =
    let same : n ≡ c.bytes_wanted-count.result = c.wanted_by.ensures.same n wanted in
    c.bytes_wanted-count.ensures.waits (returns-clause-waits c n wanted) more (grind (arith, same, fewer))

pub returns-clause-heard : goal.returns-clause-heard
returns-clause-heard c hopes waits = (c.bytes_wanted-count.result, c.wanted_by.ensures.none (c.in_ok-reading.ensures.every_wait hopes waits))

-- a whole message is not waited for
pub returns-then-holds_message-clause-heard : goal.returns-then-holds_message-clause-heard
returns-then-holds_message-clause-heard c hopes waits = absurd (message_not_waiting c.args.bytes.now (c.holds_message.ensures.0 c.if-holds_message.true) waits)

-- and what is asked is one
pub returns-then-count-bytes-clause-asked : goal.returns-then-count-bytes-clause-asked
returns-then-count-bytes-clause-asked c q n asks =
    absurd (cc (c.holds_message.ensures.1 (asked_message c.args.bytes.now q n asks), c.if-holds_message.false))
