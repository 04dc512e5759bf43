use Rattle.api_http.proofs.Waiting.{wanted_more, wanted_waits}
use Rattle.api_http.proofs.wanted.bytes_wanted.Goals as goal

pub returns-clause-more : goal.returns-clause-more
returns-clause-more c = wanted_more c.args.bytes.now _ c.wanted_of.ensures.head c.wanted_of.ensures.body

pub returns-clause-waits : goal.returns-clause-waits
returns-clause-waits c = wanted_waits c.args.bytes.now _ c.wanted_of.ensures.head c.wanted_of.ensures.body
