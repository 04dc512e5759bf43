use Rattle.std.proofs.Common.{subst}
use Rattle.httparse.specs.Grammar.{HasNoRequest}
use Rattle.api_http.proofs.Hopeless.{no_head_there}
use Rattle.api_http.proofs.Readings.{found_whole_head}
use Rattle.api_http.proofs.Waiting.{found_size}
use Rattle.api_http.proofs.wanted.wanted_of.Goals as goal

pub returns-in-Ok-clause-head : goal.returns-in-Ok-clause-head
returns-in-Ok-clause-head c none = absurd (found_whole_head c.args.bytes.now _ _ _ c.shown_of-full.ensures.part c.in-Ok.ensures.whole none)

pub returns-in-Ok-clause-body : goal.returns-in-Ok-clause-body
returns-in-Ok-clause-body c = found_size c.args.bytes.now _ _ c.split_at.result.0.now c.in-Ok.head c.sound_length.result c.shown_of-full.ensures.part
    c.in-Ok.ensures.whole c.split_at.ensures.front c.sound_length.ensures.sound

pub returns-in-Err-clause-body : goal.returns-in-Err-clause-body
returns-in-Err-clause-body c head rest clean = absurd (no_head_there c.args.bytes.now (subst HasNoRequest c.shown_of-full.ensures.part c.in-Err.ensures.none)
    head rest clean.whole)
