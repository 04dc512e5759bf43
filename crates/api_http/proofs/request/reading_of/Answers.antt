use Rattle.std.proofs.Common.{ap, subst, Err, ◌∙◌, inl}
use Rattle.httparse.specs.Grammar.{HasNoRequest}
use Rattle.api_http.specs.Heads.{line_feeds}
use Rattle.api_http.specs.Requests.{for_head, too_long}
use Rattle.api_http.proofs.Hopeless.{no_head_there, few_lines_there}
use Rattle.api_http.proofs.Ends.{refused_there}
use Rattle.api_http.proofs.Readings.{found_whole_head}
use Rattle.api_http.proofs.request.reading_of.Goals as goal

pub returns-in-Err-NotYet-clause-not_yet : goal.returns-in-Err-NotYet-clause-not_yet
returns-in-Err-NotYet-clause-not_yet c _ =
    let part = c.shown_of-full.ensures.part in
    let told = c.in-Err-NotYet.ensures.not_yet (ap Err c.in-Err-NotYet.field-0-is) in
    for_head (no_head_there _ (subst HasNoRequest part told.0)) (few_lines_there _ (λ e. told.1 (ap line_feeds part ∙ e))) told.2

pub returns-in-Err-TooLong-clause-refused : goal.returns-in-Err-TooLong-clause-refused
returns-in-Err-TooLong-clause-refused c =
    let part = c.shown_of-full.ensures.part in
    let told = c.in-Err-TooLong.ensures.too_long (ap Err c.in-Err-TooLong.field-0-is) in
    inl (too_long (no_head_there _ (subst HasNoRequest part told.0)) (few_lines_there _ (λ e. told.1 (ap line_feeds part ∙ e))) told.2)

pub returns-in-Err-Refused-clause-refused : goal.returns-in-Err-Refused-clause-refused
returns-in-Err-Refused-clause-refused c =
    refused_there c.args.bytes.now _ c.shown_of-full.ensures.part (c.in-Err-Refused.ensures.refused (ap Err c.in-Err-Refused.field-0-is))

pub returns-in-Ok-clause-free : goal.returns-in-Ok-clause-free
returns-in-Ok-clause-free c none = absurd (found_whole_head c.args.bytes.now _ _ _ c.shown_of-full.ensures.part (c.in-Ok.ensures.whole) none)
