use Rattle.api_http.proofs.Given.{if_all}
use Rattle.api_http.proofs.OneAnswer.{every_whole, every_refused, every_wait}
use Rattle.api_http.proofs.Stays.{whole_stays, whole_within, whole_proper, refusal_kept, never_whole, cut_waits}
use Rattle.api_http.proofs.request.read_request.Goals as goal
use Rattle.std.proofs.lemmas.Result.{IfOk-weaker}

pub returns-clause-every_whole : goal.returns-clause-every_whole
returns-clause-every_whole c =
    if_all c.reading_of.result _ _ _ _ (λ reading whole refused not_yet. every_whole c.args.bytes.now reading
    (record { whole = whole; refused = refused; not_yet = not_yet })) c.reading_of.ensures.whole c.reading_of.ensures.refused c.reading_of.ensures.not_yet

pub returns-clause-every_refused : goal.returns-clause-every_refused
returns-clause-every_refused c =
    if_all c.reading_of.result _ _ _ _ (λ reading whole refused not_yet. every_refused c.args.bytes.now reading
    (record { whole = whole; refused = refused; not_yet = not_yet })) c.reading_of.ensures.whole c.reading_of.ensures.refused c.reading_of.ensures.not_yet

pub returns-clause-every_wait : goal.returns-clause-every_wait
returns-clause-every_wait c =
    if_all c.reading_of.result _ _ _ _ (λ reading whole refused not_yet. every_wait c.args.bytes.now reading
    (record { whole = whole; refused = refused; not_yet = not_yet })) c.reading_of.ensures.whole c.reading_of.ensures.refused c.reading_of.ensures.not_yet

pub returns-clause-stays : goal.returns-clause-stays
returns-clause-stays c = IfOk-weaker c.reading_of.result _ _ (whole_stays c.args.bytes.now) c.reading_of.ensures.whole

pub returns-clause-never : goal.returns-clause-never
returns-clause-never c = IfOk-weaker c.reading_of.result _ _ (never_whole c.args.bytes.now) c.reading_of.ensures.refused

pub returns-clause-proper : goal.returns-clause-proper
returns-clause-proper c = IfOk-weaker c.reading_of.result _ _ (whole_proper c.args.bytes.now) c.reading_of.ensures.whole

pub returns-clause-kept : goal.returns-clause-kept
returns-clause-kept c = IfOk-weaker c.reading_of.result _ _ (refusal_kept c.args.bytes.now) c.reading_of.ensures.refused

pub returns-clause-within : goal.returns-clause-within
returns-clause-within c = IfOk-weaker c.reading_of.result _ _ (whole_within c.args.bytes.now) c.reading_of.ensures.whole

pub returns-clause-cut : goal.returns-clause-cut
returns-clause-cut c =
    if_all c.reading_of.result _ _ _ _ (λ reading whole refused _. cut_waits c.args.bytes.now reading whole refused) c.reading_of.ensures.whole
    c.reading_of.ensures.refused c.reading_of.ensures.not_yet
