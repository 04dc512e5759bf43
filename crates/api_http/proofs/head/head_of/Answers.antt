use Rattle.std.proofs.Common.{rules, ◌≢◌, length, inl, inr, ap, subst, ◌∙◌, Err}
use Rattle.httparse.specs.Grammar.{HasNoRequest}
use Rattle.httparse.specs.Spans.{RequestOverflows, RequestExceeds}
use Rattle.httparse.specs.declared.Error.TheVariants.{TooManyHeaders}
use Rattle.std.proofs.Common.{sym}
use Rattle.api_http.specs.Heads.{line_feeds}
use Rattle.api_http.proofs.Lines.{none_overflows, full_exceeds}
use Rattle.api_http.proofs.head.head_of.Goals as goal

pub returns-in-Err-TooManyHeaders-clause-refused : goal.returns-in-Err-TooManyHeaders-clause-refused
returns-in-Err-TooManyHeaders-clause-refused c _ =
    let part = c.requires.part in
    let room = length c.args.headers.now in (
      subst HasNoRequest (sym part) (none_overflows c.args.bytes.now room c.requires.room
          (subst (RequestOverflows room) part c.in-Err-TooManyHeaders.ensures.no_room)),
      inl (ap line_feeds part ∙ full_exceeds c.args.bytes.now room c.requires.room
          (subst (RequestExceeds room) part (c.in-Err-TooManyHeaders.ensures.too_many (ap Err c.in-Err-TooManyHeaders.field-0-is)))),
    )

pub returns-in-Err-clause-refused : goal.returns-in-Err-clause-refused
returns-in-Err-clause-refused c _ =
    let part = c.requires.part in
    let room = length c.args.headers.now in
    let other : c.in-Err.field-0 ≢ TooManyHeaders = search rules in (
      subst HasNoRequest (sym part) (none_overflows c.args.bytes.now room c.requires.room (subst (RequestOverflows room) part c.in-Err.ensures.no_room)),
      inr (c.in-Err.ensures.invalid other),
    )

pub returns-in-Err-TooManyHeaders-clause-none : goal.returns-in-Err-TooManyHeaders-clause-none
returns-in-Err-TooManyHeaders-clause-none c =
    let part = c.requires.part in
    let room = length c.args.headers.now in
    subst HasNoRequest (sym part) (none_overflows c.args.bytes.now room c.requires.room
    (subst (RequestOverflows room) part c.in-Err-TooManyHeaders.ensures.no_room))

pub returns-in-Err-clause-none : goal.returns-in-Err-clause-none
returns-in-Err-clause-none c =
    let part = c.requires.part in
    let room = length c.args.headers.now in
    subst HasNoRequest (sym part) (none_overflows c.args.bytes.now room c.requires.room (subst (RequestOverflows room) part c.in-Err.ensures.no_room))
