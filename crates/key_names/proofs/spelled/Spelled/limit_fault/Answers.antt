use Rattle.key_names.proofs.Spellings.{Spells_some}
use Rattle.key_names.proofs.Broken.{LimitAt-within, surplus_refused, overlong_refused, wide_refused}
use Rattle.key_names.proofs.spelled.Spelled.limit_fault.Goals as goal

pub returns-in-Some-clause-limit : goal.returns-in-Some-clause-limit
returns-in-Some-clause-limit c = surplus_refused c.args.text.now c.args.self.now.segments c.requires.spelled c.in-Some.place
    (rw c.in-Some.is at c.requires.marked.many)

pub returns-in-Some-overlong-clause-limit : goal.returns-in-Some-overlong-clause-limit
returns-in-Some-overlong-clause-limit c =
    overlong_refused c.args.text.now c.args.self.now.segments c.requires.spelled c.in-Some-overlong.place
    (rw c.in_default.is at c.requires.marked.many) (rw c.in-Some-overlong.is at c.requires.marked.long)

pub printed_len-requires-clause-some : goal.printed_len-requires-clause-some
printed_len-requires-clause-some c = rw c.as_str.ensures.text (Spells_some c.args.self.now.segments c.args.text.now c.requires.spelled)

pub returns-then-printed_len-gt-MAX_PRINTED-clause-limit : goal.returns-then-printed_len-gt-MAX_PRINTED-clause-limit
returns-then-printed_len-gt-MAX_PRINTED-clause-limit c =
    wide_refused c.args.text.now c.args.self.now.segments c.requires.spelled
    (rw c.in_default.is at c.requires.marked.many) (rw c.in_default-overlong.is at c.requires.marked.long)
    (rw (c.printed_len.ensures, c.as_str.ensures.text) at c.if-printed_len-gt-MAX_PRINTED.true)

pub returns-in-Some-clause-place : goal.returns-in-Some-clause-place
returns-in-Some-clause-place c = LimitAt-within (rw c.in-Some.is at c.requires.marked.many)

pub returns-in-Some-overlong-clause-place : goal.returns-in-Some-overlong-clause-place
returns-in-Some-overlong-clause-place c = LimitAt-within (rw c.in-Some-overlong.is at c.requires.marked.long)
