use Rattle.std.proofs.Common.{◌<◌, ◌∷◌, ◌∙◌, sym, ap, true≢false, arith}
use Rattle.key_names.proofs.Heads.{unclosed, bad_inside, nothing_inside, bad_behind, quoted_head}
use Rattle.key_names.proofs.Runs.{IsRun-from}
use Rattle.key_names.proofs.head.quoted_head.Goals as goal

pub returns-in_default-clause-refused : goal.returns-in_default-clause-refused
returns-in_default-clause-refused c =
    unclosed c.args.inside.now c.quotable_len-len.result (IsRun-from c.quotable_len-len.ensures.value)
    (rw c.split_at.ensures.back at c.in_default.ensures.cases)

pub returns-then-closing-ne34-clause-refused : goal.returns-then-closing-ne34-clause-refused
returns-then-closing-ne34-clause-refused c =
    bad_inside c.args.inside.now c.quotable_len-len.result (IsRun-from c.quotable_len-len.ensures.value)
    c.in-Some.closing.now c.in-Some.behind.now (sym c.split_at.ensures.back ∙ c.in-Some.ensures.cases.0) c.if-closing-ne34.true

pub returns-then-len-eq0-clause-refused : goal.returns-then-len-eq0-clause-refused
returns-then-len-eq0-clause-refused c =
    nothing_inside c.args.inside.now c.quotable_len-len.result (IsRun-from c.quotable_len-len.ensures.value)
    c.in-Some.behind.now c.if-len-eq0.true (sym c.split_at.ensures.back ∙ c.in-Some.ensures.cases.0
    ∙ ap (λ b. b ∷ c.in-Some.behind.now) c.if-closing-ne34.false)

pub returns-then-not-ends-clause-refused : goal.returns-then-not-ends-clause-refused
returns-then-not-ends-clause-refused c =
    let some : 0 < c.quotable_len-len.result = omega arith in
    bad_behind c.args.inside.now c.quotable_len-len.result (IsRun-from c.quotable_len-len.ensures.value)
    c.in-Some.behind.now some (sym c.split_at.ensures.back ∙ c.in-Some.ensures.cases.0 ∙ ap (λ b. b ∷ c.in-Some.behind.now) c.if-closing-ne34.false)
    (λ e. true≢false (sym (c.ends.ensures.1 e) ∙ c.if-not-ends.true))

pub returns-clause-ok : goal.returns-clause-ok
returns-clause-ok c =
    let some : 0 < c.quotable_len-len.result = omega arith in
    rw c.split_at.ensures.front
    (quoted_head c.args.inside.now c.quotable_len-len.result (IsRun-from c.quotable_len-len.ensures.value)
    c.in-Some.behind.now some (sym c.split_at.ensures.back ∙ c.in-Some.ensures.cases.0 ∙ ap (λ b. b ∷ c.in-Some.behind.now) c.if-closing-ne34.false)
    (c.ends.ensures.0 c.if-not-ends.false))
