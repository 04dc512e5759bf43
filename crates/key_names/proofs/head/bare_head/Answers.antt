use Rattle.std.proofs.Common.{◌≡◌, ◌<◌, ◌∙◌, sym, ap, true≢false, drop, arith}
use Rattle.key_names.specs.Joined.{Ends}
use Rattle.key_names.proofs.Heads.{empty_here, bare_head, bare_bad}
use Rattle.key_names.proofs.Runs.{IsRun-from}
use Rattle.key_names.proofs.head.bare_head.Goals as goal

pub returns-then-not-ends-clause-refused : goal.returns-then-not-ends-clause-refused
returns-then-not-ends-clause-refused c =
    bare_bad c.args.text.now c.bare_len-len.result c.requires (IsRun-from c.bare_len-len.ensures.value)
    (rw c.split_at.ensures.back at (λ (e : Ends 46 c.split_at.result.1.now). true≢false (sym (c.ends.ensures.1 e) ∙ c.if-not-ends.true)))

pub returns-then-len-eq0-clause-refused : goal.returns-then-len-eq0-clause-refused
returns-then-len-eq0-clause-refused c =
    let whole : c.split_at.result.1.now ≡ c.args.text.now = c.split_at.ensures.back ∙ ap (λ n. drop n c.args.text.now) c.if-len-eq0.true in
    empty_here c.args.text.now (rw whole at (c.ends.ensures.0 c.if-not-ends.false))

pub returns-clause-ok : goal.returns-clause-ok
returns-clause-ok c =
    let some : 0 < c.bare_len-len.result = omega arith in
    rw c.split_at.ensures.front
    (bare_head c.args.text.now c.bare_len-len.result (IsRun-from c.bare_len-len.ensures.value) some
    (rw c.split_at.ensures.back at (c.ends.ensures.0 c.if-not-ends.false)))
