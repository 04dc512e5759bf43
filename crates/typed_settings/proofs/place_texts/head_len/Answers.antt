use Rattle.std.proofs.Common.{◌≡◌, ◌≢◌, length, get_or, ap, sym, ◌∙◌, arith, rules}
use Rattle.std.proofs.lemmas.List.{get_or_past}
use Rattle.typed_settings.proofs.HeadLens.{closed_head, unclosed_head, other_head}
use Rattle.typed_settings.proofs.place_texts.head_len.Goals as goal
use Rattle.typed_settings.proofs.place_texts.head_len.Goals.{in_default-via-in-Some+else-first-eq34, in_default-via-in_default}

pub returns-then-len-inside : goal.returns-then-len-inside
returns-then-len-inside c =
    closed_head c.args.text.now c.in-Some.inside.now c.in-Some.first.now c.len_before-len.result c.in-Some.ensures.cases.0 c.if-first-eq34.true
    c.len_before-len.ensures.len c.if-len-inside.true

pub returns-else-len-inside : goal.returns-else-len-inside
returns-else-len-inside c =
    unclosed_head c.args.text.now c.in-Some.inside.now c.in-Some.first.now c.len_before-len.result c.in-Some.ensures.cases.0 c.if-first-eq34.true
    c.len_before-len.ensures.len c.if-len-inside.false

pub returns-in_default : goal.returns-in_default
returns-in_default c =
    let unquoted : get_or c.args.text.now 0 0 ≢ 34 = elim c.in_default.branch [
      | in_default-via-in-Some+else-first-eq34 w ↦ λ e. w.if-first-eq34.false (sym (ap (λ t. get_or t 0 0) w.in-Some.ensures.cases.0) ∙ e)
      | in_default-via-in_default w ↦ let none : length c.args.text.now ≡ 0 = search rules in let short : get_or c.args.text.now 0 0 ≡ 0 =
          get_or_past c.args.text.now 0 0 (omega arith) in λ e. let z : 0 ≡ 34 = sym short ∙ e in absurd (omega (arith, z))
    ] in
    other_head c.args.text.now c.len_before.result unquoted c.len_before.ensures.len c.len_before.ensures.within
