use Rattle.std.proofs.Common.{◌∙◌, sym, ap}
use Rattle.std.specs.List.{list_all}
use Rattle.event_lines.specs.Logfmt.{is_plain}
use Rattle.event_lines.proofs.Texts.{value_plain, value_quoted}
use Rattle.event_lines.proofs.logfmt.stands.Goals as goal

pub returns-then-not-is_empty-clause-plain : goal.returns-then-not-is_empty-clause-plain
returns-then-not-is_empty-clause-plain c = λ h. value_plain c.args.value.now (sym c.is_empty.ensures ∙ c.if-not-is_empty.true)
    (sym (c.are_plain.ensures ∙ ap (list_all is_plain) c.as_bytes.ensures.value) ∙ h)

pub returns-then-not-is_empty-clause-quoted : goal.returns-then-not-is_empty-clause-quoted
returns-then-not-is_empty-clause-quoted c =
    λ h. value_quoted c.args.value.now (sym (c.are_plain.ensures ∙ ap (list_all is_plain) c.as_bytes.ensures.value) ∙ h)
