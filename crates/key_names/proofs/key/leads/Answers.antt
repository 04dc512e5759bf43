use Rattle.std.proofs.Common.{◌∙◌, sym, arith}
use Rattle.key_names.proofs.PackedPrefixes.{leads-on, leads-off}
use Rattle.key_names.proofs.key.leads.Goals as goal

pub returns-in-Some : goal.returns-in-Some
returns-in-Some c =
    let cases = c.in-Some.ensures.cases in
    c.ends.ensures ∙ sym (leads-on c.args.text.now c.args.other.now c.in-Some.rest.now cases.0 cases.1 (omega (arith, cases.2)))

pub returns-in-None : goal.returns-in-None
returns-in-None c = sym (leads-off c.args.text.now c.args.other.now c.in-None.ensures.cases)
