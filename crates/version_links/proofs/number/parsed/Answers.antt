use Rattle.version_links.proofs.Digits.{parsed_number, no_text}
use Rattle.version_links.proofs.number.parsed.Goals as goal

pub returns-in-Ok : goal.returns-in-Ok
returns-in-Ok c = parsed_number c.args.digits.now c.in-Ok.text.now c.parse.result _ c.ok.ensures.value c.parse.ensures.value.0 c.in-Ok.ensures.cases.0

pub returns-in-Err : goal.returns-in-Err
returns-in-Err c = no_text c.args.digits.now _ c.in-Err.ensures.cases.0
