use Rattle.setting_generators.proofs.AskedParts.{too_long, output_read, output_refused}
use Rattle.setting_generators.proofs.output.output_value.Goals as goal

pub returns-then-output-gt-MOST_OUTPUT-clause-refused : goal.returns-then-output-gt-MOST_OUTPUT-clause-refused
returns-then-output-gt-MOST_OUTPUT-clause-refused c some = too_long c.args.key.now c.args.output.now c.bad_output.result c.if-output-gt-MOST_OUTPUT.true
    c.bad_output.ensures some

pub returns-in-Ok-clause-ok : goal.returns-in-Ok-clause-ok
returns-in-Ok-clause-ok c = output_read c.args.key.now c.args.output.now c.in-Ok.value c.if-output-gt-MOST_OUTPUT.false c.in-Ok.ensures.ok

pub returns-in-Err-clause-refused : goal.returns-in-Err-clause-refused
returns-in-Err-clause-refused c some = output_refused c.args.key.now c.args.output.now c.in-Err.error c.refusal_of.result c.if-output-gt-MOST_OUTPUT.false
    c.in-Err.ensures.err c.refusal_of.ensures some
