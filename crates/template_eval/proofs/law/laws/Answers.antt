use Rattle.template_eval.proofs.Quoted.{IsQuoted-text}
use Rattle.template_eval.proofs.ReadBack.{reads_back}
use Rattle.template_eval.proofs.law.laws.Goals as goal

pub returns-clause-reads_back : goal.returns-clause-reads_back
returns-clause-reads_back c = reads_back

pub returns-clause-quoted : goal.returns-clause-quoted
returns-clause-quoted c = IsQuoted-text
