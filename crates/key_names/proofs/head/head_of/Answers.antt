use Rattle.std.proofs.Common.{inl}
use Rattle.key_names.proofs.Segments.{empty_list}
use Rattle.key_names.proofs.Heads.{empty_here}
use Rattle.key_names.proofs.head.head_of.Goals as goal

pub returns-in_default-clause-refused : goal.returns-in_default-clause-refused
returns-in_default-clause-refused c = empty_here c.args.text.now (inl (empty_list c.args.text.now c.in_default.ensures.cases))
