use Rattle.std.proofs.Common.{arith, ap, length}
use Rattle.std.proofs.lemmas.List.{length-drop}
use Rattle.std.proofs.lemmas.Result.{err_from_is_err_and}
use Rattle.template_reader.specs.Forest.{tree_in}
use Rattle.template_reader.proofs.Places.{fault_within}
use Rattle.template_reader.proofs.Sources.{parses_from, fault_front, fault_body}
use Rattle.template_reader.proofs.template.parsed.Goals as goal

pub returns-in-Ok-clause-ok : goal.returns-in-Ok-clause-ok
returns-in-Ok-clause-ok c = parses_from c.args.source.now c.tail.result.now c.in_ok-base.base (tree_in c.in-Ok.nodes) c.in_ok-base.ensures.ok c.tail.ensures
    c.in-Ok.ensures.ok

pub moved-requires : goal.moved-requires
moved-requires c =
    let in_body = fault_within c.tail.result.now c.in-Err.error (c.in-Err.ensures.err c.in_default.not-Memory) in
    omega (arith, in_body, c.in_ok-base.ensures.bound, ap length c.tail.ensures, length-drop c.in_ok-base.base c.args.source.now)

pub returns-in_default-clause-refused : goal.returns-in_default-clause-refused
returns-in_default-clause-refused c =
    λ k. fault_body c.args.source.now c.tail.result.now c.in_ok-base.base c.in-Err.error c.moved.result c.in_ok-base.ensures.ok c.tail.ensures
    (c.in-Err.ensures.err c.in_default.not-Memory) c.moved.ensures

pub returns-in_err-base-clause-refused : goal.returns-in_err-base-clause-refused
returns-in_err-base-clause-refused c =
    let p = err_from_is_err_and c.from_residual.result c.from_residual.ensures.1 in
    rw (p.1, p.2) (λ k. let q = c.in_err-base.ensures.err k in fault_front c.args.source.now c.in_err-base.field-0.0 q.0 q.1)
