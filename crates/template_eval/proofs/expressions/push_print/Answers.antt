use Rattle.std.proofs.Common.{◌≡◌, ◌≢◌, subst, sym, OnOk, IfErr, Err}
use Rattle.template_reader.specs.declared.expr.Expr.{Expr}
use Rattle.template_eval.specs.declared.render_error.RenderError.TheVariants.{Memory}
use Rattle.template_eval.specs.Steps.{Adds}
use Rattle.template_eval.specs.Views.{node_of, printing}
use Rattle.template_eval.proofs.expressions.push_print.Goals as goal

pub returns-in-JoinMap-clause-ok : goal.returns-in-JoinMap-clause-ok
returns-in-JoinMap-clause-ok c =
    let P : Expr → Type 0 = λ e. OnOk c.push_map.result (Adds (printing c.args.inputs.now e (node_of c.args.inputs.now.content.now c.args.node))
    c.args.out.now.items c.push_map.new.out.items) in
    subst P (sym c.in-JoinMap.is) c.push_map.ensures.ok

pub returns-in-JoinMap-clause-err : goal.returns-in-JoinMap-clause-err
returns-in-JoinMap-clause-err c =
    let P : Expr → Type 0 = λ e. IfErr c.push_map.result (λ r. r ≢ Memory → printing c.args.inputs.now e (node_of c.args.inputs.now.content.now c.args.node)
    ≡ Err r) in
    subst P (sym c.in-JoinMap.is) c.push_map.ensures.err
