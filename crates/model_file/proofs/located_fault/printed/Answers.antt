use Rattle.std.proofs.Common.{◌++◌, ap, ◌∙◌, arith}
use Rattle.model_file.proofs.PrintedPaths.{join_more}
use Rattle.model_file.proofs.located_fault.printed.Goals as goal

pub loop-name-preserved : goal.loop-name-preserved
unfolding lib.Utf8.encode
loop-name-preserved c =
    join_more 47 c.args.section.now _ _ c.args.path.now c.loop-name.name-index c.as_str.result.now c.name-item.result (omega arith) c.loop-name.invariant
    (c.as_str.ensures ∙ c.name-item.is) (c.in_ok-push_str.ensures.bytes ∙ ap (λ l. l ++ c.as_str.result.now) c.in_ok-push.ensures.bytes)
