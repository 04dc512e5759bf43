use Rattle.std.proofs.Common.{[], ◌∷◌, ◌++◌, sym, ap, ◌∙◌, arith}
use Rattle.json_trees.proofs.LongerKeys.{ends, one_more}
use Rattle.key_names.specs.Key.{is_key}
use Rattle.model_file.proofs.MetaChecks.{some_if}
use Rattle.model_file.proofs.LongerPaths.{ends_at_once}
use Rattle.model_file.proofs.key_path.key_of.Goals as goal

pub returns-in-None : goal.returns-in-None
returns-in-None c =
    ends (c.args.first.now ∷ []) c.args.names.now c.loop-name.key c.loop-name.name-index c.as_str.result.now c.name-item.result (omega arith)
    c.loop-name.invariant.0
    (c.as_str.ensures ∙ c.name-item.is) (sym c.in-None.is ∙ c.in_ok-more.ensures)

pub returns-in_default : goal.returns-in_default
returns-in_default c = ends_at_once c.args.first.now c.args.names.now (sym c.in_default.is ∙ c.in_ok-key.ensures)

pub loop-name-preserved : goal.loop-name-preserved
loop-name-preserved c =
    let more = c.loop-name.key ++ c.as_str.result.now ∷ [] in
    let kept = some_if (is_key more) c.in-Some-2.more more (sym c.in-Some-2.is ∙ c.in_ok-more.ensures) in
    let is =
    one_more (c.args.first.now ∷ []) c.args.names.now c.loop-name.key c.loop-name.name-index c.as_str.result.now c.name-item.result (omega arith)
    c.loop-name.invariant.0
    (c.as_str.ensures ∙ c.name-item.is) in
    (kept.1 ∙ is, ap is_key kept.1 ∙ kept.0)
