use Rattle.std.proofs.Common.{rules, sym, ◌∙◌}
use Rattle.serde_json.specs.Errors.{IsMemory}
use Rattle.json_trees.proofs.Bytes.{data_of-text, data_of-none}
use Rattle.json_trees.proofs.json_value.json_of.Goals as goal

pub returns-in-Ok : goal.returns-in-Ok
returns-in-Ok c = sym (data_of-text c.args.bytes.now c.in-Ok.ensures.ok.0 ∙ c.in-Ok.ensures.ok.1)

pub returns-in-Err-2 : goal.returns-in-Err-2
returns-in-Err-2 c =
    let other : ¬ IsMemory c.in-Err.e = search rules in
    sym (data_of-none c.args.bytes.now (c.in-Err.ensures.err other))
