use Rattle.std.proofs.Common.{rules}
use Rattle.toml.specs.Errors.{IsMemory}
use Rattle.template_reader.proofs.Fences.{toml-text, toml-none}
use Rattle.template_reader.proofs.front.document.Goals as goal

pub returns-in-Ok : goal.returns-in-Ok
returns-in-Ok c = toml-text c.args.bytes.now _ c.in-Ok.ensures.ok.0 c.in-Ok.ensures.ok.1

pub returns-else-is_memory : goal.returns-else-is_memory
returns-else-is_memory c =
    let other : ¬ IsMemory c.in-Err.error = search rules in
    toml-none c.args.bytes.now (c.in-Err.ensures.refused other)
