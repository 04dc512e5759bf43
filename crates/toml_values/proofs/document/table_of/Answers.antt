use Rattle.std.proofs.Common.{rules}
use Rattle.toml.specs.Errors.{IsMemory}
use Rattle.toml_values.proofs.Documents.{is_document, no_document}
use Rattle.toml_values.proofs.document.table_of.Goals as goal

pub returns-in-Ok : goal.returns-in-Ok
returns-in-Ok c = is_document c.args.text.now _ c.in-Ok.ensures.ok.0 c.in-Ok.ensures.ok.1

pub returns-else-is_memory : goal.returns-else-is_memory
returns-else-is_memory c =
    let other : ¬ IsMemory c.in-Err.error = search rules in
    no_document c.args.text.now (c.in-Err.ensures.refused other)
