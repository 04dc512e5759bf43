use Rattle.std.proofs.Common.{arith, ap, ◌∙◌}
use Rattle.std.specs.Str.{bytes_eq}
use Rattle.fs_datastore.proofs.FormatFile.{one_name_of}
use Rattle.fs_datastore.proofs.found.is_format.Goals as goal

pub returns-in-len1 : goal.returns-in-len1
returns-in-len1 c = one_name_of c.args.names.now c.name-item.result c.as_slice.result.now c.eq.result (omega (arith, c.in-len1)) c.name-item.is
    c.as_slice.ensures.bytes (c.eq.ensures ∙ ap (bytes_eq c.as_slice.result.now) c.as_slice-in-len1.ensures)
