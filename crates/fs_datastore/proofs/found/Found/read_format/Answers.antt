use Rattle.std.proofs.Common.{◌∙◌, ap}
use Rattle.std.specs.Str.{bytes_eq}
use Rattle.fs_datastore.proofs.FormatFile.{format_answer}
use Rattle.fs_datastore.proofs.found.Found.read_format.Goals as goal

pub returns-then-fits : goal.returns-then-fits
returns-then-fits c = format_answer c.args.self.now c.args.bytes.now c.eq-fits.result (c.eq-fits.ensures ∙ ap (bytes_eq c.args.bytes.now) c.as_slice.ensures)
    c.if-fits.true
