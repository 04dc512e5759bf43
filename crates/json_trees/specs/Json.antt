-- JSON in bytes, as `serde_json` reads it.
use Rattle.std.specs.Prelude.{ℕ, List, Option, None, if◌then◌else◌}
use Rattle.std.specs.Str.{is_utf8}
use Rattle.serde_json.specs.Data.{Data}
use Rattle.serde_json.specs.Read.{read}

-- The JSON value that the bytes are, which have to be UTF-8.
abbrev pub data_of : List ℕ → Option Data
data_of bytes = if is_utf8 bytes then read bytes else None
