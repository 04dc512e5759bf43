-- What a turn is to do, as the machine sees it.
use Rattle.std.specs.Prelude.{map, string_bytes}
use Rattle.event_lines.specs.Lines as lines
use Rattle.event_lines.specs.declared.due.Due.{Due}
use Rattle.event_lines.specs.declared.due.Due.TheVariants.{Nothing, Write, Run, End}

abbrev pub due_of : Due → lines.Due
due_of Nothing = lines.Nothing
due_of (Write file path) = lines.Write file path
due_of (Run service words) = lines.Run service (map (λ w. string_bytes w) words.items)
due_of End = lines.End
