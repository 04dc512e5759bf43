-- Commands as they are answered, and services that list a file.
use Rattle.std.specs.Prelude.{ℕ, List, map, filter, string_bytes}
use Rattle.std.specs.List.{enumerate_from}
use Rattle.metadata_links.specs.Faults.{has_name}
use Rattle.metadata_links.specs.Words.{words_in}
use Rattle.metadata_links.specs.declared.command.Command.{Command}
use Rattle.metadata_links.specs.declared.service.Service.{Service}

-- The service, the place and the words of a command.
abbrev pub seen : Command → List ℕ × (ℕ × List (List ℕ))
seen c = (c.service, (c.index, map (λ w. string_bytes w) c.words.items))

-- These commands of a service, split into words, their places counted from the given one.
abbrev pub commands_from : List ℕ → ℕ → List (List ℕ) → List (List ℕ × (ℕ × List (List ℕ)))
commands_from name place commands = map (λ e. (name, (e.0, words_in e.1))) (enumerate_from place commands)

-- The names of the services that list a file.
abbrev pub listing : List ℕ → List (List ℕ × Service) → List (List ℕ)
listing file services = map (λ e. e.0) (filter (λ e. has_name e.1.files file) services)
