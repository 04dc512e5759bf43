-- What a manifest links: keys, services, files and commands.
use Rattle.std.specs.Prelude.{ℕ, List, [], ◌++◌, unwrap_or}
use Rattle.std.specs.List.{flat_map}
use Rattle.std.specs.FinMap.{get, keys, entries}
use Rattle.settings_tree.specs.declared.entry.Owed.{Owed}
use Rattle.settings_tree.specs.declared.entry.Owed.TheVariants.{All, Keys}
use Rattle.metadata_links.specs.Commands.{commands_from, listing}
use Rattle.metadata_links.specs.Firsts.{firsts}
use Rattle.metadata_links.specs.Nearest.{aff}
use Rattle.metadata_links.specs.declared.manifest.Manifest.{Manifest}
use Rattle.metadata_links.specs.declared.service.Service.{Service}

-- The services that owed keys affect, rising.
abbrev pub affected : Manifest → Owed → List (List ℕ)
affected m All = keys m.services
affected m (Keys owed) = aff m.index owed

-- A service that has nothing, for a name that has no service.
abbrev pub no_service : Service
no_service = record { files = []; commands = [] }

-- The service of a name.
abbrev pub service_named : Manifest → List ℕ → Service
service_named m name = unwrap_or (get m.services name) no_service

-- The files that the services list, one service after another.
abbrev pub listed : Manifest → List (List ℕ) → List (List ℕ)
listed m names = flat_map (λ name. (service_named m name).files) names

-- Where all is owed, all files.
abbrev pub all_files : Manifest → Owed → List (List ℕ)
all_files m All = keys m.files
all_files m (Keys owed) = []

-- The files of the affected services as listed, then, where all is owed, those that no service lists; each once.
abbrev pub files_of : Manifest → Owed → List (List ℕ)
files_of m owed = firsts (listed m (affected m owed) ++ all_files m owed)

-- The commands of a service.
abbrev pub commands_in : List ℕ → Service → List (List ℕ × (ℕ × List (List ℕ)))
commands_in name service = commands_from name 0 service.commands

-- The commands of the affected services, one service after another.
abbrev pub commands_of : Manifest → Owed → List (List ℕ × (ℕ × List (List ℕ)))
commands_of m owed = flat_map (λ name. commands_in name (service_named m name)) (affected m owed)

-- The services that list a file, rising.
abbrev pub services_of : Manifest → List ℕ → List (List ℕ)
services_of m file = listing file (entries m.services)
