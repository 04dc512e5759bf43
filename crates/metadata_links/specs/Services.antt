-- The services of a content.
use Rattle.std.specs.Prelude.{ℕ, List, [], Option, Some, None, codes, unwrap_or, option_and_then}
use Rattle.std.specs.List.{filter_map}
use Rattle.std.specs.Option.{option_map}
use Rattle.settings_tree.specs.Content.{Contents}
use Rattle.metadata_links.specs.Fields.{fields_below}
use Rattle.metadata_links.specs.Texts.{texts_in}
use Rattle.metadata_links.specs.declared.fields.Fields.{Fields}
use Rattle.metadata_links.specs.declared.service.Service.{Service}

-- A service has one of its lists at least, and the other is empty where it is missing.
abbrev pub service_with : Option (List (List ℕ)) → Option (List (List ℕ)) → Option Service
service_with None None = None
service_with files commands = Some (record { files = unwrap_or files []; commands = unwrap_or commands [] })

-- The service that two fields make: its files and its restart commands.
abbrev pub service_of : Fields → Option Service
service_of f = service_with (option_and_then texts_in f.one) (option_and_then texts_in f.other)

-- The services that the fields of names make.
abbrev pub services_from : List (List ℕ × Fields) → List (List ℕ × Service)
services_from es = filter_map (λ e. option_map (λ s. (e.0, s)) (service_of e.1)) es

-- The services by name: the lists are at `services.NAME.configuration-files` and `services.NAME.restart-commands`.
abbrev pub services_in : Contents → List (List ℕ × Service)
services_in content = services_from (fields_below content.values (codes "services") (codes "configuration-files") (codes "restart-commands"))
