-- The image of a load run: ten services with a file each, and settings that affect them in turn.
use Rattle.std.specs.Prelude.{ℕ, List, [], ◌∷◌, ◌++◌, ◌%◌, ◌==◌, if◌then◌else◌, map, codes, decimal}
use Rattle.std.specs.List.{flat_map}
use Rattle.load_input.specs.Numbers.{below}

-- A file of the image: its path and its bytes.
abbrev pub File : Type 0
File = List ℕ × List ℕ

-- The lines of the one type, which all settings have.
unfoldable pub type_lines : List ℕ
type_lines = codes "[types]\n\"settings.load.*\" = \"int 0 999999\"\n"

-- The lines of a service and of its file.
unfoldable pub service_lines : ℕ → List ℕ
service_lines j =
    codes "[services.s" ++ decimal j ++ codes "]\nconfiguration-files = [\"f" ++ decimal j
    ++ codes "\"]\nrestart-commands = [\"restart s" ++ decimal j
    ++ codes "\"]\n[configuration-files.f" ++ decimal j ++ codes "]\npath = \"/etc/load/f" ++ decimal j
    ++ codes "\"\ntemplate-path = \"f" ++ decimal j ++ codes "\"\n"

-- The lines of a setting, which affects one service.
unfoldable pub setting_lines : ℕ → List ℕ
setting_lines i =
    codes "[metadata.settings.load.k" ++ decimal i ++ codes "]\naffected-services = [\"s" ++ decimal (i % 10) ++ codes "\"]\n"

-- The model: the type, then the services, then the settings.
abbrev pub model_text : ℕ → List ℕ
model_text n = type_lines ++ flat_map service_lines (below 10) ++ flat_map setting_lines (below n)

-- The line of a setting in a template: its value, or 0 where it has none.
unfoldable pub value_line : ℕ → List ℕ
value_line i = codes "{{default 0 settings.load.k" ++ decimal i ++ codes "}}\n"

-- The line of a setting in the template of a service that it affects, and nothing in another.
unfoldable pub line_in : ℕ → ℕ → List ℕ
line_in j i = if i % 10 == j then value_line i else []

-- The template of a service: a line for each setting that affects it.
abbrev pub template_text : ℕ → ℕ → List ℕ
template_text n j = flat_map (line_in j) (below n)

-- The template of a service, where it lies.
unfoldable pub template_file : ℕ → ℕ → File
template_file n j = (codes "image/templates/f" ++ decimal j, template_text n j)

-- The model file, where it lies.
unfoldable pub model_file : ℕ → File
model_file n = (codes "image/model.toml", model_text n)

-- The files of the image for n settings: the model, then the ten templates.
abbrev pub image_files : ℕ → List File
image_files n = model_file n ∷ map (template_file n) (below 10)
