-- The world of the machine: what an image fixes, what a store holds, the job, the configuration files and the programs that were run.
use Rattle.std.specs.Prelude.{◌≡◌, ◌⊎◌, ℕ, Bool, true, false, List, [], ◌∷◌, Option, Some, None, unwrap_or, codes, if◌then◌else◌}
use Rattle.std.specs.FinMap.{FinMap, get}
use Rattle.std.specs.Str.{bytes_eq}
use Rattle.key_names.specs.Order.{bytes_cmp}
use Rattle.outside.specs.Names.{Names, path_cmp, is_below}
use Rattle.outside.specs.Spawner.{Run}
use Rattle.settings_tree.specs.Content.{Contents}
use Rattle.settings_tree.specs.declared.os.OsName.{OsName}
use Rattle.settings_tree.specs.declared.entry.Owed.{Owed}
use Rattle.settings_tree.specs.declared.entry.Owed.TheVariants.{All, Keys}
use Rattle.settings_tree.specs.declared.held.Held.{Held}
use Rattle.typed_settings.specs.declared.row.Row.{Row}
use Rattle.template_reader.specs.Tree.{Tree, done}
use Rattle.template_eval.specs.Rendered.{Rendered}
use Rattle.template_eval.specs.Render.{render}
use Rattle.metadata_links.specs.declared.manifest.Manifest.{Manifest}
use Rattle.metadata_links.specs.declared.file_row.FileRow.{FileRow}
use Rattle.version_links.specs.declared.version.Version.{Version}
use Rattle.settings_machine.specs.declared.cause.Cause.{Cause}

-- A key is a list of segments.
abbrev pub Key : Type 0
Key = List (List ℕ)

-- A list has this element.
abbrev pub Among : {X : Type 0} → List X → X → Type 0
Among [] x = ⊥
Among (y ∷ ys) x = (x ≡ y) ⊎ Among ys x

-- ---- the image

-- A template: its source, and the tree that it is.
pub record Source : Type 0 where
  pub text : List ℕ
  pub tree : Tree

-- What an image fixes: its types, the names of the operating system, its defaults, its manifest, the template of each file, and its text.
pub record Image : Type 0 where
  pub types : List Row
  pub os : List OsName
  pub defaults : Contents
  pub manifest : Manifest
  pub templates : FinMap bytes_cmp Source
  pub text : List ℕ

-- A template that has nothing, for a file that has none.
abbrev pub no_source : Source
no_source = record { text = []; tree = done }

-- The template of a file.
abbrev pub source_of : Image → List ℕ → Source
source_of I f = unwrap_or (get I.templates f) no_source

-- The path of a row, and no name for a file that has no row.
abbrev pub path_in : Option FileRow → Names
path_in None = []
path_in (Some row) = row.path

-- Where a file is written.
abbrev pub path_of : Image → List ℕ → Names
path_of I f = path_in (get I.manifest.files f)

-- The folder of the configuration files.
abbrev pub is_etc : Names → Bool
is_etc path = is_below (codes "etc" ∷ []) path

-- What a file is, rendered from scratch: the bytes, or the first refusal.
unfoldable pub rendered : Image → List ℕ → Contents → Rendered
rendered I f live = render live I.os (source_of I f).text (source_of I f).tree None

-- ---- what is owed and what is due

-- Nothing is owed.
abbrev pub owes_none : Owed → Bool
owes_none All = false
owes_none (Keys []) = true
owes_none (Keys (k ∷ ks)) = false

-- What is due: all where the stored image text isn't that of the image, else what is owed.
abbrev pub due : Image → Held → Owed
due I held = if bytes_eq held.image I.text then held.owed else All

-- Of what is held, what is owed alone may change.
abbrev pub KeepsAllButOwed : Held → Held → Type 0
KeepsAllButOwed old new = new ≡ record old { owed = new.owed }

-- ---- the job

-- A running job: the files and the commands that are still to do, the keys whose values were changed since it began, and whether it was asked for again.
pub record Work : Type 0 where
  pub files : List (List ℕ)
  pub commands : List (List ℕ × (ℕ × List (List ℕ)))
  pub since : List Key
  pub again : Bool

-- The job is idle, failed, or running.
pub data Job : Type 0 where
  Idle : Job
  Failed : Cause → Job
  Running : Work → Job

-- Whether the job is running.
abbrev pub is_running : Job → Bool
is_running Idle = false
is_running (Failed cause) = false
is_running (Running work) = true

-- ---- the world

-- Files below the folder `etc`, by their paths.
abbrev pub Files : Type 0
Files = FinMap path_cmp (List ℕ)

-- The version and the format of the store, what it holds, the job, the configuration files, and the programs that were run.
pub record World : Type 0 where
  pub version : Version
  pub format : ℕ
  pub held : Held
  pub job : Job
  pub etc : Files
  pub runs : List Run
