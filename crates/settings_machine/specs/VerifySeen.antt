-- How the machine sees the state of a file that a program has.
use Rattle.std.specs.Prelude.{◌≡◌, ℕ, Bool, List, Option, map}
use Rattle.std.specs.BTreeSet as tree
use Rattle.std.specs.FinMap.{keys}
use Rattle.key_names.specs.Order.{bytes_cmp}
use Rattle.metadata_links.specs.Faults.{has_name}
use Rattle.metadata_links.specs.Links.{files_of}
use Rattle.metadata_links.specs.declared.manifest.Manifest.{Manifest}
use Rattle.settings_tree.specs.Content.{Contents}
use Rattle.settings_tree.specs.declared.entry.Owed.{Owed}
use Rattle.settings_tree.specs.declared.os.OsName.{OsName}
use Rattle.template_reader.specs.declared.templates.Templates.{Templates}
use Rattle.settings_machine.specs.declared.states.FileState.{FileState}
use Rattle.settings_machine.specs.World.{Image, rendered}
use Rattle.settings_machine.specs.Seen.{HoldsTemplates}
use Rattle.settings_machine.specs.Verified.{state_in}

-- Of each image with these templates and names this is the state of the file, by what is there and by whether it is due.
pub record IsStateSeen (templates : Templates) (os : List OsName) (live : Contents) (file : List ℕ) (found : Option (List ℕ)) (is_due : Bool)
    (state : FileState) : Type 0 where
  pub is : (I : Image) → HoldsTemplates I templates → os ≡ I.os → state_in (rendered I file live) found is_due ≡ state

-- The files of the manifest by name, each with whether what is owed makes it due.
abbrev pub marked_files : Manifest → Owed → List (List ℕ × Bool)
marked_files manifest owed = map (λ file. (file, has_name (files_of manifest owed) file)) (keys manifest.files)

-- ---- for private clauses

-- The set has these names alone.
abbrev pub HasNames : List (List ℕ) → tree.BTreeSet (List ℕ) → Type 0
HasNames names set = (name : List ℕ) → tree.contains bytes_cmp set name ≡ has_name names name
