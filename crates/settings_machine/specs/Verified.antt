-- What is the case with each configuration file.
use Rattle.std.specs.Prelude.{ℕ, Bool, true, false, List, Option, Some, None, Ok, Err, map, if◌then◌else◌}
use Rattle.std.specs.FinMap.{get, keys}
use Rattle.std.specs.Str.{bytes_eq}
use Rattle.settings_tree.specs.declared.held.Held.{Held}
use Rattle.metadata_links.specs.Faults.{has_name}
use Rattle.metadata_links.specs.Links.{files_of}
use Rattle.template_eval.specs.Rendered.{Rendered}
use Rattle.settings_machine.specs.declared.states.FileState.{FileState}
use Rattle.settings_machine.specs.declared.states.FileState.TheVariants.{Current, Owed, Refused, Differs, Absent}
use Rattle.settings_machine.specs.declared.states.VerifiedFile.{VerifiedFile}
use Rattle.settings_machine.specs.World.{Image, World, path_of, rendered, due}

-- Whether the file is one of those that are due.
abbrev pub is_due : Image → Held → List ℕ → Bool
is_due I held file = has_name (files_of I.manifest (due I held)) file

-- The state of a file that isn't what its template renders to: it is due, or else someone else wrote it or took it away.
abbrev pub stale_state : Bool → Option (List ℕ) → FileState
stale_state true found = Owed
stale_state false (Some bytes) = Differs
stale_state false None = Absent

-- Whether these bytes are there.
abbrev pub has_bytes : Option (List ℕ) → List ℕ → Bool
has_bytes None bytes = false
has_bytes (Some there) bytes = bytes_eq there bytes

-- The state of a file that renders so, by what is there, and by whether it is due.
abbrev pub state_in : Rendered → Option (List ℕ) → Bool → FileState
state_in (Ok bytes) found is_due = if has_bytes found bytes then Current else stale_state is_due found
state_in (Err error) found is_due = Refused error

-- The state of a file.
abbrev pub file_state : Image → World → List ℕ → FileState
file_state I W file = state_in (rendered I file W.held.live) (get W.etc (path_of I file)) (is_due I W.held file)

-- Whether a file of this state is what its template renders to, or due.
abbrev pub is_kept : FileState → Bool
is_kept Current = true
is_kept Owed = true
is_kept _ = false

-- The file with its path and its state.
abbrev pub verified_file : Image → World → List ℕ → VerifiedFile
verified_file I W file = record { name = file; path = path_of I file; state = file_state I W file }

-- The files of the manifest, by name.
abbrev pub verified : Image → World → List VerifiedFile
verified I W = map (verified_file I W) (keys I.manifest.files)
