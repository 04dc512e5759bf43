-- What is printed of a refusal, and its status.
use Rattle.std.specs.Prelude.{ℕ, List, [], ◌∷◌, ◌++◌, codes, decimal}
use Rattle.outside.specs.PathText.{joined}
use Rattle.key_names.specs.Key.{printed}
use Rattle.version_links.specs.Versions.{version_text}
use Rattle.settings_machine.specs.Requests.{refusal_status}
use Rattle.machine_answers.specs.Bodies.{refusal_text}
use Rattle.machine_answers.specs.RenderWords.{render_word, render_path}
use Rattle.command_outcome.specs.declared.refusal.Refusal.{Refusal}
use Rattle.command_outcome.specs.declared.refusal.Refusal.TheVariants.{Memory, Usage, Disk, Door, Spawn, NoStore}
use Rattle.command_outcome.specs.declared.refusal.Refusal.TheVariants.{Damaged, BadLink, BadJournal, BadImage, IllTyped, HoldsIllTyped, NotCovered}
use Rattle.command_outcome.specs.declared.refusal.Refusal.TheVariants.{Render, WouldNotRender, Status, Missing, Conflict, Refused, AlreadyThere}
use Rattle.command_outcome.specs.declared.refusal.Refusal.TheVariants.{OldFormat, GeneratorStatus, GeneratorOutput, UserData, Dump}
use Rattle.command_outcome.specs.declared.refusal.Refusal.TheVariants.{MigrationStatus, MigrationOutput, NotCurrent}

-- The status of a refused command.
abbrev pub status_of : Refusal → ℕ
status_of Memory = 1
status_of Usage = 2
status_of Disk = 3
status_of Door = 4
status_of (Spawn name) = 5
status_of NoStore = 6
status_of (Damaged path) = 7
status_of (BadLink path) = 7
status_of (BadJournal path) = 7
status_of (BadImage file kind at) = 8
status_of (IllTyped key) = 8
status_of (HoldsIllTyped lines) = 8
status_of (NotCovered lines) = 9
status_of (Render file error) = 10
status_of (WouldNotRender lines) = 10
status_of (Status service number) = 10
status_of (Missing at target) = 11
status_of (Conflict key) = 11
status_of (Refused refusal) = 13
status_of (AlreadyThere version) = 14
status_of (OldFormat directory) = 15
status_of (GeneratorStatus key number) = 16
status_of (GeneratorOutput key) = 16
status_of (UserData kind at) = 17
status_of (Dump kind at) = 17
status_of (MigrationStatus name number) = 18
status_of (MigrationOutput name) = 18
status_of (NotCurrent lines) = 19

-- A space and a text.
abbrev pub spaced : List ℕ → List ℕ
spaced text = 32 ∷ text

-- What is said of a refusal after the program's name.
abbrev pub told : Refusal → List ℕ
told Memory = codes "memory"
told Usage = codes "usage"
told Disk = codes "disk"
told Door = codes "door"
told (Spawn name) = codes "spawn" ++ spaced name
told NoStore = codes "no store"
told (Damaged path) = codes "damaged" ++ spaced (joined path)
told (BadLink path) = codes "bad link" ++ spaced (joined path)
told (BadJournal path) = codes "bad journal" ++ spaced (joined path)
told (BadImage file kind at) = codes "bad image" ++ spaced file ++ spaced kind ++ spaced at
told (IllTyped key) = codes "ill typed" ++ spaced (printed key)
told (HoldsIllTyped lines) = []
told (NotCovered lines) = []
told (Render file error) = codes "render" ++ spaced file ++ spaced (render_word error) ++ spaced (render_path error)
told (WouldNotRender lines) = []
told (Status service number) = codes "status" ++ spaced service ++ spaced (decimal number)
told (Missing at target) = codes "missing" ++ spaced (version_text at) ++ spaced (version_text target)
told (Conflict key) = codes "conflict" ++ spaced (printed key)
told (Refused refusal) = codes "refused" ++ spaced (decimal (refusal_status refusal)) ++ spaced (refusal_text refusal)
told (AlreadyThere version) = codes "already there" ++ spaced (version_text version)
told (OldFormat directory) = codes "old format" ++ spaced (joined directory)
told (GeneratorStatus key number) = codes "generator" ++ spaced (printed key) ++ codes " status " ++ decimal number
told (GeneratorOutput key) = codes "generator" ++ spaced (printed key) ++ codes " output"
told (UserData kind at) = codes "user data" ++ spaced kind ++ spaced at
told (Dump kind at) = codes "dump" ++ spaced kind ++ spaced at
told (MigrationStatus name number) = codes "migration" ++ spaced name ++ codes " status " ++ decimal number
told (MigrationOutput name) = codes "migration" ++ spaced name ++ codes " output"
told (NotCurrent lines) = []

-- What is printed of a refusal.
abbrev pub line_of : Refusal → List ℕ
line_of (HoldsIllTyped lines) = lines
line_of (NotCovered lines) = lines
line_of (WouldNotRender lines) = lines
line_of (NotCurrent lines) = lines
line_of refusal = codes "settings: " ++ told refusal ++ codes "\n"
