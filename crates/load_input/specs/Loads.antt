-- A load run.
use Rattle.std.specs.Prelude.{◌≡◌, ℕ, ◌+◌, List, [], length}
use Rattle.std.specs.FinMap.{keys}
use Rattle.settings_machine.specs.World.{Idle}
use Rattle.outside.specs.History.{History}
use Rattle.outside.specs.Spawner.{Run}
use Rattle.settings_tree.specs.Content.{settings_key}
use Rattle.settings_tree.specs.Walks.{entries_below}
use Rattle.api_core.specs.Cores.{core_state}
use Rattle.api_core.specs.declared.serving.Core.{Core}
use Rattle.load_input.specs.Requests.{requests_of}
use Rattle.load_input.specs.declared.counts.Counts.{Counts}
use Rattle.load_input.specs.Counts.{no_counts}
use Rattle.load_input.specs.Counted.{Counted}
use Rattle.load_input.specs.Lines.{lines_of}
use Rattle.load_input.specs.Starting.{HasImage, Starts}

-- How many live settings the core holds.
abbrev pub live_settings : Core → ℕ
live_settings c = length (entries_below (core_state c).held.live.values settings_key)

-- How many configuration files its image has.
abbrev pub files_in : Core → ℕ
files_in c = length (keys c.image.manifest.files)

-- From the first core to the last each of the requests for so many settings is made, with all turns after it; the text has what is counted of these
-- events, and how many settings are live at the end.
pub record Tells (count : ℕ) (first last : Core) (text : List ℕ) (old new : History) : Type 0 where
  pub counts : Counts
  pub runs : List Run
  pub counted : Counted (requests_of count) first last no_counts counts [] runs old new
  pub idle : (core_state last).job ≡ Idle
  pub requests : counts.ok + counts.refused ≡ length (requests_of count)
  pub lines : text ≡ lines_of counts (live_settings last) (files_in last)

-- A run for so many settings: from the image, over a store that is begun and opened, the lines that tell of all requests.
pub record Loads (count : ℕ) (text : List ℕ) : Type 0 where
  pub start : History
  pub opened : History
  pub finished : History
  pub first : Core
  pub last : Core
  pub image : HasImage count start
  pub starts : Starts first start opened
  pub tells : Tells count first last text opened finished
