-- For private clauses: the states of configuration files of a world in memory.
use Rattle.std.specs.Prelude.{◌≡◌, ℕ, Bool, List, if◌then◌else◌}
use Rattle.std.specs.FinMap.{get}
use Rattle.std.specs.Str.{bytes_eq}
use Rattle.settings_tree.specs.declared.entry.Owed.{Owed}
use Rattle.settings_tree.specs.declared.entry.Owed.TheVariants.{All}
use Rattle.settings_tree.specs.declared.held.Held.{Held}
use Rattle.settings_machine.specs.World.{Image, World, path_of, rendered}
use Rattle.settings_machine.specs.Verified.{state_in}
use Rattle.settings_machine.specs.declared.states.VerifiedFile.{VerifiedFile}
use Rattle.plain_machine.specs.Steps.{HoldsImage}
use Rattle.plain_machine.specs.Worlds.{world_of}
use Rattle.plain_machine.specs.declared.image.PlainImage.{PlainImage}
use Rattle.plain_machine.specs.declared.machine.PlainMachine.{PlainMachine}

-- What is due by an image with this text.
abbrev pub due_by : List ℕ → Held → Owed
due_by text held = if bytes_eq held.image text then held.owed else All

-- The file with its path and its state, by whether it is due.
abbrev pub verified_by : Image → World → List ℕ × Bool → VerifiedFile
verified_by I W marked = record {
  name = marked.0;
  path = path_of I marked.0;
  state = state_in (rendered I marked.0 W.held.live) (get W.etc (path_of I marked.0)) marked.1;
}

-- By each image that has these parts it is that.
pub record IsVerifiedBy (image : PlainImage) (m : PlainMachine) (marked : List ℕ × Bool) (file : VerifiedFile) : Type 0 where
  pub is : (I : Image) → HoldsImage I image → verified_by I (world_of m) marked ≡ file
