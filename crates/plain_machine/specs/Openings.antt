-- What an opening makes of the world, in the machine's words.
use Rattle.std.specs.Prelude.{◌≡◌, Bool, true}
use Rattle.settings_machine.specs.World.{Image}
use Rattle.settings_machine.specs.Step.{opened}
use Rattle.settings_machine.specs.Events as machine
use Rattle.settings_machine.specs.Events.{next}
use Rattle.plain_machine.specs.Steps.{HoldsImage}
use Rattle.plain_machine.specs.Worlds.{world_of}
use Rattle.plain_machine.specs.declared.image.PlainImage.{PlainImage}
use Rattle.plain_machine.specs.declared.machine.PlainMachine.{PlainMachine}
use Rattle.plain_machine.specs.declared.opening_answer.OpeningAnswer.{OpeningAnswer}
use Rattle.plain_machine.specs.declared.opening_answer.OpeningAnswer.TheVariants as answer

-- What the outside lets an opening come to.
abbrev pub opening_of : OpeningAnswer → machine.Opening
opening_of answer.Succeeded = machine.Succeeded
opening_of (answer.Failing taken) = machine.Failing taken

-- Whether the opening step is taken.
abbrev pub is_taken : OpeningAnswer → Bool
is_taken answer.Succeeded = true
is_taken (answer.Failing taken) = taken

-- The opening step was taken.
abbrev pub IsStepped : PlainImage → PlainMachine → Bool → PlainMachine → Type 0
IsStepped image old boot new = (I : Image) → HoldsImage I image → world_of new ≡ opened I (world_of old) boot

-- The store was opened, at a boot or later.
abbrev pub IsOpened : PlainImage → PlainMachine → Bool → OpeningAnswer → PlainMachine → Type 0
IsOpened image old boot answer new = (I : Image) → HoldsImage I image → world_of new ≡ next I (world_of old) (machine.Opened boot (opening_of answer))
