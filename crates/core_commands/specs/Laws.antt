-- Laws of commands that end well.
use Rattle.std.specs.Prelude.{◌≡◌, Bool, true, List}
use Rattle.json_trees.specs.declared.scalar.Scalar.{Scalar}
use Rattle.settings_machine.specs.World.{Key, Image, World, Idle, owes_none}
use Rattle.settings_machine.specs.Events.{Event, after}
use Rattle.core_commands.specs.Carried.{HasEnded, set_requests, apply_requests}

-- Where all requests of `set` were answered with success and the job has ended well, nothing is owed.
abbrev pub SetPays : Type 0
SetPays = (I : Image) (W : World) → W.job ≡ Idle → (pairs : List (Key × Scalar)) (asked turned : List Event)
    → HasEnded I W (set_requests pairs) Idle asked turned
    → owes_none (after I (after I W asked) turned).held.owed ≡ true

-- The same of `apply`.
abbrev pub ApplyPays : Type 0
ApplyPays = (I : Image) (W : World) → W.job ≡ Idle → (all : Bool) (asked turned : List Event) → HasEnded I W (apply_requests all) Idle asked turned
    → owes_none (after I (after I W asked) turned).held.owed ≡ true
