-- What a call without a disk makes of a request.
use Rattle.std.specs.Prelude.{◌≡◌, ℕ, List, Option, Some, None, Result, Ok, Err}
use Rattle.settings_tree.specs.declared.held.Held.{Held}
use Rattle.typed_settings.specs.declared.row.Row.{Row}
use Rattle.settings_machine.specs.World.{Key, Image, World}
use Rattle.settings_machine.specs.Requests.{KeyList, Body, Request, Reply, Said, Empty, Refused}
use Rattle.settings_machine.specs.declared.refusal.Refusal.{Refusal}
use Rattle.settings_machine.specs.declared.refusal.Refusal.TheVariants.{NoPending}
use Rattle.settings_machine.specs.Step.{Answered, request_next}

-- In each world of an image of these types that holds the old, the request leads to one that holds the new, and is answered so.
pub record IsAnswered (types : List Row) (old : Held) (q : Request) (new : Held) (reply : Reply) : Type 0 where
  pub makes : (I : Image) (W : World) → I.types ≡ types → W.held ≡ old → (request_next I W q Answered).world.held ≡ new
  pub says : (I : Image) (W : World) → I.types ≡ types → W.held ≡ old → (request_next I W q Answered).reply ≡ reply

-- How pairs of which one may be refused are answered.
abbrev pub patch_reply : Option Refusal → Reply
patch_reply None = Empty
patch_reply (Some refusal) = Refused refusal

-- How the end of a transaction with these keys is answered.
abbrev pub keys_reply : List Key → Reply
keys_reply keys = Said (KeyList keys)

-- How the commit of a transaction that isn't there is answered.
abbrev pub missing_reply : List ℕ → Reply
missing_reply tx = Refused (NoPending tx)

-- How a request is answered that comes to what a body says, or is refused.
abbrev pub reply_by : {X : Type 0} → (X → Body) → Result X Refusal → Reply
reply_by body (Ok x) = Said (body x)
reply_by body (Err refusal) = Refused refusal
