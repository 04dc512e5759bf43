-- The replies of the machine that values are.
use Rattle.std.specs.Prelude.{ℕ, List, map, ⊤}
use Rattle.std.specs.Map.{keys_of}
use Rattle.json_trees.specs.Apart.{AreApart}
use Rattle.json_trees.specs.Nested.{ShareFirst}
use Rattle.settings_machine.specs.World.{Key}
use Rattle.settings_machine.specs.PlanSeen.{planned_of}
use Rattle.settings_machine.specs.Requests as machine
use Rattle.machine_answers.specs.declared.answer.Answer.{Answer}
use Rattle.machine_answers.specs.declared.answer.Answer.TheVariants as answer
use Rattle.machine_answers.specs.declared.answer.Body.{Body}
use Rattle.machine_answers.specs.declared.answer.Body.TheVariants as body

-- The body that a value is.
abbrev pub body_of : Body → machine.Body
body_of (body.Values skip pairs) = machine.TreeOf skip pairs.items
body_of (body.Pairs pairs) = machine.PendingTreeOf 1 pairs.items
body_of (body.Texts texts) = machine.TextsByName texts.items
body_of (body.Lists lists) = machine.ListsByKey (map (λ e. (e.0, e.1.items)) lists.items)
body_of (body.Keys keys) = machine.KeyList keys
body_of (body.Names names) = machine.NameList names.items
body_of (body.Job status owed) = machine.JobIs status owed
body_of (body.Plan plan) = machine.PlanIs (planned_of plan)
body_of (body.Store version held) = machine.StoreIs version held
body_of (body.States files) = machine.StatesAre files.items

-- The reply that a value is.
abbrev pub reply_of : Answer → machine.Reply
reply_of (answer.Said said) = machine.Said (body_of said)
reply_of (answer.File bytes) = machine.Said (machine.FileIs bytes)
reply_of answer.Empty = machine.Empty
reply_of (answer.Refused refusal) = machine.Refused refusal

-- The keys, without so many first segments, are those of one tree.
pub record MakeTree (skip : ℕ) (keys : List Key) : Type 0 where
  pub apart : AreApart keys
  pub shared : ShareFirst skip keys

-- The values of the body, if any, make a tree.
abbrev pub MayNest : Body → Type 0
MayNest (body.Values skip pairs) = MakeTree skip (keys_of pairs.items)
MayNest (body.Pairs pairs) = MakeTree 1 (keys_of pairs.items)
MayNest _ = ⊤

-- What the answer tells can be printed.
abbrev pub MayPrint : Answer → Type 0
MayPrint (answer.Said said) = MayNest said
MayPrint _ = ⊤
