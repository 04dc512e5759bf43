-- For private clauses: plans and files over live values.
use Rattle.std.specs.Prelude.{◌≡◌, ℕ, List, [], ◌∷◌}
use Rattle.settings_tree.specs.Content.{Contents}
use Rattle.settings_tree.specs.declared.entry.Owed.{Owed}
use Rattle.settings_tree.specs.declared.entry.Owed.TheVariants as owed
use Rattle.settings_tree.specs.declared.entry.Entry.{Entry}
use Rattle.settings_tree.specs.declared.entry.Entry.TheVariants.{OwedSet}
use Rattle.settings_tree.specs.declared.held.Held.{Held}
use Rattle.settings_machine.specs.World.{Key, Image, rendered}
use Rattle.settings_machine.specs.Seen.{HoldsTemplates}
use Rattle.settings_machine.specs.Requests.{Said, PlanIs}
use Rattle.settings_machine.specs.Plans.{plan_of, rendered_reply}
use Rattle.machine_answers.specs.Replies.{reply_of}
use Rattle.machine_answers.specs.declared.answer.Answer.{Answer}
use Rattle.api_core.specs.declared.serving.Core.{Core}

-- Of each image that has what the core has, it is the plan of what holds these live values and owes this.
pub record PlansOver (c : Core) (live : Contents) (owed : Owed) (changed : List Key) (answer : Answer) : Type 0 where
  pub plans : (I : Image) → c.image.model.os ≡ I.os → c.image.manifest ≡ I.manifest → HoldsTemplates I c.image.templates → (held : Held)
      → held.live ≡ live → held.owed ≡ owed → Said (PlanIs (plan_of I changed held)) ≡ reply_of answer

-- Of each image that has what the core has, the file renders so over these live values.
pub record RendersOver (c : Core) (live : Contents) (file : List ℕ) (answer : Answer) : Type 0 where
  pub renders : (I : Image) → c.image.model.os ≡ I.os → HoldsTemplates I c.image.templates → rendered_reply file (rendered I file live) ≡ reply_of answer

-- The entries after which all is owed.
abbrev pub all_owed : Owed → List Entry
all_owed owed.All = []
all_owed (owed.Keys keys) = OwedSet owed.All ∷ []
