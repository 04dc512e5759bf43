-- What a request makes of a core, before it is written down.
use Rattle.std.specs.Prelude.{◌≡◌, ⊤, false, List, [], Option}
use Rattle.std.specs.Option.{option_map}
use Rattle.outside.specs.History.{History}
use Rattle.settings_tree.specs.Laid.{laid, KeepsPrefixRule, NamesWeak, TellsWeak}
use Rattle.settings_tree.specs.declared.entry.Entry.{Entry}
use Rattle.settings_tree.specs.Content.{Contents}
use Rattle.settings_tree.specs.declared.entry.Owed.TheVariants.{Keys}
use Rattle.settings_tree.specs.declared.held.Held.{Held}
use Rattle.metadata_links.specs.Links.{files_of}
use Rattle.version_links.specs.declared.version.Version.{Version}
use Rattle.typed_settings.specs.Row.{IsPrefixFree}
use Rattle.typed_settings.specs.declared.row.Row.{Row}
use Rattle.settings_machine.specs.World.{Key, Image, World, Job}
use Rattle.settings_machine.specs.Seen.{HoldsTemplates}
use Rattle.settings_machine.specs.Plans.{first_refusing}
use Rattle.settings_machine.specs.declared.refusal.Refusal.{Refusal}
use Rattle.settings_machine.specs.declared.refusal.Refusal.TheVariants.{NotRendered}
use Rattle.settings_machine.specs.Requests.{Request}
use Rattle.settings_machine.specs.Step.{answered, stays}
use Rattle.settings_machine.specs.Typed.{IsTypedHeld}
use Rattle.affected_apply.specs.Jobs.{job_of}
use Rattle.machine_disk.specs.Kept.{Folder, Kept}
use Rattle.store_open.specs.Laws.{HoldsImage}
use Rattle.machine_answers.specs.Replies.{reply_of}
use Rattle.machine_answers.specs.declared.answer.Answer.{Answer}
use Rattle.machine_answers.specs.declared.answer.Answer.TheVariants as answer
use Rattle.api_core.specs.Cores.{core_state}
use Rattle.api_core.specs.Jobs.{job_after, KnowsRows}
use Rattle.api_core.specs.declared.planned.Effect.{Effect}
use Rattle.api_core.specs.declared.planned.Planned.{Planned}
use Rattle.api_core.specs.declared.serving.Core.{Core}

-- The change may be laid, and what it makes is typed.
pub record MayLay (types : List Row) (held : Held) (change : List Entry) : Type 0 where
  pub rule : KeepsPrefixRule (laid held change)
  pub weak : NamesWeak held change
  pub told : TellsWeak held change
  pub typed : IsTypedHeld types (laid held change)

-- What is held keeps the prefix rule and is typed, by types of which no known key begins with another.
pub record IsSoundHeld (types : List Row) (held : Held) : Type 0 where
  pub free : IsPrefixFree types
  pub rule : KeepsPrefixRule held
  pub typed : IsTypedHeld types held

-- What a core holds is so by the types of its image.
abbrev pub IsSoundCore : Core → Type 0
IsSoundCore c = IsSoundHeld c.image.model.types c.held

-- The world with this held, and this job.
abbrev pub with_core : World → Held → Job → World
with_core W held job = record W { held = held; job = job }

-- ---- what a request makes of a core

-- The effect may be committed: its change may be laid over what the core holds,
abbrev pub MayMake : Core → Planned → Type 0
MayMake c planned = MayLay c.image.model.types c.held planned.effect.change

-- and the manifest of the core has each file that a job of it has to do.
abbrev pub KnowsFiles : Core → Planned → Type 0
KnowsFiles c planned = KnowsRows c.image.manifest planned.effect.next

-- Both.
pub record MayCommit (c : Core) (effect : Effect) : Type 0 where
  pub lay : MayLay c.image.model.types c.held effect.change
  pub rows : KnowsRows c.image.manifest effect.next

-- In a world of this version with this held and this job the answer and the effect are what the machine makes of the request.
pub record IsPlanned (I : Image) (version : Version) (held : Held) (job : Job) (q : Request) (answer : Answer) (effect : Effect) : Type 0 where
  pub held_is : (W : World) → W.version ≡ version → laid held effect.change ≡ (answered I (with_core W held job) q).world.held
  pub job_is : (W : World) → W.version ≡ version → job_after effect.next job ≡ (answered I (with_core W held job) q).world.job
  pub replies : (W : World) → W.version ≡ version → (answered I (with_core W held job) q).reply ≡ reply_of answer

-- The same in a world that has what the core has, by an image that has these types, names, manifest and templates.
pub record Plans (c : Core) (q : Request) (answer : Answer) (effect : Effect) : Type 0 where
  pub by_image : (I : Image) → c.image.model.types ≡ I.types → c.image.model.os ≡ I.os → c.image.manifest ≡ I.manifest → HoldsTemplates I c.image.templates
      → IsPlanned I c.place.version c.held (job_of c.job) q answer effect

-- The same of a plan.
abbrev pub Makes : Core → Request → Planned → Type 0
Makes c q planned = Plans c q planned.answer planned.effect

-- By each image that the core holds, in each world at which disk and core are, the machine answers the request so.
pub record Replies (c : Core) (q : Request) (answer : Answer) : Type 0 where
  pub by_image : (I : Image) → HoldsImage I c.image → (folder : Folder) (W V : World) (h : History) → Kept I folder W V h (core_state c) → c.faulted ≡ false
      → (answered I W q).reply ≡ reply_of answer

-- A refused request changes nothing that is held.
abbrev pub IsQuietBy : Answer → List Entry → Type 0
IsQuietBy (answer.Refused refusal) change = change ≡ []
IsQuietBy _ change = ⊤

abbrev pub IsQuietIfRefused : Planned → Type 0
IsQuietIfRefused planned = IsQuietBy planned.answer planned.effect.change

-- The request changes nothing, and is answered so, in each world that has what the core has, by an image that has these names, this
-- manifest and these templates.
pub record IsReading (c : Core) (q : Request) (answer : Answer) : Type 0 where
  pub changes_nothing : (I : Image) → c.image.model.os ≡ I.os → c.image.manifest ≡ I.manifest → HoldsTemplates I c.image.templates → (W : World)
      → W.version ≡ c.place.version → answered I (with_core W c.held (job_of c.job)) q ≡ stays (with_core W c.held (job_of c.job)) (reply_of answer)

-- Why a change is refused after which these values are live and those at these keys are changed: the template of a file of one of the
-- keys refuses.
pub record Guards (c : Core) (live : Contents) (changed : List Key) (refusal : Option Refusal) : Type 0 where
  pub by_image : (I : Image) → c.image.model.os ≡ I.os → c.image.manifest ≡ I.manifest → HoldsTemplates I c.image.templates
      → refusal ≡ option_map (λ r. NotRendered r.0 r.1) (first_refusing I live (files_of I.manifest (Keys changed)))
