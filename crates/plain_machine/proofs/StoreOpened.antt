-- What the opening step makes of the machine's parts is what the machine makes of the world.
use Rattle.std.proofs.Common.{◌≡◌, Bool, true, false, List, refl, sym, ◌∙◌, ap, subst}
use Rattle.std.specs.FinMap.{empty}
use Rattle.model_file.specs.Model.{AreTyped}
use Rattle.model_file.proofs.KnownKeys.{all_known}
use Rattle.settings_tree.specs.Content.{Contents}
use Rattle.settings_tree.specs.Laid.{laid}
use Rattle.settings_tree.specs.declared.entry.Entry.{Entry}
use Rattle.settings_tree.specs.declared.held.Held.{Held}
use Rattle.typed_settings.specs.Order.{IsTable}
use Rattle.typed_settings.proofs.Apart.{prefix_free}
use Rattle.typed_settings.specs.declared.row.Row.{Row}
use Rattle.settings_machine.specs.World.{Image, World, Job}
use Rattle.settings_machine.specs.Opening.{added_keys, opened_held}
use Rattle.settings_machine.specs.Step.{noting, opened}
use Rattle.settings_machine.specs.JobSeen.{job_seen}
use Rattle.settings_machine.specs.Typed.{IsTypedHeld}
use Rattle.settings_machine.proofs.Openings.{opened_typed}
use Rattle.opening_step.specs.Step.{HasTypes, MakesStep}
use Rattle.plain_machine.specs.Steps.{HoldsImage}
use Rattle.plain_machine.specs.Openings.{IsOpened, IsStepped, is_taken}
use Rattle.plain_machine.specs.Worlds.{world_of}
use Rattle.plain_machine.specs.declared.image.PlainImage.{PlainImage}
use Rattle.plain_machine.specs.declared.machine.PlainMachine.{PlainMachine}
use Rattle.plain_machine.specs.declared.opening_answer.OpeningAnswer.{OpeningAnswer}
use Rattle.plain_machine.specs.declared.opening_answer.OpeningAnswer.TheVariants as answer

-- The types of the image know its defaults and take what is held.
pub may_open : (types : List Row) (defaults : Contents) (held : Held) → IsTable types → AreTyped types defaults.values → IsTypedHeld types held
    → HasTypes defaults held
may_open types defaults held table typed fit = record {
  types = types;
  free = prefix_free types table.apart;
  known =
      all_known types defaults.values typed;
  fit = fit;
}

-- The image with no templates, for which no opening asks.
abbrev bare : PlainImage → Image
bare image = record {
  types = image.types;
  os = image.os;
  defaults = image.defaults;
  manifest = image.manifest;
  templates = empty;
  text = image.text;
}

-- What is held stays typed.
pub step_typed : (image : PlainImage) (held : Held) (boot : Bool) (change : List Entry) → AreTyped image.types image.defaults.values
    → IsTypedHeld image.types held
    → MakesStep boot image.defaults image.text held change → IsTypedHeld image.types (laid held change)
step_typed image held boot change typed fit makes = subst (IsTypedHeld image.types) (sym (makes.laid_is (bare image) refl refl))
    (opened_typed (bare image) held boot (record { typed = λ q v there other. typed q v there }) fit)

-- The world with this held and this job.
abbrev with_both : World → Held → Job → World
with_both W held job = record W { held = held; job = job }

module _ (image : PlainImage) (old : PlainMachine) (boot : Bool) (held : Held) (job : Job) (change : List Entry) where
  pub stepped : MakesStep boot image.defaults image.text old.held change → held ≡ laid old.held change
      → job ≡ noting (job_seen old.job) (added_keys image.defaults.values old.held.live.values)
      → (I : Image) → HoldsImage I image → with_both (world_of old) held job ≡ opened I (world_of old) boot
  unfolding opened
  stepped makes held_is job_is = λ I holds.
      ap (λ (h : Held). with_both (world_of old) h job) (held_is ∙ makes.laid_is I (sym holds.defaults_are) (sym holds.text_is))
      ∙ ap (with_both (world_of old) (opened_held I old.held boot))
      (job_is ∙ ap (λ (d : Contents). noting (job_seen old.job) (added_keys d.values old.held.live.values)) holds.defaults_are)

module _ (image : PlainImage) (old new : PlainMachine) (boot : Bool) where
  pub opened_taken : (a : OpeningAnswer) → is_taken a ≡ true → IsStepped image old boot new → IsOpened image old boot a new
  opened_taken answer.Succeeded taken step = step
  opened_taken (answer.Failing true) taken step = step
  opened_taken (answer.Failing false) taken step = absurd (cc taken)

-- An opening that isn't taken changes nothing.
pub opened_not : (image : PlainImage) (old : PlainMachine) (boot : Bool) (a : OpeningAnswer) → is_taken a ≡ false → IsOpened image old boot a old
opened_not image old boot answer.Succeeded taken = absurd (cc taken)
opened_not image old boot (answer.Failing true) taken = absurd (cc taken)
opened_not image old boot (answer.Failing false) taken = λ I holds. refl
