-- What holds where a job runs.
use Rattle.std.proofs.Common.{◌≡◌, Bool, true, false, ◌||◌, List, refl, sym, ◌∙◌, ap, subst}
use Rattle.outside.specs.History.{History}
use Rattle.settings_tree.specs.declared.held.Held.{Held}
use Rattle.version_links.specs.declared.chain.Place.{Place}
use Rattle.settings_machine.specs.World.{Image, World, Work, Job, Running, is_running}
use Rattle.settings_machine.specs.Step.{Answer, fits_work, fits}
use Rattle.settings_machine.specs.Events.{Event}
use Rattle.settings_machine.specs.Paid.{JobOwes, RunningOwes}
use Rattle.machine_disk.specs.Kept.{Folder, CoreState, Kept}
use Rattle.machine_disk.specs.Ran.{Ran}
use Rattle.machine_disk.proofs.Meanings.{core_holds}

core_of : Place → Held → Job → Bool → CoreState
core_of p h j f = record { place = p; held = h; job = j; faulted = f }

-- Two cores that are equal part by part are one.
pub core_same : (x y : CoreState) → x.place ≡ y.place → x.held ≡ y.held → x.job ≡ y.job → x.faulted ≡ y.faulted → x ≡ y
unfolding core_of
core_same x y p h j f = ap (λ (q : Place). core_of q x.held x.job x.faulted) p ∙ ap (λ (q : Held). core_of y.place q x.job x.faulted) h
    ∙ ap (λ (q : Job). core_of y.place y.held q x.faulted) j ∙ ap (λ (q : Bool). core_of y.place y.held y.job q) f

-- A core may be given in other words.
pub ran_to : (I : Image) (folder : Folder) (W V : World) (es : List Event) (old new : History) (before x y : CoreState) → x ≡ y
    → Ran I folder W V es old new before x
    → Ran I folder W V es old new before y
ran_to I folder W V es old new before x y same = subst (Ran I folder W V es old new before) same

-- Where no call of the disk has failed, what failed since is all that has.
pub or_calm : (a b : Bool) → a ≡ false → b ≡ (a || b)
or_calm true b e = absurd (cc e)
or_calm false b e = refl

module _ (I : Image) (folder : Folder) (W V : World) (h : History) (before : CoreState) (kept : Kept I folder W V h before) (w : Work)
    (running : before.job ≡ Running w) where
  -- No job runs while a call of the disk has failed.
  pub calm : before.faulted ≡ false
  calm = by before.faulted refl where
    by : (b : Bool) → before.faulted ≡ b → before.faulted ≡ false
    by false e = e
    by true e = absurd (let s : is_running before.job ≡ false = kept.core.still e in let r : is_running before.job ≡ true = ap is_running running in cc (s, r))

  pub job_is : W.job ≡ Running w
  job_is = sym kept.core.job ∙ running

  -- The core holds what the world does.
  pub held_is : W.held ≡ before.held
  held_is = core_holds I folder W V h before kept calm

  -- It does only what is owed.
  pub job_owes : JobOwes I W w
  job_owes = subst (λ (j : Job). RunningOwes I W j) job_is kept.fit.job

  -- An answer that fits what it has to do fits the world's turn.
  pub fits_turn : (a : Answer) → fits_work a w.files w.commands ≡ true → fits W.job a ≡ true
  fits_turn a is = ap (λ (j : Job). fits j a) job_is ∙ is
