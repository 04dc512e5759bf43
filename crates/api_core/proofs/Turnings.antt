-- Turns of the job of a core.
use Rattle.std.proofs.Common.{◌≡◌, inl, inr, Bool, true, false, ◌||◌, ◌&&◌, ℕ, List, [], ◌∷◌, Option, Some, None, refl, sym, ◌∙◌, ap, subst, arith}
use Rattle.outside.specs.History.{History}
use Rattle.outside.specs.Spawner.{Run}
use Rattle.outside.proofs.Told.{moves_stay}
use Rattle.settings_tree.specs.declared.held.Held.{Held}
use Rattle.settings_machine.specs.World.{Image, World, Job, is_running}
use Rattle.settings_machine.specs.Events.{Turned}
use Rattle.machine_disk.specs.Kept.{CoreState, Kept}
use Rattle.machine_disk.specs.Ran.{Ran}
use Rattle.machine_disk.proofs.Runs.{ran_none}
use Rattle.store_open.specs.Laws.{HoldsImage}
use Rattle.version_links.specs.declared.chain.Place.{Place}
use Rattle.affected_apply.specs.Jobs.{job_of, failed_with_disk}
use Rattle.affected_apply.specs.Turned as turned
use Rattle.affected_apply.specs.Turned.{AreTurns, AreEvents, IsTurn, core_at}
use Rattle.affected_apply.specs.declared.store.Store.{Store}
use Rattle.api_core.specs.Cores.{core_state}
use Rattle.api_core.specs.Turned.{Turns}
use Rattle.api_core.specs.declared.serving.Core.{Core}

-- Where no job runs, no turn is made.
no_turn : (I : Image) (slice : Option ℕ) (W : World) → is_running W.job ≡ false → AreTurns I slice W []
no_turn I None W still = still
no_turn I (Some n) W still = inr still

pub no_turns : (c : Core) → is_running (job_of c.job) ≡ false → (slice : Option ℕ) (runs : Option (List Run)) (h : History) → Turns c slice c runs runs h h
no_turns c still slice runs h = record {
  each = λ I good holds folder W V kept. record {
    turns = record {
      events = [];
      form = no_turn I slice W (sym (ap is_running kept.core.job) ∙ still);
      ran = ran_none I folder W V h (core_state c) kept;
      runs = moves_stay (λ s is. is);
    };
    image = holds;
  };
}

-- One turn of a running job is a slice of one.
pub one_turn : (s : Store) (held : Held) (job : Job) (held_after : Held) (job_left : Job) (ran_before ran_after : Option (List Run)) (old new : History)
    → is_running job ≡ true → IsTurn s held job held_after job_left ran_before ran_after old new
    → turned.Turns s (Some 1) held job held_after job_left ran_before ran_after old new
one_turn s held job held_after job_left ran_before ran_after old new running turn = record {
  events = λ I good holds folder faulted W V kept.
      let e = turn.event I good holds folder faulted W V kept in record {
        events = Turned e.answer ∷ [];
        form = (omega arith, ap is_running (sym kept.core.job) ∙ running, e.fitting, inl refl);
        ran = subst (λ (b : Bool). Ran I folder W V (Turned e.answer ∷ []) old new (core_at s held job faulted)
            (core_at s held_after job_left (faulted || (b && failed_with_disk job_left)))) (sym running) e.ran;
        runs = e.runs;
      };
}

-- Whether a call of the disk has failed after the turns.
abbrev faulted_after : Core → Core → Bool
faulted_after c now = c.faulted || (is_running (job_of c.job) && failed_with_disk (job_of now.job))

module _ (c now : Core) (s : Store) (place : s.place.now ≡ c.place) (same_place : now.place ≡ c.place) (faulted : now.faulted ≡ faulted_after c now) where
  before_is : core_at s c.held (job_of c.job) c.faulted ≡ core_state c
  before_is = ap (λ (p : Place). let x : CoreState = record { place = p; held = c.held; job = job_of c.job; faulted = c.faulted } in x) place

  after_is : core_at s now.held (job_of now.job) (faulted_after c now) ≡ core_state now
  after_is = ap (λ (p : Place). let x : CoreState = record { place = p; held = now.held; job = job_of now.job; faulted = faulted_after c now } in x)
      (place ∙ sym same_place)
      ∙ ap (λ (b : Bool). let x : CoreState = record { place = now.place; held = now.held; job = job_of now.job; faulted = b } in x) (sym faulted)

  -- Turns over the store of a core are turns of the core.
  pub turns_of : (slice : Option ℕ) (ran_before ran_after : Option (List Run)) (old new : History) → s.image.now ≡ c.image → now.image ≡ c.image
      → turned.Turns s slice c.held (job_of c.job) now.held (job_of now.job) ran_before ran_after old new → Turns c slice now ran_before ran_after old new
  turns_of slice ran_before ran_after old new image same_image t = record {
    each = λ I good holds folder W V kept.
        let u = t.events I good (subst (HoldsImage I) (sym image) holds) folder c.faulted W V
        (subst (λ (x : CoreState). Kept I folder W V old x) (sym before_is) kept) in record {
          turns = subst (λ (x : CoreState). AreEvents I folder W V slice (core_state c) x ran_before ran_after old new) after_is
              (subst (λ (x : CoreState). AreEvents I folder W V slice x (core_at s now.held (job_of now.job) (faulted_after c now)) ran_before ran_after old
              new) before_is u);
          image = subst (HoldsImage I) (sym same_image) holds;
        };
  }
