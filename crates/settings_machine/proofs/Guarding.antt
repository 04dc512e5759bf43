-- The law of guarded changes.
use Rattle.std.proofs.Common.{◌≡◌, ℕ, Bool, true, false, if◌then◌else◌, List, [], ◌∷◌, refl, sym, ◌∙◌, ap, subst}
use Rattle.template_eval.specs.declared.render_error.RenderError.{RenderError}
use Rattle.settings_machine.specs.declared.refusal.Refusal.TheVariants.{NotRendered}
use Rattle.settings_machine.specs.World.{Image, World}
use Rattle.settings_machine.specs.Requests.{Request, Guarded, Reply, Refused, is_success}
use Rattle.settings_machine.specs.Plans.{first_in, refusing}
use Rattle.settings_machine.specs.Step.{Next, stays, unless_refusing, answered}
use Rattle.settings_machine.specs.PlanLaws.{guarded_files, GuardedRender, GuardRefuses, GuardsHold}
use Rattle.settings_machine.proofs.Changed.{answered_changed}
use Rattle.settings_machine.proofs.RefusedFiles.{none_refuses, all_render, first_refuses, refused_first}

abbrev Refusals : Type 0
Refusals = List (List ℕ × RenderError)

-- A reply of success is no refusal.
no_refusal : (r : Reply) (f : List ℕ) (e : RenderError) → is_success r ≡ true → r ≡ Refused (NotRendered f e) → ⊥
no_refusal r f e well is = absurd (cc (sym (ap is_success is) ∙ well))

module _ (I : Image) (W : World) (q : Request) where
  -- What the request comes to by itself, and the files that refuse then.
  abbrev alone : Next
  alone = answered I W q

  abbrev refusals : Refusals
  refusals = refusing I alone.world.held.live (guarded_files I W q)

  abbrev guard : Bool → Refusals → Next
  guard well l = if well then unless_refusing W alone (first_in l) else alone

  passes : GuardedRender I W q → answered I W (Guarded q) ≡ alone
  passes all = ap (guard (is_success alone.reply)) (none_refuses I alone.world.held.live (guarded_files I W q) all) ∙ by (is_success alone.reply) where
    by : (b : Bool) → guard b [] ≡ alone
    by true = refl
    by false = refl

  renders : is_success (answered I W (Guarded q)).reply ≡ true → GuardedRender I W q
  renders well = all_render I alone.world.held.live (guarded_files I W q) (by (is_success alone.reply) refusals refl well) where
    by : (b : Bool) (l : Refusals) → is_success alone.reply ≡ b → is_success (guard b l).reply ≡ true → l ≡ []
    by true [] is well' = refl
    by true (x ∷ xs) is well' = absurd (cc well')
    by false l is well' = absurd (cc (is, well'))

  stops : is_success alone.reply ≡ true → (f : List ℕ) (e : RenderError) → GuardRefuses I W q f e
      → answered I W (Guarded q) ≡ stays W (Refused (NotRendered f e))
  stops well f e one =
      ap (λ (b : Bool). guard b refusals) well
      ∙ ap (guard true) (ap (refusing I alone.world.held.live) one.listed
      ∙ refused_first I alone.world.held.live one.front one.rest f e one.before one.refuses)

  first : is_success alone.reply ≡ true → (f : List ℕ) (e : RenderError) → (answered I W (Guarded q)).reply ≡ Refused (NotRendered f e) → GuardRefuses I W q f e
  first well f e is = by refusals refl (sym (ap (λ (b : Bool). (guard b refusals).reply) well) ∙ is) where
    by : (l : Refusals) → refusals ≡ l → (guard true l).reply ≡ Refused (NotRendered f e) → GuardRefuses I W q f e
    by [] none is' = absurd (no_refusal alone.reply f e well is')
    by (x ∷ xs) some is' =
        let file : x.0 ≡ f = cc is' in
        let why : x.1 ≡ e = cc is' in
        subst (λ (g : List ℕ). GuardRefuses I W q g e) file
        (subst (λ (d : RenderError). GuardRefuses I W q x.0 d) why
        (first_refuses I alone.world.held.live (guarded_files I W q) x.0 x.1 xs some))

pub guards_hold : GuardsHold
guards_hold I W q = record {
  changed = answered_changed I W q;
  taken = λ well. passes I W q (renders I W q well);
  renders = renders I W q;
  passes = passes I W q;
  alike = λ refused. ap (λ (b : Bool). guard I W q b (refusals I W q)) refused;
  stops = stops I W q;
  first = first I W q;
}
