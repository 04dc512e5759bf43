-- Files whose templates refuse, and the first of them.
use Rattle.std.proofs.Common.{◌≡◌, inl, inr, ⊎_elim, ℕ, List, [], ◌∷◌, ◌++◌, Ok, Err, refl, sym, ◌∙◌, ap, subst}
use Rattle.settings_tree.specs.Content.{Contents}
use Rattle.template_eval.specs.Rendered.{Rendered}
use Rattle.template_eval.specs.declared.render_error.RenderError.{RenderError}
use Rattle.settings_machine.specs.World.{Among, Image, rendered}
use Rattle.settings_machine.specs.Plans.{refusal_in, refusing}
use Rattle.settings_machine.specs.Calm.{Renders, AllRender}
use Rattle.settings_machine.specs.PlanLaws.{IsFirstRefusal}
use Rattle.settings_machine.proofs.Elements.{among_right}

-- The first of a list, or this.
abbrev first_or : List ℕ × RenderError → List (List ℕ × RenderError) → List ℕ × RenderError
first_or x [] = x
first_or x (y ∷ ys) = y

module _ (I : Image) (live : Contents) where
  -- Where each template renders none refuses,
  pub none_refuses : (files : List (List ℕ)) → AllRender I live files → refusing I live files ≡ []
  none_refuses [] all = refl
  none_refuses (f ∷ fs) all =
      let first : Renders I live f = all f (inl refl) in
      ap (λ (r : Rendered). refusal_in f r ++ refusing I live fs) first.renders ∙ none_refuses fs (λ g at. all g (inr at))

  -- and where none refuses each renders.
  pub all_render : (files : List (List ℕ)) → refusing I live files ≡ [] → AllRender I live files
  all_render [] none f at = absurd at
  all_render (g ∷ fs) none f at = by (rendered I g live) refl (λ none'. all_render fs none' f) none at where
    by : (r : Rendered) → rendered I g live ≡ r → (refusing I live fs ≡ [] → Among fs f → Renders I live f) → refusal_in g r ++ refusing I live fs ≡ []
        → Among (g ∷ fs) f → Renders I live f
    by (Ok bytes) is later none' (inl here) = record { bytes = bytes; renders = ap (λ (x : List ℕ). rendered I x live) here ∙ is }
    by (Ok bytes) is later none' (inr there) = later none' there
    by (Err e) is later none' at' = absurd (cc none')

  -- The first that refuses comes after files that render.
  pub first_refuses : (files : List (List ℕ)) (f : List ℕ) (e : RenderError) (rest : List (List ℕ × RenderError)) → refusing I live files ≡ (f, e) ∷ rest
      → IsFirstRefusal I live files f e
  first_refuses [] f e rest is = absurd (cc is)
  first_refuses (g ∷ fs) f e rest is = by (rendered I g live) refl (first_refuses fs f e rest) is where
    by : (r : Rendered) → rendered I g live ≡ r → (refusing I live fs ≡ (f, e) ∷ rest → IsFirstRefusal I live fs f e)
        → refusal_in g r ++ refusing I live fs ≡ (f, e) ∷ rest → IsFirstRefusal I live (g ∷ fs) f e
    by (Ok bytes) renders later is' =
        let t = later is' in
        record {
          front = g ∷ t.front;
          rest = t.rest;
          listed = ap (λ (l : List (List ℕ)). g ∷ l) t.listed;
          before = λ h at. ⊎_elim (λ here. record { bytes = bytes; renders = ap (λ (x : List ℕ). rendered I x live) here ∙ renders })
              (λ there. t.before h there) at;
          refuses = t.refuses;
        }
    by (Err d) refuses later is' =
        let file : g ≡ f = ap (λ (l : List (List ℕ × RenderError)). (first_or (f, e) l).0) is' in
        let why : d ≡ e = ap (λ (l : List (List ℕ × RenderError)). (first_or (f, e) l).1) is' in
        record {
          front = [];
          rest = fs;
          listed = ap (λ (x : List ℕ). x ∷ fs) file;
          before = λ h at. absurd at;
          refuses = ap (λ (x : List ℕ). rendered I x live) (sym file) ∙ refuses ∙ ap (λ (x : RenderError). Err x) why;
        }

  -- One that comes after files that render is the first that refuses.
  pub refused_first : (front rest : List (List ℕ)) (f : List ℕ) (e : RenderError) → AllRender I live front → rendered I f live ≡ Err e
      → refusing I live (front ++ f ∷ rest) ≡ (f, e) ∷ refusing I live rest
  refused_first [] rest f e all is = ap (λ (r : Rendered). refusal_in f r ++ refusing I live rest) is
  refused_first (g ∷ front) rest f e all is =
      let first : Renders I live g = all g (inl refl) in
      ap (λ (r : Rendered). refusal_in g r ++ refusing I live (front ++ f ∷ rest)) first.renders
      ∙ refused_first front rest f e (λ h at. all h (inr at)) is

  -- A file that refuses is one of the list, and its template refuses so;
  pub refusing_among : (files : List (List ℕ)) (f : List ℕ) (e : RenderError) → Among (refusing I live files) (f, e)
      → Among files f × (rendered I f live ≡ Err e)
  refusing_among [] f e at = absurd at
  refusing_among (g ∷ fs) f e at = by (rendered I g live) refl (refusing_among fs f e) at where
    by : (r : Rendered) → rendered I g live ≡ r → (Among (refusing I live fs) (f, e) → Among fs f × (rendered I f live ≡ Err e))
        → Among (refusal_in g r ++ refusing I live fs) (f, e) → Among (g ∷ fs) f × (rendered I f live ≡ Err e)
    by (Ok bytes) is later there = let t = later there in (inr t.0, t.1)
    by (Err d) is later (inl here) =
        let file : f ≡ g = ap (λ (x : List ℕ × RenderError). x.0) here in
        let why : e ≡ d = ap (λ (x : List ℕ × RenderError). x.1) here in
        (inl file, ap (λ (x : List ℕ). rendered I x live) file ∙ is ∙ ap (λ (x : RenderError). Err x) (sym why))
    by (Err d) is later (inr there) = let t = later there in (inr t.0, t.1)

  -- and one of the list that refuses is there.
  pub among_refusing : (files : List (List ℕ)) (f : List ℕ) (e : RenderError) → Among files f → rendered I f live ≡ Err e
      → Among (refusing I live files) (f, e)
  among_refusing [] f e at refuses = absurd at
  among_refusing (g ∷ fs) f e (inl here) refuses = subst (λ (r : Rendered). Among (refusal_in g r ++ refusing I live fs) (f, e))
      (sym refuses ∙ ap (λ (x : List ℕ). rendered I x live) here) (inl (ap (λ (x : List ℕ). let p : List ℕ × RenderError = (x, e) in p) here))
  among_refusing (g ∷ fs) f e (inr there) refuses =
      among_right (refusal_in g (rendered I g live)) (refusing I live fs) (f, e) (among_refusing fs f e there refuses)
