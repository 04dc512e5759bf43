-- What is at each path once files are written, as they render, one after another.
use Rattle.std.proofs.Common.{◌≡◌, ◌≢◌, ◌⊎◌, inl, inr, ℕ, Bool, true, false, List, [], ◌∷◌, Some, refl, sym, ◌∙◌, ap}
use Rattle.std.specs.FinMap.{get, insert}
use Rattle.std.specs.Ordering.{eq_by_cmp}
use Rattle.outside.specs.Names.{Names, path_cmp}
use Rattle.settings_tree.specs.Content.{Contents}
use Rattle.settings_machine.specs.World.{Among, Image, Files, path_of, rendered}
use Rattle.settings_machine.specs.Calm.{bytes_of, written}
use Rattle.settings_machine.proofs.Elements.{path_tied, path_itself}
use Rattle.settings_machine.proofs.Lasting.{put_here, put_other}

module _ (I : Image) (live : Contents) where
  abbrev with_one : Files → List ℕ → Files
  with_one etc f = insert etc (path_of I f) (bytes_of (rendered I f live))

  -- A path that is that of none of the files has what it had.
  pub written_other : (files : List (List ℕ)) (etc : Files) (path : Names) → ((f : List ℕ) → Among files f → path ≢ path_of I f)
      → get (written I live etc files) path ≡ get etc path
  written_other [] etc path none = refl
  written_other (f ∷ fs) etc path none =
      written_other fs (with_one etc f) path (λ g at. none g (inr at))
      ∙ put_other etc (path_of I f) path (Some (bytes_of (rendered I f live))) (by (eq_by_cmp path_cmp path (path_of I f)) refl)
    where
      by : (b : Bool) → eq_by_cmp path_cmp path (path_of I f) ≡ b → b ≡ false
      by true same = absurd (none f (inl refl) (path_tied path (path_of I f) same))
      by false other = refl

  -- The path of one of the files has its bytes, where no two of them have one path.
  pub written_here : (files : List (List ℕ)) (etc : Files) (f : List ℕ) → ((g : List ℕ) → Among files g → path_of I f ≡ path_of I g → f ≡ g)
      → Among files f ⊎ (get etc (path_of I f) ≡ Some (bytes_of (rendered I f live)))
      → get (written I live etc files) (path_of I f) ≡ Some (bytes_of (rendered I f live))
  written_here [] etc f apart (inl at) = absurd at
  written_here [] etc f apart (inr stands) = stands
  written_here (g ∷ fs) etc f apart at_or_stands =
      written_here fs (with_one etc g) f (λ h at. apart h (inr at)) (by (eq_by_cmp path_cmp (path_of I f) (path_of I g)) refl at_or_stands)
    where
      here : path_of I f ≡ path_of I g → get (with_one etc g) (path_of I f) ≡ Some (bytes_of (rendered I f live))
      here same = put_here etc (path_of I g) (path_of I f) (Some (bytes_of (rendered I g live))) same
          ∙ ap (λ (x : List ℕ). Some (bytes_of (rendered I x live))) (sym (apart g (inl refl) same))

      by : (b : Bool) → eq_by_cmp path_cmp (path_of I f) (path_of I g) ≡ b
          → Among (g ∷ fs) f ⊎ (get etc (path_of I f) ≡ Some (bytes_of (rendered I f live)))
          → Among fs f ⊎ (get (with_one etc g) (path_of I f) ≡ Some (bytes_of (rendered I f live)))
      by true same either = inr (here (path_tied (path_of I f) (path_of I g) same))
      by false other (inl (inl now)) =
          absurd (cc (other, ap (λ (x : List ℕ). eq_by_cmp path_cmp (path_of I f) (path_of I x)) (sym now) ∙ path_itself (path_of I f)))
      by false other (inl (inr later)) = inl later
      by false other (inr stands) = inr (put_other etc (path_of I g) (path_of I f) (Some (bytes_of (rendered I g live))) other ∙ stands)
