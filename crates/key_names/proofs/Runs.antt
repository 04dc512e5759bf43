-- The longest run of bytes at the front of a text that pass a test.
use Rattle.std.proofs.Common.{◌≡◌, ◌+◌, ◌⊎◌, ℕ, List, [], ◌∷◌, ◌++◌, Bool, true, false, cond, length, take, drop, refl, sym, ap, subst, inl, inr}
use Rattle.std.specs.Prelude.{IsTrue}
use Rattle.std.specs.List.{list_all, prefix_len}
use Rattle.std.proofs.Math.Numerals.{one-add}
use Rattle.std.proofs.lemmas.Bool.{and_parts}
use Rattle.std.proofs.lemmas.List.Folds.{length-prefix_len}

-- the list ends, or what is here fails the test
abbrev pub Stops : {X : Type 0} → (X → Bool) → List X → Type 0
Stops {X} p text = (text ≡ []) ⊎ ((x : X) × (rest : List X) × (text ≡ x ∷ rest) × (p x ≡ false))

-- the first n bytes pass, and the text then stops
pub record IsRun (p : ℕ → Bool) (text : List ℕ) (n : ℕ) : Type 0 where
  pub all : IsTrue (list_all p (take n text))
  pub stops : Stops p (drop n text)
  pub long : length (take n text) ≡ n

-- the run passes
list_all-take_run : (p : ℕ → Bool) (s : List ℕ) → IsTrue (list_all p (take (prefix_len p s) s))
list_all-take_run p [] = refl
list_all-take_run p (x ∷ s) =
    elim (p x) as (λ t. p x ≡ t → IsTrue (list_all p (take (cond t (1 + prefix_len p s) 0) (x ∷ s)))) [
      | true ↦ λ yes. rw (one-add (prefix_len p s)) (rw (yes) (list_all-take_run p s))
      | false ↦ λ no. refl
    ] refl

-- the run stops
Stops-drop_run : (p : ℕ → Bool) (s : List ℕ) → Stops p (drop (prefix_len p s) s)
Stops-drop_run p [] = inl refl
Stops-drop_run p (x ∷ s) =
    elim (p x) as (λ t. p x ≡ t → Stops p (drop (cond t (1 + prefix_len p s) 0) (x ∷ s))) [
      | true ↦ λ yes. rw (one-add (prefix_len p s)) (Stops-drop_run p s)
      | false ↦ λ no. inr (x, s, refl, no)
    ] refl

-- what passes and then stops is the run
pub prefix_len-run : {X : Type 0} (p : X → Bool) (run rest : List X) → IsTrue (list_all p run) → Stops p rest → prefix_len p (run ++ rest) ≡ length run
prefix_len-run p [] rest all (inl none) = ap (prefix_len p) none
prefix_len-run p [] rest all (inr (b, more, is, fails)) = rw is (rw fails refl)
prefix_len-run p (x ∷ run) rest all stops = let parts = and_parts (p x) (list_all p run) all in
    rw (parts.0) (rw (prefix_len-run p run rest parts.1 stops) (one-add (length run)))

-- the run has this length
pub IsRun-from : {p : ℕ → Bool} {s : List ℕ} {n : ℕ} → n ≡ prefix_len p s → IsRun p s n
IsRun-from {p} {s} is = subst (IsRun p s) (sym is) (record { all = list_all-take_run p s; stops = Stops-drop_run p s; long = length-prefix_len p s })
