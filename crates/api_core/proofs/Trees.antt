-- What may be nested.
use Rattle.std.proofs.Common.{arith, ◌≡◌, ℕ, ◌<◌, List, [], ◌∷◌, Bool, true, false, not, ◌||◌, length, refl, ap, ◌∙◌}
use Rattle.std.specs.Prelude.{nat_le}
use Rattle.std.specs.List.{AllByRecursion, list_any}
use Rattle.std.specs.Map.{keys_of}
use Rattle.std.proofs.lemmas.Bool.Decides.{nat_tests}
use Rattle.json_trees.proofs.Parting.{All-from}
use Rattle.settings_machine.specs.World.{Key}
use Rattle.machine_answers.specs.Replies.{MakeTree}
use Rattle.api_core.specs.Prints.{AreAlike}

pub not_true : (b : Bool) → not b ≡ true → b ≡ false
not_true true is = absurd (cc is)
not_true false is = refl

module _ {V : Type 0} (skip : ℕ) where
  some_longer : (es : List (Key × V)) → list_any (λ e. nat_le (length e.0) skip) es ≡ false → AllByRecursion (λ key. skip < length key) (keys_of es)
  some_longer [] none = tt
  some_longer (e ∷ es) none = by (nat_le (length e.0) skip) refl none (some_longer es) where
    by : (b : Bool) → nat_le (length e.0) skip ≡ b → (b || list_any (λ e. nat_le (length e.0) skip) es) ≡ false
        → (list_any (λ e. nat_le (length e.0) skip) es ≡ false → AllByRecursion (λ key. skip < length key) (keys_of es))
        → AllByRecursion (λ key. skip < length key) (keys_of (e ∷ es))
    by true is none rest = absurd (cc none)
    by false is none rest = (grind (arith, nat_tests), rest none)

  -- Where each key goes on after the first segments, they make a tree.
  pub make_tree : (es : List (Key × V)) → list_any (λ e. nat_le (length e.0) skip) es ≡ false → AreAlike skip (keys_of es) → MakeTree skip (keys_of es)
  make_tree es none alike = record {
    apart = alike.apart;
    shared = record { longer = All-from (λ key. skip < length key) (keys_of es) (some_longer es none); alike = alike.alike };
  }
