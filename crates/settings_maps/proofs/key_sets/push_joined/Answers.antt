use Rattle.std.proofs.Common.{arith, ◌≡◌, ◌++◌, ℕ, List, inl, inr, [], ◌∷◌, length, true, refl, sym, ◌∙◌, ap}
use Rattle.std.specs.Prelude.{◌==◌}
use Rattle.std.proofs.lemmas.Bool.{eqb-true}
use Rattle.std.proofs.lemmas.Result.{on_ok_weaker}
use Rattle.settings_maps.proofs.Merged.{least_pushed, rest_merged}
use Rattle.settings_maps.proofs.key_sets.push_joined.Goals as goal
use Rattle.settings_maps.proofs.key_sets.push_joined.Goals.{then-loop-least-test+else-not-is_empty, else-loop-least-test}

-- a list that has no key
bare : (l : List (List (List ℕ))) → true ≡ (length l == 0) → l ≡ []
bare [] is = refl
bare (x ∷ l) is = let none : length (x ∷ l) ≡ 0 = eqb-true _ _ (sym is) in absurd (omega arith)

pub loop-least-preserved : goal.loop-least-preserved
loop-least-preserved c =
    least_pushed c.loop-least.all.items c.push_copy.new.all.items c.loop-least.one.now c.loop-least.two.now _ _ _ c.least_of-first.result.0.now
    c.least_of-first.result.1 c.least_of-first.result.2
    c.in_ok-push_copy.ensures c.least_of-first.ensures c.split_at.ensures.back c.split_at-in-loop-least.ensures.back c.loop-least.invariant

pub returns : goal.returns
returns c =
    on_ok_weaker c.push_copies-2.result
    (λ second. rest_merged _ c.loop-least.all.items _ c.loop-least.one.now c.loop-least.two.now
    (elim c.loop-least-test.branch [
      | then-loop-least-test+else-not-is_empty w ↦ inr (bare _ w.if-not-is_empty.ensures)
      | else-loop-least-test w ↦ inl
          (bare _ w.loop-least-test.ensures)
    ])
    (second ∙ ap (λ (l : List (List (List ℕ))). l ++ c.loop-least.two.now) c.in_ok-push_copies.ensures) c.loop-least.invariant)
    c.push_copies-2.ensures
