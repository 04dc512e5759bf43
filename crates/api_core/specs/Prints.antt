-- For private clauses: what can be printed, but for a value at the root of its tree.
use Rattle.std.specs.Prelude.{◌≡◌, ⊤, ℕ, List, take, AllPairs}
use Rattle.std.specs.Map.{keys_of}
use Rattle.json_trees.specs.Apart.{AreApart}
use Rattle.machine_answers.specs.declared.answer.Answer.{Answer}
use Rattle.machine_answers.specs.declared.answer.Answer.TheVariants as answer
use Rattle.machine_answers.specs.declared.answer.Body.{Body}
use Rattle.machine_answers.specs.declared.answer.Body.TheVariants as body
use Rattle.settings_machine.specs.World.{Key}

-- The keys are apart, and share so many first segments.
pub record AreAlike (skip : ℕ) (keys : List Key) : Type 0 where
  pub apart : AreApart keys
  pub alike : AllPairs (λ key other. take skip key ≡ take skip other) keys

-- The values of the body, if any, make a tree, but for a value at its root.
abbrev pub CanNest : Body → Type 0
CanNest (body.Values skip pairs) = AreAlike skip (keys_of pairs.items)
CanNest (body.Pairs pairs) = AreAlike 1 (keys_of pairs.items)
CanNest _ = ⊤

-- And so do those that the answer tells.
abbrev pub CanPrint : Answer → Type 0
CanPrint (answer.Said said) = CanNest said
CanPrint _ = ⊤
