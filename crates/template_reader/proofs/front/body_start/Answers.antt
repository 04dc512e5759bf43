use Rattle.std.proofs.Common.{ℕ, ◌+◌, Bool, Some, None, sym, ap, ◌∙◌, refl, length, if◌then◌else◌}
use Rattle.std.specs.Prelude.{min}
use Rattle.template_reader.proofs.Fences.{starts-first, starts-behind}
use Rattle.template_reader.proofs.front.body_start.Goals as goal

pub returns-in_default-clause-ok : goal.returns-in_default-clause-ok
returns-in_default-clause-ok c = starts-first c.args.source.now c.front_length.result c.front_length.ensures.value c.in_default.is

pub returns-clause-ok : goal.returns-clause-ok
returns-clause-ok c =
    let source = c.args.source.now in
    starts-behind source c.split_at.result.0.now c.in-Some.n c.in_ok-is_toml.field-0 c.in-Some.ensures.value c.split_at.ensures.front c.in_ok-is_toml.ensures
    ∙ ap (λ (t : Bool). if t then Some (min (c.in-Some.n + 4) (length source)) else None) c.if-not-branch.false ∙ ap (λ (n : ℕ). Some n) (sym c.min.ensures)

pub returns-then-not-branch-clause-err : goal.returns-then-not-branch-clause-err
returns-then-not-branch-clause-err c =
    let source = c.args.source.now in
    λ k. (
      starts-behind source c.split_at.result.0.now c.in-Some.n c.in_ok-is_toml.field-0 c.in-Some.ensures.value c.split_at.ensures.front c.in_ok-is_toml.ensures
          ∙ ap (λ (t : Bool). if t then Some (min (c.in-Some.n + 4) (length source)) else None) c.if-not-branch.true,
      refl,
    )
