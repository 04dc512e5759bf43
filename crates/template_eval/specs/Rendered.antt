-- Bytes that were rendered, or the first refusal.
use Rattle.std.specs.Prelude.{ℕ, List, [], ◌∷◌, ◌++◌, Result, Ok, Err}
use Rattle.template_eval.specs.declared.render_error.RenderError.{RenderError}

-- Bytes, or a refusal.
abbrev pub Rendered : Type 0
Rendered = Result (List ℕ) RenderError

-- These bytes, and then what was rendered.
abbrev pub onto : List ℕ → Rendered → Rendered
onto bytes (Ok more) = Ok (bytes ++ more)
onto bytes (Err e) = Err e

-- What was rendered first, and then what was rendered second; the first refusal counts.
abbrev pub both : Rendered → Rendered → Rendered
both (Ok bytes) r = onto bytes r
both (Err e) r = Err e

-- Each after the separator.
abbrev pub led : List ℕ → List Rendered → Rendered
led separator [] = Ok []
led separator (r ∷ rs) = both (onto separator r) (led separator rs)

-- One after another, with the separator between them.
abbrev pub joined : List ℕ → List Rendered → Rendered
joined separator [] = Ok []
joined separator (r ∷ rs) = both r (led separator rs)
