-- Why a template refused, in words.
use Rattle.std.specs.Prelude.{ℕ, List, [], codes}
use Rattle.template_eval.specs.declared.render_error.RenderError.{RenderError}
use Rattle.template_eval.specs.declared.render_error.RenderError.TheVariants as render

-- The word for why a template refused; out of memory has none.
abbrev pub render_word : RenderError → List ℕ
render_word (render.Missing path) = codes "missing"
render_word (render.NotScalar path) = codes "not-scalar"
render_word (render.NotList path) = codes "not-list"
render_word (render.BadBase64 path) = codes "bad-base64"
render_word render.Memory = []

-- The path at which it refused, as it is written; out of memory has none.
abbrev pub render_path : RenderError → List ℕ
render_path (render.Missing path) = path
render_path (render.NotScalar path) = path
render_path (render.NotList path) = path
render_path (render.BadBase64 path) = path
render_path render.Memory = []
