-- A source and its template, or its first fault.
use Rattle.std.specs.Prelude.{◌≡◌, ◌≢◌, ℕ, ◌+◌, List, drop, Option, Some, None, Result, MatchResult}
use Rattle.std.specs.Option.{option_map}
use Rattle.template_reader.specs.Front.{body_start}
use Rattle.template_reader.specs.Fault.{body_fault}
use Rattle.template_reader.specs.Nest.{ParsesBody}
use Rattle.template_reader.specs.Tree.{Tree}
use Rattle.template_reader.specs.Forest.{tree_in}
use Rattle.template_reader.specs.declared.template.Template.{Template}
use Rattle.template_reader.specs.declared.template_error.TemplateError.{TemplateError}
use Rattle.template_reader.specs.declared.template_error.TemplateKind.TheVariants.{BadFront, Memory}

-- The source parses to the tree: its body does, and what is before the body is as it must be.
pub record Parses (source : List ℕ) (t : Tree) : Type 0 where
  pub start : ℕ
  pub front : body_start source ≡ Some start
  pub body : ParsesBody start (drop start source) t

-- The fault of a body, seen in a source in which so many bytes are before it.
abbrev pub moved : ℕ → TemplateError → TemplateError
moved base e = record { kind = e.kind; place = base + e.place }

-- The first fault of a source whose body begins there.
abbrev pub fault_from : List ℕ → Option ℕ → Option TemplateError
fault_from source None = Some (record { kind = BadFront; place = 0 })
fault_from source (Some base) = option_map (moved base) (body_fault (drop base source))

-- The first fault of a source: that of its front, or else of its body.
unfoldable pub fault : List ℕ → Option TemplateError
fault source = fault_from source (body_start source)

-- The answer is this tree, unless it ran out of memory.
abbrev pub IsRead : Result Template TemplateError → Tree → Type 0
IsRead result t = MatchResult result (λ template. tree_in template.nodes ≡ t) (λ e. e.kind ≡ Memory)

-- The answer is this fault, unless it ran out of memory.
abbrev pub IsRefused : {T : Type 0} → Result T TemplateError → TemplateError → Type 0
IsRefused result fault = MatchResult result (λ _. ⊥) (λ e. e.kind ≢ Memory → e ≡ fault)
