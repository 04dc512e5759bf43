-- The spans of a tree, in order.
use Rattle.std.specs.Prelude.{ℕ, ◌≤◌, ◌<◌, List, [], ◌∷◌, ◌++◌}
use Rattle.template_reader.specs.Tree.{Tree, Branch, done, node, text, print, block}
use Rattle.template_reader.specs.declared.span.Span.{Span}

-- The spans of the texts, those of a block's first part before those of its other.
abbrev mutual
  pub spans_of : Tree → List Span
  spans_of done = []
  spans_of (node b t) = spans_in b ++ spans_of t

  pub spans_in : Branch → List Span
  spans_in (text s) = s ∷ []
  spans_in (print e) = []
  spans_in (block h first other) = spans_of first ++ spans_of other

-- The spans lie between two places, each with a byte at least and after the one before it.
abbrev pub RiseWithin : ℕ → List Span → ℕ → Type 0
RiseWithin low [] high = low ≤ high
RiseWithin low (s ∷ ss) high = (low ≤ s.start) × (s.start < s.end) × RiseWithin s.end ss high
