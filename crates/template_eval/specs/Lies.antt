-- The spans of a tree lie in the source, and how large a tree is: for private clauses.
use Rattle.std.specs.Prelude.{◌≤◌, ℕ, ◌+◌}
use Rattle.template_reader.specs.Tree.{Tree, Branch, done, node, text, print, block}

-- The spans of the texts lie within so many bytes.
abbrev mutual
  pub Lies : ℕ → Tree → Type 0
  Lies n done = Unit {0}
  Lies n (node b t) = LiesOne n b × Lies n t

  pub LiesOne : ℕ → Branch → Type 0
  LiesOne n (text s) = (s.start ≤ s.end) × (s.end ≤ n)
  LiesOne n (print e) = Unit {0}
  LiesOne n (block h first other) = Lies n first × Lies n other

-- How large a tree is.
abbrev mutual
  pub size : Tree → ℕ
  size done = 0
  size (node b t) = 2 + size_one b + size t

  pub size_one : Branch → ℕ
  size_one (text s) = 0
  size_one (print e) = 0
  size_one (block h first other) = 4 + size first + size other
