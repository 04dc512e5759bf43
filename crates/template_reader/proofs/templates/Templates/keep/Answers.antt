use Rattle.std.proofs.Common.{◌≡◌, ℕ, Vec, Global, rules}
use Rattle.template_reader.specs.declared.kept.Kept.{Kept}
use Rattle.template_reader.proofs.Keeping.{found_after}
use Rattle.template_reader.proofs.templates.Templates.keep.Goals as goal

pub returns-clause-ok : goal.returns-clause-ok
returns-clause-ok c =
    let same : c.in_ok-name.name.items ≡ c.args.file.now = search rules in
    λ name. found_after {K = Vec ℕ Global} {X = Kept} (λ k. k.items) (λ k. k.source) name c.args.file.now c.args.self.now.kept.entries c.insert.new.self.entries
    c.in_ok-name.name _ c.in_ok-insert.ensures.entries same
