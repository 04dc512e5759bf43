use Rattle.std.proofs.Common.{ℕ, List, IsSome, sym, ◌∙◌, subst}
use Rattle.std.specs.FinMap.{get}
use Rattle.coverage_report.proofs.Kept.{is_kept}
use Rattle.coverage_report.proofs.checking.check_file.Goals as goal

pub unreachable-requires : goal.unreachable-requires
unreachable-requires c =
    let manifest = c.args.image.now.manifest in
    is_kept c.args.image.now.model manifest c.args.image.now.templates c.args.image.now.text c.as_bytes-name.result.now c.args.image.now.whole
    (subst (λ (file : List ℕ). IsSome (get manifest.files file)) (sym (c.as_bytes-name.ensures.value ∙ c.as_str.ensures)) c.requires.there)
    c.in_default.ensures.none
