use Rattle.std.proofs.Common.{◌≡◌, codes, Some, option_map, sym, ap, ◌∙◌}
use Rattle.std.proofs.lemmas.Bool.{false≢true}
use Rattle.toml.specs.Data.{get_member}
use Rattle.toml.specs.View.{view, table_view}
use Rattle.release_file.specs.Checks.{version_check, is_version}
use Rattle.release_file.proofs.Checking.{refuses_first}
use Rattle.release_file.proofs.document.check_version.Goals as goal

pub returns-else-branch-clause-refused : goal.returns-else-branch-clause-refused
returns-else-branch-clause-refused c =
    let there : get_member (codes "version") (table_view c.args.document.now) ≡ Some (view c.in-Some.value.now) = sym c.field.ensures
    ∙ ap (option_map (λ x. view x.now)) c.in-Some.is in
    refuses_first (version_check (table_view c.args.document.now)) _ c.refused.result
    (λ holds. false≢true (sym c.if-branch.false ∙ c.in_ok-is_version.ensures ∙ sym (ap is_version there) ∙ holds)) c.refused.ensures
