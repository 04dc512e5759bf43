use Rattle.std.proofs.Common.{rules, ◌≡◌, ℕ, List, sym, ◌∙◌, subst}
use Rattle.std.specs.Prelude.{IsTrue}
use Rattle.outside.specs.Names.{is_name}
use Rattle.fs_datastore.proofs.FileNames.{file_name-is_name}
use Rattle.fs_datastore.proofs.place_paths.push_segment.Goals as goal

pub of-requires : goal.of-requires
of-requires c =
    let same : c.in_ok-to_vec.field-0.items ≡ c.as_slice.result.now = search rules in
    subst (λ (l : List ℕ). IsTrue (is_name l)) (sym (same ∙ c.as_slice.ensures ∙ c.in_ok-name.ensures))
    (file_name-is_name c.args.segment.now c.requires.valid c.requires.short)
