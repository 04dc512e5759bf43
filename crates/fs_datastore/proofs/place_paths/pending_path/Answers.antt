use Rattle.std.proofs.Common.{rules, ◌≡◌, arith, ℕ, List, sym, ◌∙◌, subst}
use Rattle.std.specs.Prelude.{IsTrue}
use Rattle.outside.specs.Names.{is_name}
use Rattle.fs_datastore.proofs.FileNames.{bare-is_name}
use Rattle.fs_datastore.proofs.place_paths.pending_path.Goals as goal

pub of-requires : goal.of-requires
of-requires c =
    let same : c.in_ok-to_vec.field-0.items ≡ c.as_bytes.result.now = search rules in
    subst (λ (l : List ℕ). IsTrue (is_name l)) (sym (same ∙ c.as_bytes.ensures.value ∙ c.as_str.ensures.bytes))
    (bare-is_name 64 c.args.tx.now c.as_str.ensures.valid (omega arith))
