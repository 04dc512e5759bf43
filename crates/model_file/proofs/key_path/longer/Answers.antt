use Rattle.std.proofs.Common.{◌≡◌, [], ◌∷◌, ◌++◌, false, Some, None, ap, sym, ◌∙◌}
use Rattle.std.proofs.lemmas.Bool.{cond-false}
use Rattle.key_names.proofs.ChildFaults.{refused_no_key}
use Rattle.key_names.specs.Key.{is_key}
use Rattle.model_file.proofs.key_path.longer.Goals as goal

pub returns-in_default : goal.returns-in_default
returns-in_default c =
    let none : is_key (c.args.key.now ++ c.args.name.now ∷ []) ≡ false =
    ap (λ n. is_key (c.args.key.now ++ n ∷ [])) (sym c.as_bytes.ensures.value) ∙ refused_no_key c.args.key.now c.as_bytes.result.now _ _
    (c.in-Err.ensures.refused c.in_default.not-Memory) in
    sym (cond-false _ (Some (c.args.key.now ++ c.args.name.now ∷ [])) None none)
