use Rattle.std.proofs.Common.{[], ◌∷◌, ◌++◌, sym, ap, ◌∙◌}
use Rattle.key_names.proofs.ChildFaults.{refused_no_key}
use Rattle.key_names.specs.Key.{is_key}
use Rattle.user_data.proofs.place.child_of.Goals as goal

pub returns-in_default : goal.returns-in_default
returns-in_default c =
    ap (λ n. is_key (c.args.under.now ++ n ∷ [])) (sym c.as_bytes.ensures.value) ∙ refused_no_key c.args.under.now c.as_bytes.result.now _ _
    (c.in-Err.ensures.refused c.in_default.not-Memory)
