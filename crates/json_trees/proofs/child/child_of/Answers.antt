use Rattle.std.proofs.Common.{[], ◌∷◌, ◌++◌, sym, ap, ◌∙◌}
use Rattle.key_names.proofs.ChildFaults.{refused_no_key}
use Rattle.key_names.specs.Key.{is_key}
use Rattle.json_trees.specs.Tree.{path_of}
use Rattle.json_trees.proofs.Names.{bad_key}
use Rattle.json_trees.proofs.child.child_of.Goals as goal

pub returns-in-Err-clause-err : goal.returns-in-Err-clause-err
returns-in-Err-clause-err c other =
    let bad = bad_key c.in-Err.e.kind c.refusal_of.result c.refusal_of.ensures other in
    let path = path_of c.args.under in (
      bad.0,
      ap (λ name. is_key (path ++ name ∷ [])) (sym c.as_bytes.ensures.value) ∙ refused_no_key path c.as_bytes.result.now c.in-Err.e.kind c.in-Err.e.place
          (c.in-Err.ensures.refused bad.1),
    )
