use Rattle.std.proofs.Common.{rules, ◌≡◌, ◌≢◌, Err}
use Rattle.serde_json.specs.View.{view}
use Rattle.json_trees.specs.Scalar.{scalar_of}
use Rattle.json_trees.specs.declared.scalar_error.ScalarError.TheVariants.{Memory}
use Rattle.json_trees.proofs.Values.{scalar_of-Array}
use Rattle.json_trees.proofs.reading.scalar_of.Goals as goal

pub returns-in-Array-clause-ok : goal.returns-in-Array-clause-ok
returns-in-Array-clause-ok c = scalar_of-Array c.args.value c.in-Array.values _ c.in-Array.is c.in_ok-items_of-in-Array.ensures.ok

pub returns-in_err-items_of-in-Array-clause-err :
    goal.returns-in_err-items_of-in-Array-clause-err
returns-in_err-items_of-in-Array-clause-err c =
    let e = c.in_err-items_of-in-Array.field-0.0 in
    let refused : e ≢ Memory → scalar_of (view c.args.value) ≡ Err e =
    λ other. scalar_of-Array c.args.value c.in-Array.values (Err e) c.in-Array.is (c.in_err-items_of-in-Array.ensures.err other) in
    search (rules, refused)
