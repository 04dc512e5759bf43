use Rattle.std.proofs.lemmas.Result.{on_ok_weaker}
use Rattle.json_trees.proofs.Lists.{written_array}
use Rattle.json_trees.proofs.writing.write_scalar.Goals as goal

pub returns-in_ok-write_items-in-List-clause-tokens :
    goal.returns-in_ok-write_items-in-List-clause-tokens
returns-in_ok-write_items-in-List-clause-tokens c =
    rw (c.in-List.is, ← c.as_slice.ensures)
    (on_ok_weaker c.end_array.result
    (λ e. written_array c.as_slice.result.now _ _ _ _ c.in_ok-begin_array-in-List.ensures.ok c.in_ok-write_items-in-List.ensures.tokens e)
    c.end_array.ensures.ok)
