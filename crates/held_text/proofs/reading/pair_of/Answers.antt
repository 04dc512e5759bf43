use Rattle.std.proofs.Common.{◌∙◌, ap}
use Rattle.held_text.specs.HeldText.{key_data}
use Rattle.held_text.proofs.Fillings.{pair_is}
use Rattle.held_text.proofs.PartReadings.{leaf_memory, leaf_same}
use Rattle.held_text.proofs.Readings.{err_reads}
use Rattle.held_text.specs.Refusals.{of_tree_error}
use Rattle.held_text.proofs.reading.pair_of.Goals as goal

pub returns-in_err-key : goal.returns-in_err-key
returns-in_err-key g c =
    err_reads _ _ _ _ c.from_residual.result c.from_residual.ensures.1
    (λ x valid is e gives. absurd (c.in_err-key.ensures.err (key_data x.0) (g.L.Leaf.written x.1) is))

pub returns-in_err-key-2 : goal.returns-in_err-key-2
returns-in_err-key-2 g c =
    err_reads _ _ _ _ c.from_residual-in_err-key-2.result c.from_residual-in_err-key-2.ensures.1
    (λ x valid is e gives. gives ∙ c.in_err-key-2.ensures.finds x.0 valid.0 (c.in_ok-key.ensures.ok (key_data x.0) (g.L.Leaf.written x.1) is).0)

pub returns-in_err-leaf : goal.returns-in_err-leaf
returns-in_err-leaf g c =
    err_reads _ _ _ _ c.from_residual-in_err-leaf.result c.from_residual-in_err-leaf.ensures.1
    (λ x valid is e gives.
    gives ∙ ap of_tree_error (leaf_memory g.L.Leaf.leaf g.L.Leaf.written _ x.1 _ valid.1 (c.in_ok-key.ensures.ok (key_data x.0) (g.L.Leaf.written x.1) is).1
    c.in_err-leaf.ensures.err))

pub returns : goal.returns
returns g c = record {
  finds = λ x valid is.
      let both = c.in_ok-key.ensures.ok (key_data x.0) (g.L.Leaf.written x.1) is in
      pair_is _ _ x (c.in_ok-key-2.ensures.finds x.0 valid.0 both.0) (leaf_same g.L.Leaf.leaf g.L.Leaf.written _ x.1 _ valid.1 both.1 c.in_ok-leaf.ensures.ok);
}
