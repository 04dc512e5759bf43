use Rattle.std.proofs.Common.{◌++◌, ◌∷◌, [], ℕ, List, ap, ◌∙◌, arith}
use Rattle.std.specs.Prelude.{slice_index_or}
use Rattle.key_names.specs.Key.{is_key}
use Rattle.template_eval.specs.Place.{in_tree}
use Rattle.template_eval.proofs.LongerKeys.{child_is_key, is_child, of_os}
use Rattle.template_eval.proofs.places.child_at.Goals as goal

pub returns-then-len-clause-leads : goal.returns-then-len-clause-leads
returns-then-len-clause-leads c =
    ap in_tree (is_child c.args.parent.now c.args.key.now c.requires.begins (omega (arith, c.if-len.true, c.len.ensures.count, c.len-2.ensures.count)))

pub returns-then-len-clause-kept : goal.returns-then-len-clause-kept
returns-then-len-clause-kept c content stands = record {
  outside = of_os c.args.parent.now c.args.key.now c.requires.begins c.len-2.ensures.valid ∙ c.requires.outside;
  stands = stands;
}

pub child_key-requires : goal.child_key-requires
child_key-requires c =
    ap (λ (name : List ℕ). is_key (c.args.parent.now ++ name ∷ [])) (c.segment.ensures.bytes
    ∙ ap (λ n. slice_index_or c.args.key.now n []) c.len-3.ensures.count)
    ∙ child_is_key c.args.parent.now c.args.key.now c.requires.begins c.requires.longer c.len.ensures.valid
