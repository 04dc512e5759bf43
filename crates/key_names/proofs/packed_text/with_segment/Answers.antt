use Rattle.std.proofs.Common.{List, ℕ, ◌++◌, ◌∙◌, ap}
use Rattle.key_names.specs.Packed.{segments_of, longer}
use Rattle.key_names.proofs.Packed.{segments_of-longer}
use Rattle.key_names.proofs.packed_text.with_segment.Goals as goal

pub returns : goal.returns
returns c =
    let text = c.args.text.now in
    let segment = c.args.segment.now in
    ap segments_of (
    c.of.ensures
    ∙ c.in_ok-push.ensures
    ∙ ap (λ (t : List ℕ). longer t segment) (c.in_ok-push_str.ensures.bytes ∙ ap (λ (t : List ℕ). t ++ text) c.in_ok-more.ensures.bytes)
    )
    ∙ segments_of-longer text segment c.requires
