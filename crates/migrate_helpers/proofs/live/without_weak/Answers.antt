use Rattle.std.proofs.Common.{◌∙◌}
use Rattle.migrate_helpers.proofs.Weakness.{strong_made, strong_content}
use Rattle.migrate_helpers.proofs.live.without_weak.Goals as goal

pub of-requires : goal.of-requires
of-requires c = strong_content c.args.content.now _ c.metadata.ensures.valid
    (strong_made c.args.content.now c.remove_keys.new.map c.in_ok-values.values c.in_ok-metadata.metadata c.as_slice.result.now c.new.result
    c.metadata.ensures.valid
    (c.in_ok-values.ensures ∙ c.values.ensures.values) (c.as_slice.ensures.items ∙ c.weak-weak.ensures.weak) c.remove_keys.ensures
    (c.in_ok-metadata.ensures ∙ c.metadata.ensures.metadata) c.new.ensures)
