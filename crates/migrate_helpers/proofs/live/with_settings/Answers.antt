use Rattle.std.proofs.Common.{◌∙◌}
use Rattle.migrate_helpers.proofs.Weakness.{content_made}
use Rattle.migrate_helpers.proofs.live.with_settings.Goals as goal

pub of-requires : goal.of-requires
of-requires c = content_made c.args.settings c.args.content.now c.in_ok-values.values c.in_ok-metadata.metadata c.in_ok-weak.weak c.metadata.ensures.valid
    c.requires.rule c.requires.weak c.in_ok-values.ensures (c.in_ok-metadata.ensures ∙ c.metadata.ensures.metadata) c.in_ok-weak.ensures
