use Rattle.settings_tree.proofs.SettingKeys.{one_rises}
use Rattle.machine_replies.proofs.reading.rising.Goals as goal

pub of-one-requires : goal.of-one-requires
of-one-requires c = one_rises _ _ c.in_ok-vec.ensures.items
