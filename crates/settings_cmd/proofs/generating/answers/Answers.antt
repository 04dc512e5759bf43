use Rattle.std.proofs.Common.{Ok, Err, refl}
use Rattle.settings_cmd.proofs.Making.{hands_of, hands_no_disk, spawn_answered, spawn_told}
use Rattle.settings_cmd.proofs.SettingKeys.{pairs_begin}
use Rattle.settings_cmd.proofs.generating.answers.Goals as goal

pub returns-in-Ok-clause-answers : goal.returns-in-Ok-clause-answers
returns-in-Ok-clause-answers g c = record { generated = Ok c.in-Ok.pairs.items; asks = c.in-Ok.ensures.asked; hands = refl }

pub returns-in-Err-clause-answers : goal.returns-in-Err-clause-answers
returns-in-Err-clause-answers g c = record { generated = Err c.in-Err.error; asks = c.in-Err.ensures.asked; hands = c.refused.ensures }

pub returns-in-Ok-clause-settings : goal.returns-in-Ok-clause-settings
returns-in-Ok-clause-settings g c =
    let asks = c.in-Ok.ensures.asked in
    pairs_begin c.args.live.now c.args.generators.now asks.questions c.in-Ok.pairs.items c.requires.settings asks.outcome

pub returns-in-Err-clause-of_generating : goal.returns-in-Err-clause-of_generating
returns-in-Err-clause-of_generating g c = hands_of c.in-Err.error c.refused.result c.refused.ensures

pub returns-in-Err-clause-no_disk : goal.returns-in-Err-clause-no_disk
returns-in-Err-clause-no_disk g c = hands_no_disk c.in-Err.error c.refused.result c.refused.ensures

pub returns-in-Ok-clause-spawn : goal.returns-in-Ok-clause-spawn
returns-in-Ok-clause-spawn g c = spawn_answered c.in-Ok.pairs c.in-Ok.pairs _ _ c.in-Ok.ensures.cause

pub returns-in-Err-clause-spawn : goal.returns-in-Err-clause-spawn
returns-in-Err-clause-spawn g c = spawn_told _ _ c.in-Err.error c.refused.result c.refused.ensures c.in-Err.ensures.cause
