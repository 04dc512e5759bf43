use Rattle.std.proofs.Common.{◌<◌, ℕ, length, get_or, subst}
use Rattle.typed_settings.specs.Pattern.{Meet}
use Rattle.typed_settings.specs.declared.row.Row.{Row}
use Rattle.typed_settings.proofs.Meetings.{more_apart, all_apart}
use Rattle.typed_settings.proofs.meeting.least_of_all.Goals as goal

pub loop-second-preserved : goal.loop-second-preserved
loop-second-preserved c =
    more_apart c.args.rows.now c.loop-second.second c.index-rows-second.result c.loop-second-test.true c.index-rows-second.is c.loop-second.invariant
    (subst (λ before. (i : ℕ) (d : Row) → i < length before → Meet (get_or before i d).pattern c.index-rows-second.result.pattern → ⊥) c.split_at.ensures.front
    (c.first_meeting.ensures.none c.in_default.is))

pub returns-clause-none : goal.returns-clause-none
returns-clause-none c = λ _. all_apart c.args.rows.now c.loop-second.second c.loop-second-test.false c.loop-second.invariant
