use Rattle.std.proofs.Common.{rules, ◌≡◌, true, false}
use Rattle.std.specs.List.{list_any}
use Rattle.settings_maps.specs.KeyList.{has_key}
use Rattle.settings_maps.proofs.KeySets.{without_same, without_less}
use Rattle.pending_tx.proofs.owing.weak_entry.Goals as goal

pub returns-then-not-contains_any-clause-told : goal.returns-then-not-contains_any-clause-told
returns-then-not-contains_any-clause-told c =
    let none : list_any (has_key c.args.weak.now) c.args.keys.now ≡ false = search rules in
    without_same c.args.weak.now c.args.keys.now c.contains_any.ensures.rising none

pub returns-clause-told : goal.returns-clause-told
returns-clause-told c =
    let some : list_any (has_key c.args.weak.now) c.args.keys.now ≡ true = search rules in
    (search rules, without_less c.args.weak.now c.args.keys.now some)
