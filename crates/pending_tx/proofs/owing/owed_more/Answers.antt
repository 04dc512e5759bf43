use Rattle.std.proofs.Common.{rules, ◌≡◌, true, false, ap}
use Rattle.std.specs.List.{list_all}
use Rattle.settings_tree.specs.declared.entry.Owed.TheVariants as owed
use Rattle.settings_maps.specs.KeyList.{has_key, joined}
use Rattle.settings_maps.proofs.KeySets.{joined_same, joined_more}
use Rattle.pending_tx.proofs.owing.owed_more.Goals as goal

pub returns-then-contains_all : goal.returns-then-contains_all
returns-then-contains_all c =
    let all : list_all (has_key c.args.owed.now) c.args.keys.now ≡ true = search rules in
    ap owed.Keys (joined_same c.args.owed.now c.args.keys.now c.contains_all.ensures.rising c.as_slice.ensures.rising all)

pub returns : goal.returns
returns c =
    let some : list_all (has_key c.args.owed.now) c.args.keys.now ≡ false = search rules in
    (search rules, λ same. let one : joined c.args.owed.now c.args.keys.now ≡ c.args.owed.now = cc same in joined_more c.args.owed.now c.args.keys.now some one)
