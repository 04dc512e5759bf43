use Rattle.settings_maps.proofs.SortedEntries.{place_found, place_missing}
use Rattle.settings_maps.proofs.named_values.place_above.Goals as goal

pub returns-in-Ok : goal.returns-in-Ok
returns-in-Ok c = place_found c.args.entries.now c.args.name.now c.in-Ok.index c.requires c.in-Ok.ensures.found

pub returns-in-Err : goal.returns-in-Err
returns-in-Err c = place_missing c.args.entries.now c.args.name.now c.in-Err.index c.in-Err.ensures.missing
