use Rattle.std.proofs.Common.{map, ap, ◌∙◌}
use Rattle.serde_json.specs.View.{view}
use Rattle.host_client.proofs.Listed.{items_are}
use Rattle.host_client.proofs.members.items_in.Goals as goal

pub returns-in-Some : goal.returns-in-Some
returns-in-Some c = ap (map view) c.as_slice.ensures.value ∙ items_are (view c.args.value.now) c.in-Some.items.now.items c.in-Some.ensures
