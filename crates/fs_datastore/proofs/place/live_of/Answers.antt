use Rattle.key_names.proofs.Segments.{empty_list}
use Rattle.fs_datastore.proofs.PlaceFiles.{no_live_names}
use Rattle.fs_datastore.proofs.place.live_of.Goals as goal

pub returns-in_default : goal.returns-in_default
returns-in_default c = record { found = no_live_names c.args.names.now (empty_list c.args.names.now c.in_default.ensures.cases) }
