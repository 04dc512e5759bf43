use Rattle.outside.proofs.Told.{where_map}
use Rattle.store_image.proofs.TemplatePaths.{are_short, sources_read, only, each}
use Rattle.store_image.proofs.Wholes.{bad_of_paths}
use Rattle.store_image.proofs.reading.sources_of.Goals as goal

pub read_sources-requires : goal.read_sources-requires
read_sources-requires g c = are_short c.args.manifest.now c.in_ok-paths.paths c.in_ok-paths.ensures c.requires.0 c.requires.1

pub returns-clause-read : goal.returns-clause-read
returns-clause-read g c = sources_read c.args.manifest.now c.in_ok-paths.paths c.in_ok-paths.ensures c.read_sources.result c.read_sources.ensures.at
    c.read_sources.ensures.faultless

pub returns-clause-bad : goal.returns-clause-bad
returns-clause-bad g c file kind at is =
    let m = c.args.manifest.now in
    let paths = c.in_ok-paths.paths in
    where_map (λ h bad. bad_of_paths m paths (only m paths c.in_ok-paths.ensures) (each m paths c.in_ok-paths.ensures) h file (kind, at) bad)
    (c.read_sources.ensures.bad file kind at is)
