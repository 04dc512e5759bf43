use Rattle.std.proofs.Common.{rules, ◌≡◌, Ok}
use Rattle.json_trees.specs.Scalar.{scalar_read}
use Rattle.fs_datastore.proofs.Readings.{meta_rules, meta_read}
use Rattle.fs_datastore.proofs.found.Found.read_meta.Goals as goal

pub returns : goal.returns
returns c =
    let reads : scalar_read c.args.bytes.now ≡ Ok c.in-Some.value = search rules in (
      meta_rules c.args.self.now c.args.key c.args.name c.in-Some.value c.put.new.self c.requires.valid c.in_ok-put.ensures.ok,
      λ others says. meta_read
          c.args.self.now others c.args.bytes.now says c.args.key c.args.name c.in-Some.value c.put.new.self c.requires.valid reads c.in_ok-put.ensures.ok,
    )
