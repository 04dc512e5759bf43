use Rattle.std.proofs.Common.{rules, ◌≡◌, Ok}
use Rattle.json_trees.specs.Scalar.{scalar_read}
use Rattle.settings_tree.specs.Rule.{Fits, Clashes}
use Rattle.fs_datastore.proofs.Readings.{value_rules, value_read}
use Rattle.fs_datastore.proofs.Refusals.{clash_live}
use Rattle.fs_datastore.proofs.found.Found.read_value.Goals as goal

pub returns-then-not-fits : goal.returns-then-not-fits
returns-then-not-fits c =
    let clash : Clashes c.args.self.now.values c.args.key = search rules in
    λ others says t. clash_live c.args.self.now others c.args.bytes.now says c.args.key clash t

pub returns : goal.returns
returns c =
    let reads : scalar_read c.args.bytes.now ≡ Ok c.in-Some.value = search rules in
    let fits : Fits c.args.self.now.values c.args.key = search rules in (
      value_rules c.args.self.now c.args.key c.in-Some.value c.put.new.self fits c.in_ok-put.ensures.ok,
      λ others says. value_read c.args.self.now others
          c.args.bytes.now says c.args.key c.in-Some.value c.put.new.self c.requires.valid reads fits c.in_ok-put.ensures.ok,
    )
