use Rattle.std.proofs.Common.{rules}
use Rattle.settings_maps.specs.Maps.{inner}
use Rattle.settings_tree.specs.Rule.{Fits, Clashes}
use Rattle.fs_datastore.specs.Values.{Spells, pending}
use Rattle.fs_datastore.proofs.Readings.{pending_rules, pending_read}
use Rattle.fs_datastore.proofs.Refusals.{clash_pending}
use Rattle.fs_datastore.proofs.found.Found.read_pending.Goals as goal

pub returns-then-not-fits_transaction : goal.returns-then-not-fits_transaction
returns-then-not-fits_transaction c =
    let clash : Clashes (inner c.args.self.now.pending c.args.tx) c.args.key = search rules in
    λ others says t. clash_pending c.args.self.now others c.args.bytes.now says c.args.tx c.args.key clash t

pub returns : goal.returns
returns c =
    let reads : Spells c.args.bytes.now (pending c.in-Some.value) = search rules in
    let fits : Fits (inner c.args.self.now.pending c.args.tx) c.args.key = search rules in (
      pending_rules c.args.self.now c.args.tx c.args.key c.in-Some.value c.put.new.self fits c.in_ok-put.ensures.ok,
      λ others says. pending_read c.args.self.now
          others c.args.bytes.now says c.args.tx c.args.key c.in-Some.value c.put.new.self c.requires.valid reads fits c.in_ok-put.ensures.ok,
    )
