use Rattle.std.proofs.Common.{rules}
use Rattle.fs_datastore.specs.Values.{Spells, owed}
use Rattle.fs_datastore.proofs.Readings.{owed_rules, owed_read}
use Rattle.fs_datastore.proofs.found.Found.read_owed.Goals as goal

pub returns-in-Some : goal.returns-in-Some
returns-in-Some c =
    let reads : Spells c.args.bytes.now (owed c.in-Some.owed) = search rules in
    (owed_rules c.args.self.now c.in-Some.owed, λ others says. owed_read c.args.self.now others c.args.bytes.now says c.in-Some.owed reads)
