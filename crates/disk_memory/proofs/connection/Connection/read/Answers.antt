use Rattle.std.proofs.Common.{refl, rules}
use Rattle.disk_memory.specs.Incoming.{next_of, left_of}
use Rattle.disk_memory.proofs.PieceLemmas.{end_heard}
use Rattle.disk_memory.proofs.connection.Connection.read.Goals as goal

pub returns-clause-heard : goal.returns-clause-heard
returns-clause-heard c =
    let old = c.args.self.now.incoming in
    record {
      split = c.read.ensures.left;
      heard = c.read.ensures.heard;
      end = end_heard c.read.new.room (next_of old) (left_of old) c.read.result (search rules) c.read.ensures.count c.read.ensures.end;
      written = refl;
      failed = refl;
    }
