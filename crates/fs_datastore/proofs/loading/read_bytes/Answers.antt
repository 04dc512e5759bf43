use Rattle.std.proofs.Common.{◌-◌, length, take, drop}
use Rattle.fs_datastore.proofs.FilesRead.{node_read, rest_two}
use Rattle.fs_datastore.proofs.loading.read_bytes.Goals as goal

pub returns-in-len2-up-clause-reads : goal.returns-in-len2-up-clause-reads
returns-in-len2-up-clause-reads c =
    let names = c.names.result.now in
    node_read (take (length names - 2) (drop 2 names)) c.args.path.now c.args.bytes.items c.args.found.now c.read.new.self c.read.result
    (rest_two names c.args.path.now c.names.ensures) c.read.ensures
