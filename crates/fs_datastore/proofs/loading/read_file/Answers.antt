use Rattle.std.proofs.Common.{ap, option_map}
use Rattle.fs_datastore.proofs.FilesRead.{bytes_where}
use Rattle.fs_datastore.proofs.loading.read_file.Goals as goal

pub returns-in_ok-read_bytes-in-Some-clause-reads : goal.returns-in_ok-read_bytes-in-Some-clause-reads
returns-in_ok-read_bytes-in-Some-clause-reads g c =
    bytes_where c.args.path.now c.args.found.now _ c.in-Some.bytes.items c.in_ok-read_bytes-in-Some.field-0 _ (g.D.Disk.told c.args.disk.now)
    (ap (option_map (λ v. v.items)) c.in-Some.is) c.in_ok-bytes.ensures.bytes c.in_ok-read_bytes-in-Some.ensures.reads
