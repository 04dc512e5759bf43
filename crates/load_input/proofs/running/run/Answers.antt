use Rattle.std.proofs.lemmas.Result.{IfOk-weaker}
use Rattle.disk_memory.specs.Disk.{history_of}
use Rattle.load_input.proofs.running.run.Goals as goal

pub returns : goal.returns
returns c =
    IfOk-weaker c.tell.result _ _
    (λ text tells. record {
      start = history_of c.in_ok-disk.disk;
      opened = history_of c.open_first.new.disk;
      finished = history_of c.tell.new.disk;
      first = c.in_ok-core.core;
      last = c.tell.new.core;
      image = c.in_ok-disk.ensures;
      starts = c.in_ok-core.ensures.starts.told;
      tells = tells.told;
    })
    c.tell.ensures
