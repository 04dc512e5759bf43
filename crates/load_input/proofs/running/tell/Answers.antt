use Rattle.std.proofs.Common.{◌≡◌, ◌∙◌, ap}
use Rattle.std.specs.Prelude.{map}
use Rattle.std.proofs.lemmas.Result.{IfOk-weaker}
use Rattle.outside.proofs.Told.{moves_map}
use Rattle.disk_memory.specs.Asked.{run_of}
use Rattle.load_input.specs.Requests.{requests_of}
use Rattle.load_input.specs.Counted.{ran}
use Rattle.load_input.proofs.Runs.{counted_from, all_counted}
use Rattle.load_input.proofs.running.tell.Goals as goal

pub returns : goal.returns
returns g c =
    let bytes = c.as_slice.result.now in
    let same : bytes ≡ requests_of c.args.count = c.as_slice.ensures.value ∙ c.in_ok-requests.ensures in
    IfOk-weaker c.lines.result _ _
    (λ text is. moves_map
    (λ old new counted. record {
      counts = c.serve.new.counts;
      runs = ran c.serve.new.spawner;
      counted = counted_from bytes (requests_of c.args.count) c.args.core.now c.serve.new.core c.none-counts.result c.serve.new.counts
          (ran c.of_statuses-spawner.result)
          (ran c.serve.new.spawner) old new same c.none-counts.ensures (ap (map run_of) c.of_statuses-spawner.ensures.runs) counted;
      idle = c.in_ok-serve.ensures.still;
      requests = all_counted bytes (requests_of c.args.count) c.none-counts.result c.serve.new.counts same c.none-counts.ensures c.in_ok-serve.ensures.all;
      lines = is;
    })
    c.in_ok-serve.ensures.counted)
    c.lines.ensures
