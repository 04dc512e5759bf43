use Rattle.std.proofs.Common.{arith}
use Rattle.load_input.specs.Requests.{commit_of}
use Rattle.load_input.proofs.Counting.{made_more}
use Rattle.load_input.proofs.request_bytes.push_commits.Goals as goal

pub loop-tx-preserved : goal.loop-tx-preserved
loop-tx-preserved c = grind (arith, made_more commit_of c.args.out.now.items c.loop-tx.tx)
