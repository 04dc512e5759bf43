use Rattle.std.proofs.Common.{◌≡◌, ◌++◌, map}
use Rattle.load_input.specs.Numbers.{below}
use Rattle.load_input.specs.Requests.{commit_of}
use Rattle.load_input.proofs.request_bytes.push_commits.Given as goal

-- the commits so far come after what was there
abbrev pub invariant-loop-tx : goal.invariant-loop-tx
invariant-loop-tx l = l.out.items ≡ l.fn.out.items ++ map commit_of (below l.tx)
