use Rattle.std.proofs.Common.{◌≡◌, drop}
use Rattle.outside.specs.Spawner.{texts}
use Rattle.host_client.specs.Steps.{after_each}
use Rattle.host_client.proofs.next.after_each.Given as goal

-- the keys and replies that are left decide
abbrev pub invariant-loop-key : goal.invariant-loop-key
invariant-loop-key l = after_each (texts (drop l.key-index l.keys)) l.rest l.replies ≡ after_each (texts l.keys) l.replies l.replies
