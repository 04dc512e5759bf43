use Rattle.std.proofs.Common.{◌≡◌, ◌<◌, ◌++◌, take, IsTrue}
use Rattle.key_names.specs.Key.{is_key}
use Rattle.template_eval.proofs.keys.joined.Given as goal

abbrev pub invariant-loop-index : goal.invariant-loop-index
invariant-loop-index l = (l.joined ≡ l.key ++ take l.index l.names) × (0 < l.index → IsTrue (is_key l.joined))
