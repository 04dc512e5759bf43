use Rattle.std.proofs.Common.{◌≡◌, take}
use Rattle.std.specs.FinMap.{get}
use Rattle.api_core.specs.Gathered.{gathered}
use Rattle.api_core.proofs.settings_at.gather.Given as goal

abbrev pub invariant-loop-key : goal.invariant-loop-key
invariant-loop-key l = l.map ≡ gathered (λ key. get l.live.values key) (take l.key-index l.keys)
