use Rattle.std.proofs.Common.{◌≡◌, Ok, map, take}
use Rattle.setting_generators.specs.Generators.{seen}
use Rattle.setting_generators.specs.Asking.{Asks, wanted}
use Rattle.setting_generators.proofs.generators.Generators.ask_all.Given as goal

abbrev pub invariant-loop-generator : goal.invariant-loop-generator
invariant-loop-generator g l = record {
  asked : Asks (wanted l.live (map seen (take l.generator-index l.generator-items))) (g.S.Spawner.asked l.fn.spawner) (g.S.Spawner.asked l.spawner)
      (Ok l.pairs.items);
  ran : g.S.Spawner.runs l.spawner ≡ g.S.Spawner.runs l.fn.spawner;
  kept : g.S.Spawner.faults l.spawner ≡ g.S.Spawner.faults l.fn.spawner;
}
