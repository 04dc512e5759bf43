use Rattle.std.proofs.Common.{◌≡◌, ◌++◌, codes, drop, string_bytes}
use Rattle.std.specs.List.{flat_map}
use Rattle.outside.specs.Spawner.{texts}
use Rattle.host_client.specs.Steps.{escaped}
use Rattle.host_client.proofs.target.target_of_keys.Given as goal

-- the keys that are left are to be added to the text so far
abbrev pub invariant-loop-other : goal.invariant-loop-other
invariant-loop-other l =
    string_bytes l.text ++ flat_map (λ other. codes "," ++ escaped other) (texts (drop l.other-index l.others))
    ≡ string_bytes l.initial.text ++ flat_map (λ other. codes "," ++ escaped other) (texts l.others)
