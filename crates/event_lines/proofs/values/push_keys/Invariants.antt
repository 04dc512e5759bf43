use Rattle.std.proofs.Common.{◌≡◌, ◌++◌, map, take, string_bytes}
use Rattle.std.specs.Prelude.{codes}
use Rattle.std.specs.List.{flat_map}
use Rattle.key_names.specs.Key.{printed}
use Rattle.event_lines.proofs.values.push_keys.Given as goal

-- The keys before this one are there.
abbrev pub invariant-loop-key : goal.invariant-loop-key
invariant-loop-key l = string_bytes l.text
    ≡ string_bytes l.initial.text ++ flat_map (λ t. codes "," ++ t) (map printed (take l.key-index l.keys))
