use Rattle.std.proofs.Common.{◌≡◌, ◌++◌, map, string_bytes}
use Rattle.metadata_links.proofs.firsts.Firsts.into_vec.Given as goal

abbrev pub invariant-loop-name : goal.invariant-loop-name
invariant-loop-name l = l.names.items ++ map (λ s. string_bytes s) l.name-iterator ≡ l.fn.self
