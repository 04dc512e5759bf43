use Rattle.std.proofs.Common.{◌≡◌, ◌∷◌, take, IsTrue}
use Rattle.key_names.specs.Key.{is_key}
use Rattle.model_file.proofs.key_path.key_of.Given as goal

abbrev pub invariant-loop-name : goal.invariant-loop-name
invariant-loop-name l = (l.key ≡ l.first ∷ take l.name-index l.names) × IsTrue (is_key l.key)
