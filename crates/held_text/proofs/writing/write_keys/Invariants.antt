use Rattle.std.proofs.Common.{[], ◌∷◌, IsTrue, drop}
use Rattle.key_names.specs.Key.{is_key}
use Rattle.held_text.specs.HeldText.{key_data}
use Rattle.held_text.proofs.HeldWalks.{Writing}
use Rattle.held_text.proofs.writing.write_keys.Given as goal

-- The keys before this one are written.
abbrev pub invariant-loop-key : goal.invariant-loop-key
invariant-loop-key l = Writing (λ e. e ∷ []) key_data (λ key. IsTrue (is_key key)) l.key-items (drop l.key-index l.key-items) l.initial.writer l.writer
