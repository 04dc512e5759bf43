-- Keys that are longer by a name.
use Rattle.std.proofs.Common.{◌≡◌, ℕ, List, [], ◌∷◌, false, Some, None, sym, arith}
use Rattle.std.specs.Prelude.{if◌then◌else◌}
use Rattle.std.proofs.lemmas.Bool.{both_ways, cond-false, false_from_ne_true}
use Rattle.json_trees.proofs.Segments.{is_key-first}
use Rattle.json_trees.proofs.LongerKeys.{none_if}
use Rattle.key_names.specs.Key.{is_key}
use Rattle.model_file.specs.Entries.{Path}

-- Where the first name is no key, it is none with names after it.
pub ends_at_once : (first : List ℕ) (names : Path) → None ≡ (if is_key (first ∷ []) then Some (first ∷ []) else None)
    → None ≡ (if is_key (first ∷ names) then Some (first ∷ names) else None)
ends_at_once first names made =
    let longer : is_key (first ∷ names) ≡ false = false_from_ne_true (is_key (first ∷ names))
    (λ whole. both_ways (is_key (first ∷ [])) (none_if _ (first ∷ []) made) (is_key-first (first ∷ []) names (omega arith) whole)) in
    sym (cond-false _ (Some (first ∷ names)) None longer)
