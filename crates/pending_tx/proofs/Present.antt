-- What a transaction has pending.
use Rattle.std.proofs.Common.{◌≡◌, ℕ, List, [], Option, Some, None, unwrap_or, sym, ◌∙◌, ap}
use Rattle.std.specs.FinMap.{FinMap, empty, entries, get, len-empty, len-entries}
use Rattle.std.proofs.lemmas.List.{nil_from_length}
use Rattle.key_names.specs.Order.{bytes_cmp, key_cmp}
use Rattle.json_trees.specs.declared.pending.Pending.{Pending}
use Rattle.settings_maps.specs.Maps.{inner}

-- What a transaction has that is there.
pub has_values : (m : FinMap bytes_cmp (FinMap key_cmp Pending)) (tx : List ℕ) (i : FinMap key_cmp Pending) → Some i ≡ get m tx → i ≡ inner m tx
has_values m tx i is = ap (λ (o : Option (FinMap key_cmp Pending)). unwrap_or o empty) is

-- One that is missing has nothing.
pub has_none : (m : FinMap bytes_cmp (FinMap key_cmp Pending)) (tx : List ℕ) → None ≡ get m tx → entries (inner m tx) ≡ []
has_none m tx missing = ap (λ (o : Option (FinMap key_cmp Pending)). entries (unwrap_or o empty)) (sym missing)
    ∙ nil_from_length _ (sym (len-entries (empty {X = Pending} {R = key_cmp})) ∙ len-empty key_cmp Pending)
