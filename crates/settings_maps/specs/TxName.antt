-- Names of transactions, and of metadata.
use Rattle.std.specs.Prelude.{ℕ, Bool, ◌&&◌, nat_lt, nat_le, List, length}
use Rattle.std.specs.List.{list_all}
use Rattle.key_names.specs.Segment.{is_bare}

-- One or more bare characters, and no more than this number of them.
abbrev pub is_name : ℕ → List ℕ → Bool
is_name most bytes = (nat_lt 0 (length bytes) && nat_le (length bytes) most) && list_all is_bare bytes

-- A transaction's name has 1 to 64 bare characters.
abbrev pub is_tx_name : List ℕ → Bool
is_tx_name bytes = is_name 64 bytes

-- A metadata name has 1 to 127 bare characters.
abbrev pub is_meta_name : List ℕ → Bool
is_meta_name bytes = is_name 127 bytes
