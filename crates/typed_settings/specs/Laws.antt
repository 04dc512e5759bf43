-- What follows of tables as a whole.
use Rattle.std.specs.Prelude.{◌≡◌, ℕ, List}
use Rattle.typed_settings.specs.Order.{IsTable}
use Rattle.typed_settings.specs.Row.{IsTableOf}
use Rattle.typed_settings.specs.declared.row.Row.{Row}

-- Two tables of the same texts are one, row for row.
abbrev pub MakeOneTable : Type 0
MakeOneTable = (texts : List (List ℕ × List ℕ)) (one other : List Row) → IsTable one → IsTable other → IsTableOf texts one → IsTableOf texts other → one ≡ other
