use Rattle.std.proofs.Common.{List, [], sym, subst, map}
use Rattle.std.specs.List.Sorted.{IsStrictlySortedBy}
use Rattle.key_names.specs.Order.{bytes_cmp}
use Rattle.settings_tree.specs.declared.os.OsName.{OsName}
use Rattle.rows_templates.proofs.rendering.no_names.Goals as goal

-- No names rise.
none : IsStrictlySortedBy bytes_cmp (map (λ (m : OsName). m.name) [])
unfolding IsStrictlySortedBy
none = tt

pub of-requires : goal.of-requires
of-requires c =
    let P : List OsName → Type 0 = λ l. IsStrictlySortedBy bytes_cmp (map (λ (m : OsName). m.name) l) in
    subst P (sym c.new.ensures.items) none
