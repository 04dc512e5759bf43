use Rattle.std.proofs.Common.{◌≡◌, List, [], ◌∷◌, ◌++◌, ap, ◌∙◌, subst, sym, map}
use Rattle.std.specs.List.Sorted.{IsStrictlySortedBy}
use Rattle.key_names.specs.Order.{bytes_cmp}
use Rattle.settings_tree.specs.declared.os.OsName.{OsName}
use Rattle.rows_templates.proofs.rendering.named.Goals as goal

-- A single name rises.
single : (n : OsName) → IsStrictlySortedBy bytes_cmp (map (λ (m : OsName). m.name) (n ∷ []))
unfolding IsStrictlySortedBy
single n = (tt, tt)

pub of-requires : goal.of-requires
of-requires c =
    let n : OsName = record { name = c.in_ok-name.name; text = c.in_ok-text.text } in
    let one : c.push.new.self.items ≡ n ∷ [] = c.in_ok-push.ensures.items ∙ ap (λ (l : List OsName). l ++ n ∷ []) c.new-names.ensures.items in
    let P : List OsName → Type 0 = λ l. IsStrictlySortedBy bytes_cmp (map (λ (m : OsName). m.name) l) in
    subst P (sym one) (single n)
