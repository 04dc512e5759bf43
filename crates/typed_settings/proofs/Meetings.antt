-- Rows that meet, one row after another.
use Rattle.std.proofs.Common.{◌≡◌, ℕ, ◌+◌, ◌<◌, ◌≤◌, List, [], ◌∷◌, ◌++◌, length, get_or, take, sym, ◌∙◌, ap, subst}
use Rattle.std.proofs.lemmas.List.{take_all, take_more}
use Rattle.std.proofs.lemmas.List.Quantifiers.{all_pairs_push}
use Rattle.typed_settings.specs.Pattern.{Meet}
use Rattle.typed_settings.specs.Row.{AreApart}
use Rattle.typed_settings.specs.declared.row.Row.{Row}

-- A row that none before it meets is apart from them too.
pub more_apart : (rows : List Row) (second : ℕ) (row : Row) → second < length rows → row ≡ get_or rows second row → AreApart (take second rows)
    → ((i : ℕ) (d : Row) → i < length (take second rows) → Meet (get_or (take second rows) i d).pattern row.pattern → ⊥) → AreApart (take (second + 1) rows)
more_apart rows second row within is apart none =
    let grown : take (second + 1) rows ≡ take second rows ++ row ∷ [] = take_more rows second row within ∙ ap (λ x. take second rows ++ x ∷ []) (sym is) in
    subst AreApart (sym grown) (all_pairs_push (λ a b. Meet a.pattern b.pattern → ⊥) (take second rows) row apart none)

-- Where the loop is through, no two rows meet.
pub all_apart : (rows : List Row) (second : ℕ) → length rows ≤ second → AreApart (take second rows) → AreApart rows
all_apart rows second through apart = subst AreApart (take_all second rows through) apart
