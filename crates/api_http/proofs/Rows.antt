-- Rows of the table, found by their index.
use Rattle.std.proofs.Common.{◌≡◌, ℕ, ◌<◌, List, ◌||◌, true, map, drop, get_or, length, ◌+◌, Bor, ap, ◌∙◌, IsTrue}
use Rattle.std.proofs.lemmas.List.{drop_more}
use Rattle.std.proofs.lemmas.Slice.Eq.{bytes_eq-Decides}
use Rattle.std.specs.Str.{bytes_eq}
use Rattle.api_http.specs.declared.route.Route.{Route}
use Rattle.api_http.specs.Routes.{has_path_in, row_of}

-- the row at this index has the path
pub path_there : (rows : List (Bor (List ℕ) × Bor (List ℕ) × Route)) (i : ℕ) (d : Bor (List ℕ) × Bor (List ℕ) × Route) (path : List ℕ) → i < length rows
    → bytes_eq (get_or rows i d).0.now path ≡ true
    → has_path_in (map row_of rows) path ≡ has_path_in (map row_of (drop i rows)) path
    → ((get_or rows i d).0.now ≡ path) × IsTrue (has_path_in (map row_of rows) path)
path_there rows i d path within same rest = (
  (bytes_eq-Decides (get_or rows i d).0.now path).0 same,
  rest ∙ ap (λ l. has_path_in (map row_of l) path) (drop_more rows i d within) ∙ ap (λ b. b || has_path_in (map row_of (drop (i + 1) rows)) path) same,
)
