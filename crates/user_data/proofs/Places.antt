-- The places of entries.
use Rattle.std.proofs.Common.{◌≡◌, ◌<◌, ℕ, List, [], ◌∷◌, ◌++◌, length, length-append, false, Err, refl, sym, ap, ◌∙◌, arith}
use Rattle.key_names.specs.Key.{is_key}
use Rattle.user_data.specs.Pairs.{Path, Pairs, where_key, fault_at, printed_path}
use Rattle.user_data.specs.declared.user_data_error.UserDataKind.TheVariants.{BadKey}
use Rattle.toml_values.proofs.Joins.{join_push}

below : (path : Path) (name : List ℕ) → 0 < length path → printed_path (path ++ name ∷ []) ≡ printed_path path ++ 47 ∷ name
below [] name some = absurd (omega arith)
below (first ∷ names) name some = join_push 47 first names name

-- The place of an entry is that of the table with a slash and its name.
pub place_is : (path key : Path) (at place name : List ℕ) → 0 < length path → at ≡ printed_path path → key ≡ path ++ name ∷ [] → place ≡ at ++ 47 ∷ name
    → place ≡ printed_path key
place_is path key at place name some is same there = there ∙ ap (λ (l : List ℕ). l ++ 47 ∷ name) is ∙ sym (below path name some) ∙ ap printed_path (sym same)

-- A key that goes on has a segment.
pub some_names : (path key : Path) (name : List ℕ) → key ≡ path ++ name ∷ [] → 0 < length key
some_names path key name same = omega (arith, ap length same, length-append path (name ∷ []))

-- Names that are no key are refused at their place.
pub no_key : (path : Path) (place : List ℕ) (pairs : Pairs) → is_key path ≡ false → place ≡ printed_path path
    → where_key path pairs ≡ Err (fault_at BadKey place)
no_key path place pairs none at = rw (none, at) refl
