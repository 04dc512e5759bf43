-- The requests of a load run.
use Rattle.std.specs.Prelude.{ℕ, List, [], ◌∷◌, ◌++◌, ◌*◌, ◌%◌, ◌==◌, if◌then◌else◌, length, map, codes, decimal}
use Rattle.std.specs.List.{flat_map}
use Rattle.load_input.specs.Numbers.{below}

-- The body that sets a setting.
unfoldable pub body_of : ℕ → List ℕ
body_of i = codes "{\"load\":{\"k" ++ decimal i ++ codes "\":" ++ decimal (7919 * i % 1000000) ++ codes "}}"

-- The request that changes a setting, in one of seven transactions.
unfoldable pub patch_of : ℕ → List ℕ
patch_of i =
    codes "PATCH /settings?tx=t" ++ decimal (i % 7) ++ codes " HTTP/1.1\r\nContent-Length: " ++ decimal (length (body_of i))
    ++ codes "\r\n\r\n" ++ body_of i

-- The request that commits a transaction.
unfoldable pub commit_of : ℕ → List ℕ
commit_of r = codes "POST /tx/commit?tx=t" ++ decimal r ++ codes " HTTP/1.1\r\n\r\n"

-- The request that commits a transaction and applies what is owed.
unfoldable pub commit_and_apply_of : ℕ → List ℕ
commit_and_apply_of r = codes "POST /tx/commit_and_apply?tx=t" ++ decimal r ++ codes " HTTP/1.1\r\n\r\n"

-- The request that applies what is owed.
unfoldable pub apply_request : List ℕ
apply_request = codes "POST /tx/apply HTTP/1.1\r\n\r\n"

-- The change of a setting, and after each hundredth the commit of its transaction.
unfoldable pub changes_of : ℕ → List (List ℕ)
changes_of i = patch_of i ∷ (if i % 100 == 99 then commit_and_apply_of (i % 7) ∷ [] else [])

-- The requests for n settings: the changes, a commit of each transaction, and one apply.
abbrev pub requests_of : ℕ → List (List ℕ)
requests_of n = flat_map changes_of (below n) ++ map commit_of (below 7) ++ apply_request ∷ []
