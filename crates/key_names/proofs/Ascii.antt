-- Bare and quotable characters are ASCII, so segments are texts.
use Rattle.std.proofs.Common.{arith, ◌≡◌, ℕ, zero, suc, ◌<◌, Bool, List, [], ◌∷◌, true, Result, Ok, Err, MatchResult, refl}
use Rattle.std.specs.List.{list_all}
use Rattle.std.specs.Result.{IsOk}
use Rattle.std.specs.Str.{IsUtf8, IsAscii}
use Rattle.std.proofs.lemmas.Str.{IsUtf8-from_ascii}
use Rattle.std.proofs.lemmas.Bool.{and_parts}
use Rattle.std.proofs.lemmas.Bool.Decides.{nat_tests}
use Rattle.key_names.specs.Segment.{is_bare, is_quotable, is_segment}

-- bytes that all pass a test that only ASCII passes
all_ascii : (test : ℕ → Bool) → ((b : ℕ) → test b ≡ true → b < 128) → (bytes : List ℕ) → list_all test bytes ≡ true → IsAscii bytes
all_ascii test low [] passed i = omega arith
all_ascii test low (b ∷ bytes) passed zero = low b (and_parts (test b) _ passed).0
all_ascii test low (b ∷ bytes) passed (suc i) = all_ascii test low bytes (and_parts (test b) _ passed).1 i

bare_low : (b : ℕ) → is_bare b ≡ true → b < 128
bare_low b bare = grind (arith, nat_tests)

quotable_low : (b : ℕ) → is_quotable b ≡ true → b < 128
quotable_low b quotable = grind (arith, nat_tests)

-- bare characters are text
pub bare_text : (bytes : List ℕ) → list_all is_bare bytes ≡ true → IsUtf8 bytes
bare_text bytes bare = IsUtf8-from_ascii bytes (all_ascii is_bare bare_low bytes bare)

-- bytes that are allowed in quotes are text
pub quotable_text : (bytes : List ℕ) → list_all is_quotable bytes ≡ true → IsUtf8 bytes
quotable_text bytes quotable = IsUtf8-from_ascii bytes (all_ascii is_quotable quotable_low bytes quotable)

-- a segment is text
pub IsUtf8-segment : (segment : List ℕ) → is_segment segment ≡ true → IsUtf8 segment
IsUtf8-segment segment valid = quotable_text segment (and_parts _ (list_all is_quotable segment) valid).1

-- a result that refuses only what is not so is a value where it is
pub ok_where : {T E U : Type 0} (P : T → Type 0) (Q : E → Type 0) (r : Result T E) → MatchResult r P (λ e. ¬ U × Q e) → U → IsOk r
ok_where P Q (Ok v) h u = refl
ok_where P Q (Err e) h u = absurd (h.0 u)
