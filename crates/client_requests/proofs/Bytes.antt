-- Bytes of one class are bytes of another.
use Rattle.std.proofs.Common.{rules, arith, ◌≡◌, ◌≤◌, ◌⊎◌, inl, inr, ℕ, Bool, true, false, ◌||◌, ◌==◌, List, get_or, refl}
use Rattle.std.proofs.Math.Bool.{or-true}
use Rattle.std.specs.Char.{is_ascii_digit, is_ascii_uppercase}
use Rattle.std.specs.Int.{IsInRange, is_in_range}
use Rattle.std.specs.List.{list_all}
use Rattle.std.proofs.lemmas.List.Sums.{AllPass-from_list_all}
use Rattle.std.proofs.lemmas.Bool.Decides.{nat_tests}
use Rattle.httparse.specs.Grammar.{AllPass, is_token_byte, is_uri_byte, is_value_byte, is_ows}
use Rattle.host_client.specs.Question.{is_target_byte}

-- what all pass passes another test as well
pub pass_also : (p q : ℕ → Bool) → ((b : ℕ) → p b ≡ true → q b ≡ true) → (xs : List ℕ) → list_all p xs ≡ true → AllPass q xs
pass_also p q more xs all = λ i d lt. more (get_or xs i d) (AllPass-from_list_all p xs all i d lt)

in_range : (low high b : ℕ) → is_in_range low high b ≡ true → IsInRange low high b
in_range low high b h = search rules

pub within : (low high b : ℕ) → low ≤ b → b ≤ high → is_in_range low high b ≡ true
within low high b l h = search rules

-- either of two tests
pub either : (a b : Bool) → (a || b) ≡ true → (a ≡ true) ⊎ (b ≡ true)
either true b h = inl refl
either false b h = inr h

-- a capital letter is a byte of a token
pub upper_token : (b : ℕ) → is_ascii_uppercase b ≡ true → is_token_byte b ≡ true
unfolding is_token_byte
upper_token b h = rw (h, or-true) refl

-- a digit is a byte of a value, and no white space
pub digit_in_value : (b : ℕ) → is_ascii_digit b ≡ true → is_value_byte b ≡ true
digit_in_value b h = let r : IsInRange 48 57 b = in_range 48 57 b h in grind (arith, nat_tests)

pub digit_ows : (b : ℕ) → is_ascii_digit b ≡ true → is_ows b ≡ false
digit_ows b h = let r : IsInRange 48 57 b = in_range 48 57 b h in grind (arith, nat_tests)

-- these bytes are bytes of a target
pub visible : (b : ℕ) → 33 ≤ b → b ≤ 126 → is_uri_byte b ≡ true
visible b l h = grind (arith, nat_tests)

-- so are those of a question
pub target_range : (b : ℕ) → is_target_byte b ≡ true → (33 ≤ b) × (b ≤ 126)
target_range b h = grind (arith, nat_tests)

-- none of them is a line feed
pub digit_no_feed : (b : ℕ) → is_ascii_digit b ≡ true → (b == 10) ≡ false
digit_no_feed b h = let r : IsInRange 48 57 b = in_range 48 57 b h in grind (arith, nat_tests)

pub upper_no_feed : (b : ℕ) → is_ascii_uppercase b ≡ true → (b == 10) ≡ false
upper_no_feed b h = let r : IsInRange 65 90 b = in_range 65 90 b h in grind (arith, nat_tests)

pub target_no_feed : (b : ℕ) → is_target_byte b ≡ true → (b == 10) ≡ false
target_no_feed b h = let r = target_range b h in grind (arith, nat_tests)
