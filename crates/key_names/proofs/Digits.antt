-- Decimal digits: a number only grows with more of them.
use Rattle.std.proofs.Common.{rules, Bool, true, false, ◌&&◌, ◌≡◌, ◌≤◌, ◌<◌, ◌+◌, ◌*◌, ℕ, List, [], ◌∷◌, length, drop, get_or, arith, ap}
use Rattle.std.proofs.lemmas.List.{drop_more}
use Rattle.std.proofs.lemmas.List.Sums.{AllPass-from_list_all}
use Rattle.std.proofs.lemmas.Str.{digit_value_digit}
use Rattle.std.specs.Char.{digit_value, is_ascii_digit}
use Rattle.std.specs.Int.{IsInRange}
use Rattle.std.specs.List.{list_all}
use Rattle.std.specs.Prelude.{nat_lt}
use Rattle.std.specs.Str.Parse.{digits_value, digits_value_after}

-- More digits spell no less.
grows : (n : ℕ) (cs : List ℕ) → n ≤ digits_value_after 10 n cs
grows n [] = omega arith
grows n (c ∷ cs) = omega (arith, grows (n * 10 + digit_value c) cs)

-- A number that has come to a limit stays at it or beyond.
pub over : (limit : ℕ) (digits : List ℕ) (i n : ℕ) → i < length digits → digits_value 10 digits ≡ digits_value_after 10 n (drop i digits)
    → limit ≤ n * 10 + digit_value (get_or digits i 0) → limit ≤ digits_value 10 digits
over limit digits i n within same more =
    let here = ap (digits_value_after 10 n) (drop_more digits i 0 within) in
    omega (arith, grows (n * 10 + digit_value (get_or digits i 0)) (drop (i + 1) digits), here, same, more)

second : (a b : Bool) → (a && b) ≡ true → b ≡ true
second true b h = h
second false b h = cc

in_range : (c : ℕ) → is_ascii_digit c ≡ true → IsInRange 48 57 c
in_range c h = search rules

-- The value of a digit of a number, of one digit and more.
pub digit_at : (digits : List ℕ) (i : ℕ) → (nat_lt 0 (length digits) && list_all is_ascii_digit digits) ≡ true → i < length digits
    → digit_value (get_or digits i 0) + 48 ≡ get_or digits i 0
digit_at digits i valid within = digit_value_digit _ (in_range _ (AllPass-from_list_all is_ascii_digit digits (second _ _ valid) i 0 within))
