-- Whole numbers of 64 bits with a sign, written and read back.
use Rattle.std.proofs.Common.{◌≡◌, ℕ, ◌^◌, ℤ, pos, negsuc, Some, FitsSigned, w64, option_map, refl, ap, arith, lt-ltb}
use Rattle.json.proofs.Printed.Decimals.{IsNumber-signed_decimal}
use Rattle.serde_json.specs.Data.{number}
use Rattle.serde_json.specs.Find.{as_i64, of_integer}
use Rattle.serde_json.proofs.Numbers.{number_of-decimal, number_of-negative}
use Rattle.json_trees.specs.Written.{IsReadable}

-- a number in range reads back
pub IsReadable-of_integer : (most : ℕ) (z : ℤ) → FitsSigned w64 z → IsReadable most (number (of_integer z))
IsReadable-of_integer most (pos n) h = record {
  reads_back = ap (option_map number) (number_of-decimal n (omega (arith, h.sfits)));
  numbers = IsNumber-signed_decimal (pos n) h.sfits;
  shallow = omega arith;
}
IsReadable-of_integer most (negsuc n) h = record {
  reads_back = ap (option_map number) (number_of-negative n h.sfits);
  numbers = IsNumber-signed_decimal (negsuc n) h.sfits;
  shallow = omega arith;
}

-- a number in range is what is read of it
pub as_i64-of_integer : (z : ℤ) → FitsSigned w64 z → as_i64 (of_integer z) ≡ Some z
as_i64-of_integer (pos n) h = rw (lt-ltb n (2 ^ 63) h.sfits) refl
as_i64-of_integer (negsuc n) h = refl
