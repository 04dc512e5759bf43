-- The orders of byte lists and of keys, and their laws: each is total, and what ties in it is equal.
use Rattle.std.specs.Prelude.{ℕ, List}
use Rattle.std.specs.declared.cmp.Ordering.{Ordering}
use Rattle.std.specs.Ordering.{nat_cmp, eq_by_cmp, as_partial_cmp}
use Rattle.std.specs.Cmp.{IsTotalOrder, IsEquivalence, IsPartialEquivalence}
use Rattle.std.specs.Cmp.{IsPartialOrder, partial_equiv_from_equiv, eq_by_cmp_equiv, partial_order_from_total}
use Rattle.std.specs.Cmp.Lexicographic.{slice_cmp, lists_total, nat_list_cmp_total}
use Rattle.std.specs.FinMap.{IsAntisymmetric, nat_cmp-IsAntisymmetric, slice_cmp-IsAntisymmetric}

-- Texts, bytes and segments are ordered by their bytes.
abbrev pub bytes_cmp : List ℕ → List ℕ → Ordering
bytes_cmp = slice_cmp nat_cmp

-- Keys are ordered by their segments.
abbrev pub key_cmp : List (List ℕ) → List (List ℕ) → Ordering
key_cmp = slice_cmp bytes_cmp

-- Byte lists are totally ordered.
pub bytes_total : IsTotalOrder bytes_cmp
bytes_total = nat_list_cmp_total

-- Keys are totally ordered.
pub key_total : IsTotalOrder key_cmp
key_total = lists_total bytes_total

-- Lists of bytes that tie are one.
pub bytes_cmp-IsAntisymmetric : IsAntisymmetric bytes_cmp
bytes_cmp-IsAntisymmetric = slice_cmp-IsAntisymmetric nat_cmp-IsAntisymmetric

-- Keys that tie are one.
pub key_cmp-IsAntisymmetric : IsAntisymmetric key_cmp
key_cmp-IsAntisymmetric = slice_cmp-IsAntisymmetric bytes_cmp-IsAntisymmetric

-- To tie is an equivalence of byte lists.
pub bytes_equal : IsEquivalence (eq_by_cmp bytes_cmp)
bytes_equal = eq_by_cmp_equiv bytes_total

-- To tie is an equivalence of keys.
pub keys_equal : IsEquivalence (eq_by_cmp key_cmp)
keys_equal = eq_by_cmp_equiv key_total

-- So it is a partial one of byte lists.
pub bytes_equal_partly : IsPartialEquivalence (eq_by_cmp bytes_cmp)
bytes_equal_partly = partial_equiv_from_equiv bytes_equal

-- So it is a partial one of keys.
pub keys_equal_partly : IsPartialEquivalence (eq_by_cmp key_cmp)
keys_equal_partly = partial_equiv_from_equiv keys_equal

-- Byte lists are partially ordered.
pub bytes_ordered : IsPartialOrder (eq_by_cmp bytes_cmp) (as_partial_cmp bytes_cmp)
bytes_ordered = partial_order_from_total bytes_total

-- Keys are partially ordered.
pub keys_ordered : IsPartialOrder (eq_by_cmp key_cmp) (as_partial_cmp key_cmp)
keys_ordered = partial_order_from_total key_total
