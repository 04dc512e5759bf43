-- The first segments of a key.
use Rattle.std.proofs.Common.{◌≡◌, ℕ, ◌<◌, ◌≤◌, ◌++◌, Bool, true, List, [], ◌∷◌, length, map, length-append, sym, ◌∙◌, arith}
use Rattle.std.specs.List.{list_all, join_with_byte}
use Rattle.std.proofs.lemmas.Bool.{and_parts}
use Rattle.std.proofs.lemmas.List.Folds.{list_all-append}
use Rattle.key_names.proofs.KeyLimits.{IsKey-from, is_key-from}
use Rattle.key_names.specs.Key.{is_key, printed}
use Rattle.key_names.specs.Segment.{is_segment, has_short_name, printed_segment}

join-first : (xs ys : List (List ℕ)) → length (join_with_byte 46 (map printed_segment xs)) ≤ length (join_with_byte 46 (map printed_segment (xs ++ ys)))
join-first [] ys = omega arith
join-first (x ∷ []) [] = omega arith
join-first (x ∷ []) (y ∷ ys) = omega (arith, length-append (printed_segment x) (46 ∷ join_with_byte 46 (map printed_segment (y ∷ ys))))
join-first (x ∷ z ∷ xs) ys =
    omega (
      arith,
      join-first (z ∷ xs) ys,
      length-append (printed_segment x) (46 ∷ join_with_byte 46 (map printed_segment (z ∷ xs))),
      length-append (printed_segment x) (46 ∷ join_with_byte 46 (map printed_segment ((z ∷ xs) ++ ys))),
    )

printed-first : (xs ys : List (List ℕ)) → length (printed xs) ≤ length (printed (xs ++ ys))
unfolding printed
printed-first xs ys = join-first xs ys

all_first : (test : List ℕ → Bool) (xs ys : List (List ℕ)) → list_all test (xs ++ ys) ≡ true → list_all test xs ≡ true
all_first test xs ys h = (and_parts (list_all test xs) (list_all test ys) (sym (list_all-append test xs ys) ∙ h)).0

-- one or more first segments of a key are a key
pub is_key-first : (xs ys : List (List ℕ)) → 0 < length xs → is_key (xs ++ ys) ≡ true → is_key xs ≡ true
is_key-first xs ys some h =
    let key = IsKey-from (xs ++ ys) h in
    is_key-from xs (record {
      some = some;
      valid = all_first is_segment xs ys key.valid;
      fits = record {
        few = omega (arith, key.fits.few, length-append xs ys);
        short = all_first has_short_name xs ys key.fits.short;
        narrow = omega (arith, key.fits.narrow, printed-first xs ys);
      };
    })
