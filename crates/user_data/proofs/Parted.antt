-- The keys of the pairs are apart.
use Rattle.std.proofs.Common.{◌≡◌, ℕ, List, [], ◌∷◌, ◌++◌, Option, Some, None, Ok, Err, ok_or}
use Rattle.std.proofs.Common.{option_map, Bool, true, false, inl, Less, append_assoc, append-nil, if◌then◌else◌, refl, sym, ap, ◌∙◌}
use Rattle.std.specs.List.{AllByRecursion}
use Rattle.std.specs.Map.{keys_of}
use Rattle.std.proofs.lemmas.List.{map-append}
use Rattle.key_names.specs.Key.{is_key}
use Rattle.key_names.specs.Order.{bytes_cmp}
use Rattle.json_trees.specs.Apart.{AreApart, Parts, Pairwise}
use Rattle.json_trees.specs.declared.scalar.Scalar.{Scalar}
use Rattle.json_trees.proofs.Parting.{Parts-append, Pairwise-append, AllByRecursion-append, AllByRecursion-weaker, AreApart-from_Pairwise}
use Rattle.toml.specs.Data.{Data, string, integer, float, boolean, datetime, array, table, Members, no_members, member}
use Rattle.toml_values.specs.Document.{named}
use Rattle.toml_values.specs.Values.{scalar_of}
use Rattle.user_data.specs.Pairs.{Path, Pairs, fault_at, printed_path, leaf_pairs, where_key, joined, value_pairs, members_pairs}
use Rattle.user_data.specs.Rising.{NamesRise, ValuesRise, HasRisingNames}
use Rattle.user_data.specs.declared.user_data_error.UserDataKind.TheVariants.{BadKey, BadValue}

-- The key goes on from this one.
abbrev IsBelow : Path → Path → Type 0
IsBelow path k = (rest : Path) × (k ≡ path ++ rest)

-- The key goes on from this path with a name above this one.
abbrev IsAfter : Path → List ℕ → Path → Type 0
IsAfter path name k = (next : List ℕ) × (rest : Path) × (bytes_cmp name next ≡ Less) × (k ≡ path ++ next ∷ rest)

-- Two lists of pairs, one after the other.
record Halves (front back : Pairs) (whole : List (Path × Scalar)) : Type 0 where
  first : List (Path × Scalar)
  second : List (Path × Scalar)
  first_is : front ≡ Ok first
  second_is : back ≡ Ok second
  keys_are : keys_of whole ≡ keys_of first ++ keys_of second

halves : (front back : Pairs) (whole : List (Path × Scalar)) → joined front back ≡ Ok whole → Halves front back whole
halves (Err e) back whole h = cc
halves (Ok xs) (Err e) whole h = cc
halves (Ok xs) (Ok ys) whole h = record {
  first = xs;
  second = ys;
  first_is = refl;
  second_is = refl;
  keys_are = let both : whole ≡ xs ++ ys = cc in
      ap keys_of both ∙ map-append (λ p. p.0) xs ys;
}

-- What is read at a key is read of its value.
pub kept : (path : Path) (pairs : Pairs) (found : List (Path × Scalar)) → where_key path pairs ≡ Ok found → pairs ≡ Ok found
kept path pairs found = by (is_key path)
  where
    by : (test : Bool) → (if test then pairs else Err (fault_at BadKey (printed_path path))) ≡ Ok found → pairs ≡ Ok found
    by true h = h
    by false h = absurd (cc h)

leaf_key : (key : Path) (o : Option Scalar) (pairs : List (Path × Scalar)) → ok_or (option_map (λ v. (key, v) ∷ []) o) (fault_at BadValue (printed_path key)) ≡
    Ok pairs → keys_of pairs ≡ key ∷ []
leaf_key key None pairs e = cc
leaf_key key (Some v) pairs e = let same : pairs ≡ (key, v) ∷ [] = cc in ap keys_of same

at_leaf : (key : Path) (d : Data) (pairs : List (Path × Scalar)) → leaf_pairs key d ≡ Ok pairs
    → AllByRecursion (IsBelow key) (keys_of pairs) × Pairwise Parts (keys_of pairs)
at_leaf key d pairs e = rw (leaf_key key (scalar_of d) pairs e) ((([], sym (append-nil key)), tt), (tt, tt))

member_halves : (path : Path) (name : List ℕ) (d : Data) (ms : Members) (pairs : List (Path × Scalar)) → members_pairs path (member name d ms) ≡ Ok pairs
    → Halves (value_pairs (path ++ name ∷ []) d) (members_pairs path ms) pairs
member_halves path name d ms pairs e =
    let h = halves (where_key (path ++ name ∷ []) (value_pairs (path ++ name ∷ []) d)) (members_pairs path ms) pairs e in
    record { first = h.first; second = h.second; first_is = kept (path ++ name ∷ []) _ h.first h.first_is; second_is = h.second_is; keys_are = h.keys_are }

past : (path : Path) (name : List ℕ) (k : Path) (below : IsBelow (path ++ name ∷ []) k) → k ≡ path ++ name ∷ below.0
past path name k below = below.1 ∙ append_assoc path (name ∷ []) below.0

mutual
  value_below : (key : Path) (d : Data) (pairs : List (Path × Scalar)) → value_pairs key d ≡ Ok pairs → AllByRecursion (IsBelow key) (keys_of pairs)
  value_below key (string s) pairs e = (at_leaf key (string s) pairs e).0
  value_below key (integer z) pairs e = (at_leaf key (integer z) pairs e).0
  value_below key (float x) pairs e = (at_leaf key (float x) pairs e).0
  value_below key (boolean b) pairs e = (at_leaf key (boolean b) pairs e).0
  value_below key (datetime t) pairs e = (at_leaf key (datetime t) pairs e).0
  value_below key (array ds) pairs e = (at_leaf key (array ds) pairs e).0
  value_below key (table ms) pairs e = members_below key ms pairs e

  members_below : (path : Path) (ms : Members) (pairs : List (Path × Scalar)) → members_pairs path ms ≡ Ok pairs → AllByRecursion (IsBelow path) (keys_of pairs)
  members_below path no_members pairs e = let none : pairs ≡ [] = cc in rw none tt
  members_below path (member name d ms) pairs e =
      let h = member_halves path name d ms pairs e in
      rw h.keys_are
      (AllByRecursion-append (IsBelow path) (keys_of h.first) (keys_of h.second)
      (AllByRecursion-weaker (IsBelow (path ++ name ∷ [])) (IsBelow path) (keys_of h.first) (λ k below. (name ∷ below.0, past path name k below))
      (value_below (path ++ name ∷ []) d h.first h.first_is))
      (members_below path ms h.second h.second_is))

members_after : (path : Path) (name : List ℕ) (ms : Members) (pairs : List (Path × Scalar)) → AllByRecursion (λ entry. bytes_cmp name entry.0 ≡ Less) (named ms)
    → members_pairs path ms ≡ Ok pairs
    → AllByRecursion (IsAfter path name) (keys_of pairs)
members_after path name no_members pairs rise e = let none : pairs ≡ [] = cc in rw none tt
members_after path name (member next d ms) pairs rise e =
    let h = member_halves path next d ms pairs e in
    rw h.keys_are
    (AllByRecursion-append (IsAfter path name) (keys_of h.first) (keys_of h.second)
    (AllByRecursion-weaker (IsBelow (path ++ next ∷ [])) (IsAfter path name) (keys_of h.first) (λ k below. (next, below.0, rise.0, past path next k below))
    (value_below (path ++ next ∷ []) d h.first h.first_is))
    (members_after path name ms h.second rise.1 h.second_is))

across : (path : Path) (name : List ℕ) (k l : Path) → IsBelow (path ++ name ∷ []) k → IsAfter path name l → Parts k l
across path name k l below after = rw (past path name k below, after.3) (Parts-append path (name ∷ below.0) (after.0 ∷ after.1) (inl after.2))

mutual
  value_parted : (key : Path) (d : Data) (pairs : List (Path × Scalar)) → HasRisingNames d → value_pairs key d ≡ Ok pairs → Pairwise Parts (keys_of pairs)
  value_parted key (string s) pairs rise e = (at_leaf key (string s) pairs e).1
  value_parted key (integer z) pairs rise e = (at_leaf key (integer z) pairs e).1
  value_parted key (float x) pairs rise e = (at_leaf key (float x) pairs e).1
  value_parted key (boolean b) pairs rise e = (at_leaf key (boolean b) pairs e).1
  value_parted key (datetime t) pairs rise e = (at_leaf key (datetime t) pairs e).1
  value_parted key (array ds) pairs rise e = (at_leaf key (array ds) pairs e).1
  value_parted key (table ms) pairs rise e = members_parted key ms pairs rise.0 rise.1 e

  members_parted : (path : Path) (ms : Members) (pairs : List (Path × Scalar)) → NamesRise ms → ValuesRise ms → members_pairs path ms ≡ Ok pairs
      → Pairwise Parts (keys_of pairs)
  members_parted path no_members pairs names values e = let none : pairs ≡ [] = cc in rw none tt
  members_parted path (member name d ms) pairs names values e =
      let h = member_halves path name d ms pairs e in
      rw h.keys_are
      (Pairwise-append Parts (IsBelow (path ++ name ∷ [])) (IsAfter path name) (keys_of h.first) (keys_of h.second) (across path name)
      (value_below (path ++ name ∷ []) d h.first h.first_is) (members_after path name ms h.second names.0 h.second_is)
      (value_parted (path ++ name ∷ []) d h.first values.0 h.first_is) (members_parted path ms h.second names.1 values.1 h.second_is))

-- The keys of the pairs of members are apart, where the names rise.
pub members_apart : (path : Path) (ms : Members) (pairs : List (Path × Scalar)) → NamesRise ms → ValuesRise ms → members_pairs path ms ≡ Ok pairs
    → AreApart (keys_of pairs)
members_apart path ms pairs names values e = AreApart-from_Pairwise (keys_of pairs) (members_parted path ms pairs names values e)
