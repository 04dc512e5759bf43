-- The keys of flattened trees are apart.
use Rattle.std.proofs.Common.{◌≡◌, ℕ, List, [], ◌∷◌, ◌++◌, Option, Some, None, Result, Ok, Err, ok_or, option_map, Bool, true}
use Rattle.std.proofs.Common.{false, ◌⊎◌, inl, inr, Less, take, length, length-append, ◌<◌, arith, append_assoc, append-nil, refl, sym, ap, ◌∙◌, subst}
use Rattle.std.specs.List.{All, AllByRecursion}
use Rattle.std.specs.Map.{keys_of}
use Rattle.std.proofs.lemmas.List.{map-append, take_at}
use Rattle.key_names.specs.Key.{is_key}
use Rattle.key_names.specs.Order.{bytes_cmp}
use Rattle.serde_json.specs.Data.{Data, null, boolean, number, string, array, object, Members, no_members, member}
use Rattle.json_trees.specs.Apart.{AreApart, Parts, Pairwise}
use Rattle.json_trees.specs.Nested.{ShareFirst}
use Rattle.json_trees.specs.Tree.{Path, members_pairs, tree_pairs, value_pairs}
use Rattle.json_trees.specs.declared.tree_error.TreeError.{TreeError}
use Rattle.json_trees.specs.declared.tree_error.TreeError.TheVariants.{BadValue}
use Rattle.json_trees.proofs.Collecting.{both}
use Rattle.json_trees.proofs.Gathering.{members_pairs-member, members_pairs-no_key}
use Rattle.json_trees.proofs.Parting.{All-from, Parts-append, Pairwise-append, AllByRecursion-append, AllByRecursion-weaker, AreApart-from_Pairwise}
use Rattle.json_trees.proofs.RisingNames.{AllNames, HasRisingNames, NamesRise}

-- the path goes on from this one
abbrev IsBelow : Path → Path → Type 0
IsBelow path k = (rest : Path) × (k ≡ path ++ rest)

-- a member has the name
abbrev HasName : Members → List ℕ → Type 0
HasName no_members name = ⊥
HasName (member other d ms) name = (name ≡ other) ⊎ HasName ms name

-- the path goes on from this one with a member's name
abbrev GoesOn : Path → Members → Path → Type 0
GoesOn path ms k = (name : List ℕ) × (rest : Path) × HasName ms name × (k ≡ path ++ name ∷ rest)

holds_at : (P : List ℕ → Type 0) (ms : Members) (name : List ℕ) → AllNames P ms → HasName ms name → P name
holds_at P no_members name h has = absurd has
holds_at P (member other d ms) name h (inl same) = subst P (sym same) h.0
holds_at P (member other d ms) name h (inr later) = holds_at P ms name h.1 later

-- two lists of pairs that were gathered, one after the other
record Halves {V : Type 0} (front back : Result (List (Path × V)) TreeError) (whole : List (Path × V)) : Type 0 where
  first : List (Path × V)
  second : List (Path × V)
  first_is : front ≡ Ok first
  second_is : back ≡ Ok second
  keys_are : keys_of whole ≡ keys_of first ++ keys_of second

halves : {V : Type 0} (front back : Result (List (Path × V)) TreeError) (whole : List (Path × V)) → both front back ≡ Ok whole → Halves front back whole
halves (Err e) back whole h = cc
halves (Ok xs) (Err e) whole h = cc
halves (Ok xs) (Ok ys) whole h = record {
  first = xs;
  second = ys;
  first_is = refl;
  second_is = refl;
  keys_are = let joined : whole ≡ xs ++ ys = cc in
      ap keys_of joined ∙ map-append (λ p. p.0) xs ys;
}

across : (path : Path) (name : List ℕ) (ms : Members) (k l : Path) → AllNames (λ other. bytes_cmp name other ≡ Less) ms → IsBelow (path ++ name ∷ []) k
    → GoesOn path ms l → Parts k l
across path name ms k l rise below on =
    rw (below.1 ∙ append_assoc path (name ∷ []) below.0, on.3)
    (Parts-append path (name ∷ below.0) (on.0 ∷ on.1) (inl (holds_at (λ other. bytes_cmp name other ≡ Less) ms on.0 rise on.2)))

module _ {V : Type 0} (leaf : Data → Option V) where
  member_halves : (path : Path) (name : List ℕ) (d : Data) (ms : Members) (pairs : List (Path × V)) → members_pairs leaf path (member name d ms) ≡ Ok pairs
      → Halves (value_pairs leaf (path ++ name ∷ []) d) (members_pairs leaf path ms) pairs
  member_halves path name d ms pairs e = by (is_key (path ++ name ∷ [])) refl
    where
      by : (test : Bool) → is_key (path ++ name ∷ []) ≡ test → Halves (value_pairs leaf (path ++ name ∷ []) d) (members_pairs leaf path ms) pairs
      by true valid = halves _ _ pairs (sym (members_pairs-member leaf path (path ++ name ∷ []) name d ms refl valid) ∙ e)
      by false invalid = let refused = members_pairs-no_key leaf path name d ms invalid in cc

  leaf_key : (key : Path) (o : Option V) (pairs : List (Path × V)) → ok_or (option_map (λ v. (key, v) ∷ []) o) BadValue ≡ Ok pairs → keys_of pairs ≡ key ∷ []
  leaf_key key None pairs e = cc
  leaf_key key (Some v) pairs e = let same : pairs ≡ (key, v) ∷ [] = cc in ap keys_of same

  at_leaf : (key : Path) (o : Option V) (pairs : List (Path × V)) → ok_or (option_map (λ v. (key, v) ∷ []) o) BadValue ≡ Ok pairs
      → AllByRecursion (IsBelow key) (keys_of pairs) × Pairwise Parts (keys_of pairs)
  at_leaf key o pairs e = rw (leaf_key key o pairs e) ((([], sym (append-nil key)), tt), (tt, tt))

  mutual
    value_below : (key : Path) (d : Data) (pairs : List (Path × V)) → value_pairs leaf key d ≡ Ok pairs → AllByRecursion (IsBelow key) (keys_of pairs)
    value_below key null pairs e = (at_leaf key _ pairs e).0
    value_below key (boolean b) pairs e = (at_leaf key _ pairs e).0
    value_below key (number n) pairs e = (at_leaf key _ pairs e).0
    value_below key (string s) pairs e = (at_leaf key _ pairs e).0
    value_below key (array ds) pairs e = (at_leaf key _ pairs e).0
    value_below key (object ms) pairs e = AllByRecursion-weaker (GoesOn key ms) (IsBelow key) (keys_of pairs) (λ k on. (on.0 ∷ on.1, on.3))
        (members_below key ms pairs e)

    members_below : (path : Path) (ms : Members) (pairs : List (Path × V)) → members_pairs leaf path ms ≡ Ok pairs
        → AllByRecursion (GoesOn path ms) (keys_of pairs)
    members_below path no_members pairs e = let none : pairs ≡ [] = cc in rw none tt
    members_below path (member name d ms) pairs e =
        let h = member_halves path name d ms pairs e in
        let here = path ++ name ∷ [] in
        let all = GoesOn path (member name d ms) in
        rw h.keys_are
        (AllByRecursion-append all (keys_of h.first) (keys_of h.second)
        (AllByRecursion-weaker (IsBelow here) all (keys_of h.first) (λ k below. (name, below.0, inl refl, below.1 ∙ append_assoc path (name ∷ []) below.0))
        (value_below here d h.first h.first_is))
        (AllByRecursion-weaker (GoesOn path ms) all (keys_of h.second) (λ k on. (on.0, on.1, inr on.2, on.3)) (members_below path ms h.second h.second_is)))

  mutual
    value_parted : (key : Path) (d : Data) (pairs : List (Path × V)) → HasRisingNames d → value_pairs leaf key d ≡ Ok pairs → Pairwise Parts (keys_of pairs)
    value_parted key null pairs rise e = (at_leaf key _ pairs e).1
    value_parted key (boolean b) pairs rise e = (at_leaf key _ pairs e).1
    value_parted key (number n) pairs rise e = (at_leaf key _ pairs e).1
    value_parted key (string s) pairs rise e = (at_leaf key _ pairs e).1
    value_parted key (array ds) pairs rise e = (at_leaf key _ pairs e).1
    value_parted key (object ms) pairs rise e = members_parted key ms pairs rise e

    members_parted : (path : Path) (ms : Members) (pairs : List (Path × V)) → NamesRise ms → members_pairs leaf path ms ≡ Ok pairs
        → Pairwise Parts (keys_of pairs)
    members_parted path no_members pairs rise e = let none : pairs ≡ [] = cc in rw none tt
    members_parted path (member name d ms) pairs rise e =
        let h = member_halves path name d ms pairs e in
        rw h.keys_are
        (Pairwise-append Parts (IsBelow (path ++ name ∷ [])) (GoesOn path ms) (keys_of h.first) (keys_of h.second)
        (λ k l below on. across path name ms k l rise.0 below on)
        (value_below (path ++ name ∷ []) d h.first h.first_is) (members_below path ms h.second h.second_is)
        (value_parted (path ++ name ∷ []) d h.first rise.1 h.first_is) (members_parted path ms h.second rise.2 h.second_is))

  -- the keys of the pairs of a JSON value whose names rise are apart
  pub AreApart-tree_pairs : (path : Path) (d : Data) (pairs : List (Path × V)) → HasRisingNames d → tree_pairs leaf path d ≡ Ok pairs → AreApart (keys_of pairs)
  AreApart-tree_pairs path (object ms) pairs rise e = AreApart-from_Pairwise (keys_of pairs) (members_parted path ms pairs rise e)
  AreApart-tree_pairs path _ pairs rise e = cc

  -- the keys of the pairs of a JSON value that is at a path go on from this path
  pub ShareFirst-tree_pairs : (path : Path) (d : Data) (pairs : List (Path × V)) → tree_pairs leaf path d ≡ Ok pairs → ShareFirst (length path) (keys_of pairs)
  ShareFirst-tree_pairs path (object ms) pairs e =
      let n = length path in
      let below = members_below path ms pairs e in
      let longer = AllByRecursion-weaker (GoesOn path ms) (λ key. n < length key) (keys_of pairs)
      (λ key on. omega (arith, ap length on.3, length-append path (on.0 ∷ on.1))) below in
      let same = AllByRecursion-weaker (GoesOn path ms) (λ key. take n key ≡ path) (keys_of pairs)
      (λ key on. ap (take n) on.3 ∙ take_at path (on.0 ∷ on.1) n refl) below in
      let alike = All-from (λ key. take n key ≡ path) (keys_of pairs) same in
      record {
        longer = All-from (λ key. n < length key) (keys_of pairs) longer;
        alike = λ i j d before within. alike i d (omega arith) ∙ sym (alike j d within);
      }
  ShareFirst-tree_pairs path _ pairs e = cc

  -- the keys of the pairs of a JSON value that is at a path begin with this path
  pub All_below-tree_pairs : (path : Path) (d : Data) (pairs : List (Path × V)) → tree_pairs leaf path d ≡ Ok pairs
      → All (λ key. take (length path) key ≡ path) (keys_of pairs)
  All_below-tree_pairs path (object ms) pairs e =
      All-from (λ key. take (length path) key ≡ path) (keys_of pairs)
      (AllByRecursion-weaker (GoesOn path ms) (λ key. take (length path) key ≡ path) (keys_of pairs)
      (λ key on. ap (take (length path)) on.3 ∙ take_at path (on.0 ∷ on.1) (length path) refl) (members_below path ms pairs e))
  All_below-tree_pairs path _ pairs e = cc
