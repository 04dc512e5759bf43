-- The value of a member that some keys name.
use Rattle.std.proofs.Common.{◌≡◌, ◌≢◌, ℕ, suc, ◌+◌, ◌<◌, ◌⊎◌, inl, inr, Bool, true, false, List, [], ◌∷◌, ◌++◌, map, drop, length}
use Rattle.std.proofs.Common.{get_or, Option, None, option_map, IsTrue, Less, Equal, nat_lt, refl}
use Rattle.std.proofs.Common.{sym, ap, ◌∙◌, arith, add-one, append_assoc, Result, Ok, Err, OnOk}
use Rattle.std.proofs.lemmas.List.{length-map}
use Rattle.std.proofs.Math.ListN.{drop_of_length-le}
use Rattle.std.specs.List.{AllByRecursion}
use Rattle.std.specs.Map.{keys_of}
use Rattle.std.proofs.lemmas.Bool.{ltb-true, ltb-false}
use Rattle.std.proofs.lemmas.Cmp.{tied_itself}
use Rattle.json.specs.Token.{Token, key}
use Rattle.key_names.proofs.KeyLimits.{IsKey-from}
use Rattle.key_names.specs.Key.{is_key}
use Rattle.key_names.specs.Order.{bytes_cmp, bytes_total}
use Rattle.serde_json.specs.Data.{Data, null, boolean, number, string, array, object, Members, no_members, member}
use Rattle.serde_json.specs.Find.{as_object}
use Rattle.json_trees.specs.Apart.{Parts, Pairwise}
use Rattle.json_trees.specs.Nested.{leaves, members_leaves, name_of, IsNestable, IsGroup, IsWritable, IsTreeOf, IsBranchOf}
use Rattle.json_trees.specs.Tree.{Path}
use Rattle.json_trees.proofs.Groups.{parts_at}
use Rattle.json_trees.proofs.Parting.{AllByRecursion-weaker}

-- keys that part at a level or later, and have the same name there, part later
parts_later : (level : ℕ) (k l : Path) → level < length k → level < length l → name_of level l ≡ name_of level k → Parts (drop level k) (drop level l)
    → Parts (drop (suc level) k) (drop (suc level) l)
parts_later level k l h w same parted = by (parts_at level k l h w parted)
  where
    by : (bytes_cmp (name_of level k) (name_of level l) ≡ Less) ⊎ ((name_of level k ≡ name_of level l) × Parts (drop (suc level) k) (drop (suc level) l))
        → Parts (drop (suc level) k) (drop (suc level) l)
    by (inl less) = let tied : bytes_cmp (name_of level k) (name_of level l) ≡ Equal = ap (bytes_cmp (name_of level k)) same
        ∙ tied_itself bytes_total (name_of level k) in cc
    by (inr later) = later.1

first_ends : (k l : Path) → k ≡ [] → Parts k l → ⊥
first_ends [] l e h = h
first_ends (a ∷ k) l e h = cc

second_ends : (k l : Path) → l ≡ [] → Parts k l → ⊥
second_ends [] l e h = h
second_ends (a ∷ k) [] e h = h
second_ends (a ∷ k) (b ∷ l) e h = cc

-- a key that ends after a level shares its name there with no other
alone : {V : Type 0} (level : ℕ) (p : Path × V) (group : List (Path × V)) → IsNestable level (keys_of (p ∷ group)) → IsGroup level (keys_of (p ∷ group))
    → length p.0 ≡ suc level → group ≡ []
alone level p [] nestable same ends = refl
alone level p (q ∷ group) nestable same ends =
    absurd (first_ends (drop (suc level) p.0) (drop (suc level) q.0) (drop_of_length-le p.0 {i = suc level} (omega arith))
    (parts_later level p.0 q.0 nestable.longer.0 nestable.longer.1.0 same.1.0 nestable.parted.0.0))

later_parts : (level : ℕ) (k : Path) (keys : List Path) → level < length k → AllByRecursion (λ l. level < length l) keys
    → AllByRecursion (λ l. name_of level l ≡ name_of level k) keys
    → AllByRecursion (λ l. Parts (drop level k) l) (map (λ l. drop level l) keys) → AllByRecursion (λ l. Parts (drop (suc level) k) l)
    (map (λ l. drop (suc level) l) keys)
later_parts level k [] h longer same parted = tt
later_parts level k (l ∷ keys) h longer same parted = (parts_later level k l h longer.0 same.0 parted.0, later_parts level k keys h longer.1 same.1 parted.1)

later_pairwise : (level : ℕ) (name : List ℕ) (keys : List Path) → AllByRecursion (λ l. level < length l) keys
    → AllByRecursion (λ l. name_of level l ≡ name) keys
    → Pairwise Parts (map (λ l. drop level l) keys) → Pairwise Parts (map (λ l. drop (suc level) l) keys)
later_pairwise level name [] longer same parted = tt
later_pairwise level name (k ∷ keys) longer same parted = (
  later_parts level k keys longer.0 longer.1 (AllByRecursion-weaker (λ l. name_of level l ≡ name) (λ l. name_of level l ≡ name_of level k) keys
      (λ l e. e ∙ sym same.0) same.1) parted.0,
  later_pairwise level name keys longer.1 same.1 parted.1,
)

all_longer : (level : ℕ) (k : Path) (keys : List Path) → AllByRecursion (λ l. Parts (drop (suc level) k) l) (map (λ l. drop (suc level) l) keys)
    → AllByRecursion (λ l. suc level < length l) keys
all_longer level k [] parted = tt
all_longer level k (l ∷ keys) parted = (by (nat_lt (suc level) (length l)) refl, all_longer level k keys parted.1)
  where
    by : (test : Bool) → nat_lt (suc level) (length l) ≡ test → suc level < length l
    by true e = ltb-true (suc level) (length l) e
    by false e = absurd (second_ends (drop (suc level) k) (drop (suc level) l) (drop_of_length-le l (ltb-false (suc level) (length l) e)) parted.0)

-- a group whose first key goes on beyond the next level is nestable there
next_level : {V : Type 0} (level : ℕ) (p : Path × V) (group : List (Path × V)) → IsNestable level (keys_of (p ∷ group)) → IsGroup level (keys_of (p ∷ group))
    → suc level < length p.0
    → IsNestable (suc level) (keys_of (p ∷ group))
next_level level p group nestable same on =
    let parted = later_pairwise level (name_of level p.0) (keys_of (p ∷ group)) nestable.longer same nestable.parted in
    record { longer = (on, all_longer level p.0 (keys_of group) parted.0); parted = parted }

-- the first pair of a list
record Begins {V : Type 0} (first : Path × V) (group : List (Path × V)) : Type 0 where
  others : List (Path × V)
  are : group ≡ first ∷ others

begins : {V : Type 0} (group : List (Path × V)) (first : Path × V) → first ≡ get_or group 0 first → 0 < length group → Begins first group
begins [] first e h = absurd (omega arith)
begins (p ∷ group) first e h = record { others = group; are = ap (λ q. q ∷ group) (sym e) }

-- keys that go on beyond a level have it below their most segments
pub level_within : {V : Type 0} (level : ℕ) (group : List (Path × V)) (first : Path × V) → first ≡ get_or group 0 first → 0 < length group
    → IsNestable level (keys_of group) → IsTrue (is_key first.0) → level < 32
level_within level [] first e some nestable valid = absurd (omega arith)
level_within level (p ∷ group) first e some nestable valid = let longer = nestable.longer.0 in
    omega (arith, (IsKey-from first.0 valid).fits.few, longer, ap (λ q. length q.0) e)

-- a group whose first key doesn't end after a level is nestable at the next
pub nestable_next : {V : Type 0} (level : ℕ) (group : List (Path × V)) (first : Path × V) → first ≡ get_or group 0 first → 0 < length group
    → IsNestable level (keys_of group) → IsGroup level (keys_of group)
    → length first.0 ≢ level + 1 → IsNestable (level + 1) (keys_of group)
nestable_next level group first e some nestable same on =
    let h = begins group first e some in
    rw (add-one level, h.are) (next_level level first h.others (rw h.are at nestable) (rw h.are at same) (longer (rw h.are at nestable)))
  where
    longer : IsNestable level (keys_of (first ∷ (begins group first e some).others)) → suc level < length first.0
    longer nestable = let beyond = nestable.longer.0 in omega arith

leaves-no_object : (d : Data) → as_object d ≡ None → leaves d ≡ ([], d) ∷ []
leaves-no_object null h = refl
leaves-no_object (boolean b) h = refl
leaves-no_object (number n) h = refl
leaves-no_object (string s) h = refl
leaves-no_object (array ds) h = refl
leaves-no_object (object ms) h = cc

leaves-object : (ms : Members) → 0 < length (members_leaves ms) → leaves (object ms) ≡ members_leaves ms
leaves-object no_members h = absurd (omega arith)
leaves-object (member name d ms) h = refl

-- a member's tokens are its name and its value's tokens
pub member_tokens : (old keyed new rest : List Token) (name first : List ℕ) → keyed ≡ old ++ key name ∷ [] → name ≡ first → new ≡ keyed ++ rest
    → new ≡ old ++ key first ∷ rest
member_tokens old keyed new rest name first a b c = c ∙ ap (λ l. l ++ rest) (a ∙ ap (λ n. old ++ key n ∷ []) b) ∙ append_assoc old (key first ∷ []) rest

-- two facts of a value give a third
pub on_ok_both : {T E P Q R : Type 0} (r : Result T E) → (P → Q → R) → OnOk r P → OnOk r Q → OnOk r R
on_ok_both (Ok v) f p q = f p q
on_ok_both (Err e) f p q = tt

module _ {V : Type 0} (leaf : Data → Option V) (written : V → Data) (level : ℕ) where
  -- a leaf is the value of a member whose key ends there
  pub leaf_branch : (group : List (Path × V)) (first : Path × V) → first ≡ get_or group 0 first → 0 < length group → IsNestable level (keys_of group)
      → IsGroup level (keys_of group)
      → length first.0 ≡ level + 1 → IsTrue (is_key first.0) → IsWritable leaf first.1 (written first.1) → IsBranchOf leaf written level group (written first.1)
  leaf_branch group first e some nestable same ends valid writable =
      let h = begins group first e some in
      let none : h.others ≡ [] = alone level first h.others (rw h.are at nestable) (rw h.are at same) (omega (arith, ends)) in
      let ended : drop (level + 1) first.0 ≡ [] = drop_of_length-le first.0 (omega (arith, ends)) in
      let within = (IsKey-from first.0 valid).fits.few in
      rw (h.are, none) (record {
        leaves_are = leaves-no_object (written first.1) writable.no_object ∙ ap (λ k. (k, written first.1) ∷ []) (sym ended);
        sound = ((valid, writable), tt);
        readable = record {
          reads_back = writable.readable.reads_back;
          numbers = writable.readable.numbers;
          shallow =
              omega (arith, writable.readable.shallow, ends);
        };
      })

  -- an object is the value of a member whose keys go on
  pub object_branch : (group : List (Path × V)) (ms : Members) → 0 < length group → level < 32 → IsTreeOf leaf written (level + 1) group ms
      → IsBranchOf leaf written level group (object ms)
  object_branch group ms some shallow tree = record {
    leaves_are = leaves-object ms (omega (arith, ap length tree.leaves_are, length-map {B = Path × Data} group (λ p. (drop (level + 1) p.0, written p.1))))
        ∙ tree.leaves_are;
    sound = tree.sound;
    readable = record { reads_back = ap (option_map object) tree.reads_back; numbers = tree.numbers; shallow = omega (arith, tree.shallow) };
  }
