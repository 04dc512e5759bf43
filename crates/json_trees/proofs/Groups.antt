-- Keys of which the first share a name.
use Rattle.std.proofs.Common.{◌≡◌, ◌≢◌, ℕ, zero, suc, ◌+◌, ◌<◌, ◌⊎◌, inl, inr, List, [], ◌∷◌}
use Rattle.std.proofs.Common.{◌++◌, map, take, drop, length, get_or, Less, refl, sym, ap, ◌∙◌, arith, add-one}
use Rattle.std.proofs.Math.Seq.{drop-cons, take-suc}
use Rattle.std.specs.List.{AllByRecursion}
use Rattle.std.specs.Map.{keys_of}
use Rattle.std.proofs.lemmas.List.{map-append}
use Rattle.key_names.specs.Order.{bytes_cmp, bytes_total}
use Rattle.json_trees.specs.Apart.{Parts}
use Rattle.json_trees.specs.Nested.{name_of, first_name, IsNestable, IsGroup, AreLater}
use Rattle.json_trees.specs.Tree.{Path}
use Rattle.json_trees.proofs.Parting.{AllByRecursion-append, AllByRecursion-weaker}

-- a key that goes on beyond a level goes on with its name there
pub drop-name : (level : ℕ) (key : Path) → level < length key → drop level key ≡ name_of level key ∷ drop (suc level) key
drop-name level key h = drop-cons key level [] h

-- keys that part at a level or later part at its name, or have the same
pub parts_at : (level : ℕ) (k l : Path) → level < length k → level < length l → Parts (drop level k) (drop level l)
    → (bytes_cmp (name_of level k) (name_of level l) ≡ Less) ⊎ ((name_of level k ≡ name_of level l) × Parts (drop (suc level) k) (drop (suc level) l))
parts_at level k l h w parted = rw (drop-name level k h, drop-name level l w) at parted

-- what holds of each key holds of that of a pair at an index
pub key_at : {V : Type 0} (P : Path → Type 0) (pairs : List (Path × V)) (i : ℕ) (d : Path × V) → AllByRecursion P (keys_of pairs) → i < length pairs
    → P (get_or pairs i d).0
key_at P [] i d h w = absurd (omega arith)
key_at P (p ∷ pairs) zero d h w = h.0
key_at P (p ∷ pairs) (suc i) d h w = key_at P pairs i d h.1 (omega arith)

-- what holds of the keys of the first pairs, and of that of the next, holds of both
pub key_more : {V : Type 0} (P : Path → Type 0) (pairs : List (Path × V)) (i : ℕ) (d : Path × V) → i < length pairs → AllByRecursion P (keys_of (take i pairs))
    → P (get_or pairs i d).0
    → AllByRecursion P (keys_of (take (i + 1) pairs))
key_more P pairs i d w h here =
    let one_more : keys_of (take (i + 1) pairs) ≡ keys_of (take i pairs) ++ (get_or pairs i d).0 ∷ [] =
    ap (λ n. keys_of (take n pairs)) (add-one i) ∙ ap keys_of (take-suc pairs i d w) ∙ map-append (λ p. p.0) (take i pairs) (get_or pairs i d ∷ []) in
    rw one_more (AllByRecursion-append P (keys_of (take i pairs)) ((get_or pairs i d).0 ∷ []) h (here, tt))

-- keys with one name are a group
pub group_of : (level : ℕ) (name : List ℕ) (keys : List Path) → AllByRecursion (λ key. name_of level key ≡ name) keys → IsGroup level keys
group_of level name [] h = tt
group_of level name (key ∷ keys) h = AllByRecursion-weaker (λ k. name_of level k ≡ name) (λ k. name_of level k ≡ name_of level key) (key ∷ keys)
    (λ k e. e ∙ sym h.0) h

later_than : (level : ℕ) (first key : Path) (keys : List Path) → level < length key → bytes_cmp (name_of level first) (name_of level key) ≡ Less
    → AllByRecursion (λ k. level < length k) keys → AllByRecursion (λ k. Parts (drop level key) k) (map (λ k. drop level k) keys)
    → AreLater level (name_of level first) keys
later_than level first key [] h before longer parted = tt
later_than level first key (k ∷ keys) h before longer parted = (
  by (parts_at level key k h longer.0 parted.0),
  later_than level first key keys h before longer.1
      parted.1,
)
  where
    by : (bytes_cmp (name_of level key) (name_of level k) ≡ Less) ⊎ ((name_of level key ≡ name_of level k) × Parts (drop (suc level) key) (drop (suc level) k))
        → bytes_cmp (name_of level first) (name_of level k) ≡ Less
    by (inl less) = bytes_total.trans (name_of level first) (name_of level key) (name_of level k) before less
    by (inr same) = ap (bytes_cmp (name_of level first)) (sym same.0) ∙ before

later_from : {V : Type 0} (level : ℕ) (first : Path) (pairs : List (Path × V)) (n : ℕ) (d : Path × V) → level < length first → IsNestable level (keys_of pairs)
    → AllByRecursion (λ k. Parts (drop level first) k) (map (λ k. drop level k) (keys_of pairs)) → n < length pairs
    → name_of level (get_or pairs n d).0 ≢ name_of level first
    → AreLater level (name_of level first) (keys_of (drop n pairs))
later_from level first [] n d h nestable parted w other = absurd (omega arith)
later_from level first (p ∷ pairs) zero d h nestable parted w other =
    let less : bytes_cmp (name_of level first) (name_of level p.0) ≡ Less = by (parts_at level first p.0 h nestable.longer.0 parted.0) in
    (less, later_than level first p.0 (keys_of pairs) nestable.longer.0 less nestable.longer.1 nestable.parted.0)
  where
    by : (bytes_cmp (name_of level first) (name_of level p.0) ≡ Less) ⊎ ((name_of level first ≡ name_of level p.0)
        × Parts (drop (suc level) first) (drop (suc level) p.0))
        → bytes_cmp (name_of level first) (name_of level p.0) ≡ Less
    by (inl less) = less
    by (inr same) = absurd (other (sym same.0))
later_from level first (p ∷ pairs) (suc n) d h nestable parted w other =
    later_from level first pairs n d h (record { longer = nestable.longer.1; parted = nestable.parted.1 }) parted.1 (omega arith) other

-- from the first key with another name on, the names come later
pub later_names : {V : Type 0} (level : ℕ) (pairs : List (Path × V)) (n : ℕ) (d : Path × V) → IsNestable level (keys_of pairs) → n < length pairs
    → name_of level (get_or pairs n d).0 ≢ first_name level (keys_of pairs) → AreLater level (first_name level (keys_of pairs)) (keys_of (drop n pairs))
later_names level [] n d nestable w other = absurd (omega arith)
later_names level (p ∷ pairs) zero d nestable w other = absurd (other refl)
later_names level (p ∷ pairs) (suc n) d nestable w other =
    later_from level p.0 pairs n d nestable.longer.0 (record { longer = nestable.longer.1; parted = nestable.parted.1 }) nestable.parted.0 (omega arith) other

-- the first key's name is that of the first pair's key
pub first_name-at : {V : Type 0} (level : ℕ) (pairs : List (Path × V)) (d : Path × V) → 0 < length pairs
    → first_name level (keys_of pairs) ≡ name_of level (get_or pairs 0 d).0
first_name-at level [] d h = absurd (omega arith)
first_name-at level (p ∷ pairs) d h = refl

-- the name of the first pair's key is the first key's name
pub named : {V : Type 0} (level : ℕ) (pairs : List (Path × V)) (first : Path × V) (name : List ℕ) → first ≡ get_or pairs 0 first → 0 < length pairs
    → name ≡ name_of level first.0 → name ≡ first_name level (keys_of pairs)
named level pairs first name e some is = is ∙ ap (λ p. name_of level p.0) e ∙ sym (first_name-at level pairs first some)
