-- An object that is written member by member.
use Rattle.std.proofs.Common.{◌≡◌, ℕ, zero, suc, ◌+◌, ◌-◌, ◌<◌, ◌≤◌, List, [], ◌∷◌, ◌++◌, map, take, drop, length}
use Rattle.std.proofs.Common.{Option, Some, None, option_map, option_and_then, Less, Greater, append_assoc}
use Rattle.std.proofs.Common.{append-nil, refl, sym, ap, ◌∙◌, subst, arith, add-one, length-take-le}
use Rattle.std.specs.List.{AllByRecursion}
use Rattle.std.specs.Map.{keys_of}
use Rattle.std.specs.Ordering.{ordering_reverse}
use Rattle.std.proofs.lemmas.List.{map-append, take-append-drop}
use Rattle.json.specs.Token.{Token, begin_object, end_object, key}
use Rattle.json.specs.Tree.{members_tokens, MembersHaveNumbers}
use Rattle.key_names.specs.Order.{bytes_cmp, bytes_total}
use Rattle.serde_json.specs.Data.{Data, object, Members, no_members, member, put, members_depth}
use Rattle.serde_json.specs.Read.{of_json, of_members}
use Rattle.serde_json.specs.Written.{outline, members_outline}
use Rattle.json_trees.specs.Apart.{Parts, Pairwise}
use Rattle.json_trees.specs.Nested.{below, leaves, members_leaves, nested_entries, name_of, first_name}
use Rattle.json_trees.specs.Nested.{IsNestable, IsGroup, AreLater, IsSound, IsTreeOf, IsBranchOf}
use Rattle.json_trees.specs.Tree.{Path}
use Rattle.json_trees.specs.Written.{data_tokens, IsReadable}
use Rattle.json_trees.proofs.Groups.{drop-name}
use Rattle.json_trees.proofs.Parting.{AllByRecursion-append}
use Rattle.json_trees.proofs.RisingNames.{AllNames}

-- the members, with one more at the end
abbrev with_last : Members → List ℕ → Data → Members
with_last no_members name d = member name d no_members
with_last (member other e ms) name d = member other e (with_last ms name d)

-- the tokens of the members, without the bracket that closes the object
abbrev front_tokens : Members → List Token
front_tokens no_members = []
front_tokens (member name d ms) = key name ∷ (data_tokens d ++ front_tokens ms)

-- each name of the members comes before a key's name at a level
abbrev AllBefore : ℕ → Members → Path → Type 0
AllBefore level ms k = AllNames (λ name. bytes_cmp name (name_of level k) ≡ Less) ms

-- some first pairs are members that were written, and the rest are to come, with later names
pub record Nesting {V : Type 0} (leaf : Data → Option V) (written : V → Data) (level : ℕ) (pairs rest : List (Path × V)) (start now : List Token) : Type 0 where
  pub members : Members
  pub done : List (Path × V)
  pub split : pairs ≡ done ++ rest
  pub tree : IsTreeOf leaf written level done members
  pub tokens : now ≡ start ++ front_tokens members
  pub nestable : IsNestable level (keys_of rest)
  pub ahead : AllByRecursion (AllBefore level members) (keys_of rest)

AllByRecursion-first : {X : Type 0} (P : X → Type 0) (xs ys : List X) → AllByRecursion P (xs ++ ys) → AllByRecursion P xs
AllByRecursion-first P [] ys h = tt
AllByRecursion-first P (x ∷ xs) ys h = (h.0, AllByRecursion-first P xs ys h.1)

AllByRecursion-second : {X : Type 0} (P : X → Type 0) (xs ys : List X) → AllByRecursion P (xs ++ ys) → AllByRecursion P ys
AllByRecursion-second P [] ys h = h
AllByRecursion-second P (x ∷ xs) ys h = AllByRecursion-second P xs ys h.1

heads : (level : ℕ) (k : Path) (group others : List Path) → AllByRecursion (λ l. Parts (drop level k) l) (map (λ k. drop level k) (group ++ others))
    → AllByRecursion (λ l. Parts (drop level k) l) (map (λ k. drop level k) group)
heads level k [] others h = tt
heads level k (l ∷ group) others h = (h.0, heads level k group others h.1)

-- ---- one more member

members_leaves-with_last : (ms : Members) (name : List ℕ) (d : Data) → members_leaves (with_last ms name d) ≡ members_leaves ms ++ map (below name) (leaves d)
members_leaves-with_last no_members name d = append-nil (map (below name) (leaves d))
members_leaves-with_last (member other e ms) name d =
    ap (λ l. map (below other) (leaves e) ++ l) (members_leaves-with_last ms name d)
    ∙ sym (append_assoc (map (below other) (leaves e)) (members_leaves ms) (map (below name) (leaves d)))

front_tokens-with_last : (ms : Members) (name : List ℕ) (d : Data) → front_tokens (with_last ms name d) ≡ front_tokens ms ++ key name ∷ data_tokens d
front_tokens-with_last no_members name d = ap (λ l. key name ∷ l) (append-nil (data_tokens d))
front_tokens-with_last (member other e ms) name d =
    ap (λ l. key other ∷ (data_tokens e ++ l)) (front_tokens-with_last ms name d)
    ∙ ap (λ l. key other ∷ l) (sym (append_assoc (data_tokens e) (front_tokens ms) (key name ∷ data_tokens d)))

-- the tokens of an object are those of its members in brackets
data_tokens-object : (ms : Members) → data_tokens (object ms) ≡ begin_object ∷ (front_tokens ms ++ end_object ∷ [])
data_tokens-object ms = ap (λ l. begin_object ∷ l) (by ms)
  where
    by : (ms : Members) → members_tokens (members_outline ms) ≡ front_tokens ms ++ end_object ∷ []
    by no_members = refl
    by (member name d ms) = ap (λ l. key name ∷ (data_tokens d ++ l)) (by ms)
        ∙ ap (λ l. key name ∷ l) (sym (append_assoc (data_tokens d) (front_tokens ms) (end_object ∷ [])))

-- a member whose name comes after all others goes last
put-last : (name : List ℕ) (d : Data) (ms : Members) → AllNames (λ other. bytes_cmp other name ≡ Less) ms → put name d ms ≡ with_last ms name d
put-last name d no_members h = refl
put-last name d (member other e ms) h =
    let greater : bytes_cmp name other ≡ Greater = bytes_total.antisymm name other ∙ ap ordering_reverse h.0 in
    rw greater (ap (member other e) (put-last name d ms h.1))

of_members-with_last : (ms found : Members) (name : List ℕ) (d : Data) → of_json (outline d) ≡ Some d
    → of_members (members_outline (with_last ms name d)) found ≡ option_map (put name d) (of_members (members_outline ms) found)
of_members-with_last no_members found name d h = ap (option_and_then (λ x. Some (put name x found))) h
of_members-with_last (member other e ms) found name d h = by (of_json (outline e)) (λ x. of_members-with_last ms (put other x found) name d h)
  where
    by : (o : Option Data) → ((x : Data) → of_members (members_outline (with_last ms name d)) (put other x found) ≡ option_map (put name d)
        (of_members (members_outline ms) (put other x found)))
        → option_and_then (λ x. of_members (members_outline (with_last ms name d)) (put other x found)) o
        ≡ option_map (put name d) (option_and_then (λ x. of_members (members_outline ms) (put other x found)) o)
    by None rest = refl
    by (Some x) rest = rest x

numbers-with_last : (ms : Members) (name : List ℕ) (d : Data) (most : ℕ) → MembersHaveNumbers (members_outline ms) → IsReadable most d
    → MembersHaveNumbers (members_outline (with_last ms name d))
numbers-with_last no_members name d most h r = (r.numbers, tt)
numbers-with_last (member other e ms) name d most h r = (h.0, numbers-with_last ms name d most h.1 r)

depth-with_last : (ms : Members) (name : List ℕ) (d : Data) (most : ℕ) → members_depth ms ≤ most → IsReadable most d
    → members_depth (with_last ms name d) ≤ most
depth-with_last no_members name d most h r = omega (arith, r.shallow)
depth-with_last (member other e ms) name d most h r = omega (arith, depth-with_last ms name d most (omega arith) r)

AllNames-with_last : (P : List ℕ → Type 0) (ms : Members) (name : List ℕ) (d : Data) → AllNames P ms → P name → AllNames P (with_last ms name d)
AllNames-with_last P no_members name d h k = (k, tt)
AllNames-with_last P (member other e ms) name d h k = (h.0, AllNames-with_last P ms name d h.1 k)

-- ---- keys of a group, and those after it

nestable_first : (level : ℕ) (group others : List Path) → IsNestable level (group ++ others) → IsNestable level group
nestable_first level group others h = record {
  longer = AllByRecursion-first (λ k. level < length k) group others h.longer;
  parted =
      parted level group others h.parted;
}
  where
    parted : (level : ℕ) (group others : List Path) → Pairwise Parts (map (λ k. drop level k) (group ++ others))
        → Pairwise Parts (map (λ k. drop level k) group)
    parted level [] others h = tt
    parted level (k ∷ group) others h = (heads level k group others h.0, parted level group others h.1)

nestable_second : (level : ℕ) (group others : List Path) → IsNestable level (group ++ others) → IsNestable level others
nestable_second level [] others h = h
nestable_second level (k ∷ group) others h = nestable_second level group others (record { longer = h.longer.1; parted = h.parted.1 })

all_none : (level : ℕ) (keys : List Path) → AllByRecursion (AllBefore level no_members) keys
all_none level [] = tt
all_none level (k ∷ keys) = (tt, all_none level keys)

-- entries of one name are those below the name
entries_below : {V : Type 0} (written : V → Data) (level : ℕ) (name : List ℕ) (group : List (Path × V)) → AllByRecursion (λ k. level < length k) (keys_of group)
    → AllByRecursion (λ k. name_of level k ≡ name) (keys_of group) → map (below name) (nested_entries written (level + 1) group) ≡ nested_entries written level
    group
entries_below written level name [] longer same = refl
entries_below written level name (p ∷ group) longer same =
    let path : name ∷ drop (level + 1) p.0 ≡ drop level p.0 =
    ap (λ n. name ∷ drop n p.0) (add-one level) ∙ ap (λ n. n ∷ drop (suc level) p.0) (sym same.0) ∙ sym (drop-name level p.0 longer.0) in
    ap (λ l. (name ∷ drop (level + 1) p.0, written p.1) ∷ l) (entries_below written level name group longer.1 same.1)
    ∙ ap (λ k. (k, written p.1) ∷ nested_entries written level group) path

grown_ahead : (level : ℕ) (ms : Members) (name : List ℕ) (d : Data) (keys : List Path) → AllByRecursion (AllBefore level ms) keys → AreLater level name keys
    → AllByRecursion (AllBefore level (with_last ms name d)) keys
grown_ahead level ms name d [] h later = tt
grown_ahead level ms name d (k ∷ keys) h later = (
  AllNames-with_last (λ other. bytes_cmp other (name_of level k) ≡ Less) ms name d h.0 later.0,
  grown_ahead
      level ms name d keys h.1 later.1,
)

-- a group that is cut off has one or more keys
pub cut_some : {V : Type 0} (rest group : List (Path × V)) (n : ℕ) → group ≡ take n rest → 0 < n → n ≤ length rest → 0 < length group
cut_some rest group n front some within = omega (arith, ap length front, length-take-le n rest within)

first_name-take : {V : Type 0} (level : ℕ) (rest : List (Path × V)) (n : ℕ) → 0 < n → first_name level (keys_of (take n rest)) ≡ first_name level (keys_of rest)
first_name-take level rest zero h = absurd (omega arith)
first_name-take level [] (suc n) h = refl
first_name-take level (p ∷ rest) (suc n) h = refl

-- the first of some nestable keys are so
pub nestable_take : {V : Type 0} (level : ℕ) (rest : List (Path × V)) (n : ℕ) → IsNestable level (keys_of rest) → IsNestable level (keys_of (take n rest))
nestable_take level rest n h =
    let cut : keys_of rest ≡ keys_of (take n rest) ++ keys_of (drop n rest) = ap keys_of (sym (take-append-drop n rest))
    ∙ map-append (λ p. p.0) (take n rest) (drop n rest) in
    nestable_first level (keys_of (take n rest)) (keys_of (drop n rest)) (rw cut at h)

-- ---- the steps

module _ {V : Type 0} (leaf : Data → Option V) (written : V → Data) (level : ℕ) where
  -- at first no member is written
  pub nesting_begun : (pairs : List (Path × V)) (start : List Token) → IsNestable level (keys_of pairs) → Nesting leaf written level pairs pairs start start
  nesting_begun pairs start nestable = record {
    members = no_members;
    done = [];
    split = refl;
    tree = record { leaves_are = refl; sound = tt; reads_back = refl; numbers = tt; shallow = omega arith };
    tokens = sym (append-nil start);
    nestable = nestable;
    ahead = all_none level (keys_of pairs);
  }

  grown_tree : (done group : List (Path × V)) (ms : Members) (name : List ℕ) (d : Data) → IsTreeOf leaf written level done ms
      → IsBranchOf leaf written level group d
      → AllByRecursion (λ k. level < length k) (keys_of group) → AllByRecursion (λ k. name_of level k ≡ name) (keys_of group)
      → AllNames (λ other. bytes_cmp other name ≡ Less) ms
      → IsTreeOf leaf written level (done ++ group) (with_last ms name d)
  grown_tree done group ms name d tree branch longer same before = record {
    leaves_are =
        members_leaves-with_last ms name d ∙ ap (λ l. l ++ map (below name) (leaves d)) tree.leaves_are
        ∙ ap (λ l. nested_entries written level done ++ map (below name) l) branch.leaves_are
        ∙ ap (λ l. nested_entries written level done ++ l) (entries_below written level name group longer same)
        ∙ sym (map-append (λ p. (drop level p.0, written p.1)) done group);
    sound = AllByRecursion-append (IsSound leaf written) done group tree.sound branch.sound;
    reads_back =
        of_members-with_last ms no_members name d branch.readable.reads_back ∙ ap (option_map (put name d)) tree.reads_back
        ∙ ap Some (put-last name d ms before);
    numbers = numbers-with_last ms name d (32 - level) tree.numbers branch.readable;
    shallow = depth-with_last ms name d (32 - level) tree.shallow branch.readable;
  }

  -- one more member is written
  nesting_grown : (pairs rest group others : List (Path × V)) (d : Data) (start now later : List Token) → Nesting leaf written level pairs rest start now
      → rest ≡ group ++ others
      → 0 < length group → IsGroup level (keys_of group) → AreLater level (first_name level (keys_of group)) (keys_of others)
      → IsBranchOf leaf written level group d
      → later ≡ now ++ key (first_name level (keys_of group)) ∷ data_tokens d → Nesting leaf written level pairs others start later
  nesting_grown pairs rest [] others d start now later so_far split some same after branch tokens = absurd (omega arith)
  nesting_grown pairs rest (p ∷ group) others d start now later so_far split some same after branch tokens =
      let name = name_of level p.0 in
      let keys : keys_of rest ≡ keys_of (p ∷ group) ++ keys_of others = ap keys_of split ∙ map-append (λ q. q.0) (p ∷ group) others in
      let nestable : IsNestable level (keys_of (p ∷ group) ++ keys_of others) = rw keys at so_far.nestable in
      let ahead : AllByRecursion (AllBefore level so_far.members) (keys_of (p ∷ group) ++ keys_of others) = rw keys at so_far.ahead in
      record {
        members = with_last so_far.members name d;
        done = so_far.done ++ p ∷ group;
        split = so_far.split ∙ ap (λ l. so_far.done ++ l) split ∙ sym (append_assoc so_far.done (p ∷ group) others);
        tree = grown_tree so_far.done (p ∷ group) so_far.members name d so_far.tree branch
            (nestable_first level (keys_of (p ∷ group)) (keys_of others) nestable).longer same ahead.0;
        tokens =
            tokens ∙ ap (λ l. l ++ key name ∷ data_tokens d) so_far.tokens ∙ append_assoc start (front_tokens so_far.members) (key name ∷ data_tokens d)
            ∙ ap (λ l. start ++ l) (sym (front_tokens-with_last so_far.members name d));
        nestable = nestable_second level (keys_of (p ∷ group)) (keys_of others) nestable;
        ahead = grown_ahead level so_far.members name d (keys_of others)
            (AllByRecursion-second (AllBefore level so_far.members) (keys_of (p ∷ group)) (keys_of others) ahead) after;
      }

  -- the same, where the group is cut off the rest
  pub nesting_cut : (pairs rest group others : List (Path × V)) (n : ℕ) (d : Data) (start now later : List Token)
      → Nesting leaf written level pairs rest start now
      → group ≡ take n rest → others ≡ drop n rest → 0 < n → n ≤ length rest → IsGroup level (keys_of (take n rest))
      → AreLater level (first_name level (keys_of rest)) (keys_of (drop n rest))
      → IsBranchOf leaf written level group d → later ≡ now ++ key (first_name level (keys_of group)) ∷ data_tokens d
      → Nesting leaf written level pairs others start later
  nesting_cut pairs rest group others n d start now later so_far front back some within same after branch tokens =
      let cut : rest ≡ group ++ others = sym (ap (λ l. l ++ others) front ∙ ap (λ l. take n rest ++ l) back ∙ take-append-drop n rest) in
      let named : first_name level (keys_of rest) ≡ first_name level (keys_of group) =
      sym (ap (λ l. first_name level (keys_of l)) front ∙ first_name-take level rest n some) in
      let behind : AreLater level (first_name level (keys_of group)) (keys_of others) = rw (← named, back) after in
      nesting_grown pairs rest group others d start now later so_far cut (cut_some rest group n front some within) (rw front same) behind branch tokens

  -- at last all members are written, and the object is closed
  pub nesting_ended : (pairs rest : List (Path × V)) (old start now final : List Token) → Nesting leaf written level pairs rest start now → length rest ≡ 0
      → start ≡ old ++ begin_object ∷ []
      → final ≡ now ++ end_object ∷ [] → (ms : Members) × IsTreeOf leaf written level pairs ms × (final ≡ old ++ data_tokens (object ms))
  nesting_ended pairs (p ∷ rest) old start now final so_far none begun ended = absurd (omega arith)
  nesting_ended pairs [] old start now final so_far none begun ended = (
    so_far.members,
    subst (λ l. IsTreeOf leaf written level l so_far.members) (sym (so_far.split ∙ append-nil so_far.done)) so_far.tree,
    ended ∙ ap (λ l. l ++ end_object ∷ []) (so_far.tokens ∙ ap (λ l. l ++ front_tokens so_far.members) begun)
        ∙ append_assoc (old ++ begin_object ∷ []) (front_tokens so_far.members) (end_object ∷ [])
        ∙ append_assoc old (begin_object ∷ []) (front_tokens so_far.members ++ end_object ∷ [])
        ∙ ap (λ l. old ++ l) (sym (data_tokens-object so_far.members)),
  )
