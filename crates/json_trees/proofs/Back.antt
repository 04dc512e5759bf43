-- A tree whose leaves are some pairs flattens to these pairs.
use Rattle.std.proofs.Common.{◌≡◌, ℕ, ◌<◌, List, [], ◌∷◌, ◌++◌, map, take, drop, length, Option}
use Rattle.std.proofs.Common.{Ok, ok_or, option_map, true, append_assoc, append-nil, length-append, refl, sym, ap, ◌∙◌, subst, arith}
use Rattle.std.proofs.lemmas.List.{take-append-drop, length-map}
use Rattle.std.specs.List.{AllByRecursion}
use Rattle.std.specs.Map.{keys_of}
use Rattle.key_names.specs.Key.{is_key}
use Rattle.serde_json.specs.Data.{Data, null, boolean, number, string, array, object, Members, no_members, member}
use Rattle.serde_json.specs.Find.{as_object}
use Rattle.json_trees.specs.Nested.{below, leaves, members_leaves, nested_entries, IsSound}
use Rattle.json_trees.specs.Tree.{Path, members_pairs, value_pairs}
use Rattle.json_trees.specs.declared.tree_error.TreeError.TheVariants.{BadValue}
use Rattle.json_trees.proofs.Collecting.{both}
use Rattle.json_trees.proofs.Gathering.{members_pairs-member}
use Rattle.json_trees.proofs.Segments.{is_key-first}

module _ {V : Type 0} (leaf : Data → Option V) (written : V → Data) where
  -- each pair is at the path of its entry below a path, and is written as its value
  abbrev Match : Path → List (Path × V) → List (Path × Data) → Type 0
  Match path [] [] = Unit {0}
  Match path [] (e ∷ entries) = ⊥
  Match path (p ∷ pairs) [] = ⊥
  Match path (p ∷ pairs) (e ∷ entries) = (p.0 ≡ path ++ e.0) × (e.1 ≡ written p.1) × Match path pairs entries

  -- the pairs of two lists of entries, one after the other
  record Cut (path : Path) (pairs : List (Path × V)) (first second : List (Path × Data)) : Type 0 where
    front : List (Path × V)
    back : List (Path × V)
    are : pairs ≡ front ++ back
    front_match : Match path front first
    back_match : Match path back second
    front_sound : AllByRecursion (IsSound leaf written) front
    back_sound : AllByRecursion (IsSound leaf written) back

  cut : (path : Path) (pairs : List (Path × V)) (first second : List (Path × Data)) → Match path pairs (first ++ second)
      → AllByRecursion (IsSound leaf written) pairs → Cut path pairs first second
  cut path pairs [] second h sound = record { front = []; back = pairs; are = refl; front_match = tt; back_match = h; front_sound = tt; back_sound = sound }
  cut path [] (e ∷ first) second h sound = absurd h
  cut path (p ∷ pairs) (e ∷ first) second h sound =
      let c = cut path pairs first second h.2 sound.1 in
      record {
        front = p ∷ c.front;
        back = c.back;
        are = ap (λ l. p ∷ l) c.are;
        front_match = (h.0, h.1, c.front_match);
        back_match = c.back_match;
        front_sound = (sound.0, c.front_sound);
        back_sound = c.back_sound;
      }

  Match-below : (path : Path) (name : List ℕ) (pairs : List (Path × V)) (entries : List (Path × Data)) → Match path pairs (map (below name) entries)
      → Match (path ++ name ∷ []) pairs entries
  Match-below path name [] [] h = tt
  Match-below path name [] (e ∷ entries) h = absurd h
  Match-below path name (p ∷ pairs) [] h = absurd h
  Match-below path name (p ∷ pairs) (e ∷ entries) h = (h.0 ∙ sym (append_assoc path (name ∷ []) e.0), h.1, Match-below path name pairs entries h.2)

  at_leaf : (key : Path) (d : Data) (pairs : List (Path × V)) → Match key pairs (([], d) ∷ []) → AllByRecursion (IsSound leaf written) pairs
      → ok_or (option_map (λ v. (key, v) ∷ []) (leaf d)) BadValue ≡ Ok pairs
  at_leaf key d [] h sound = absurd h
  at_leaf key d (p ∷ []) h sound =
      ap (λ o. ok_or (option_map (λ v. (key, v) ∷ []) o) BadValue) (ap leaf h.1 ∙ sound.0.1.reads_as)
      ∙ ap (λ k. Ok ((k, p.1) ∷ [])) (sym (h.0 ∙ append-nil key))
  at_leaf key d (p ∷ q ∷ pairs) h sound = absurd h.2

  no_empty : (key : Path) (pairs : List (Path × V)) → Match key pairs (([], object no_members) ∷ []) → AllByRecursion (IsSound leaf written) pairs → ⊥
  no_empty key [] h sound = h
  no_empty key (p ∷ pairs) h sound = let none = ap as_object h.1 ∙ sound.0.1.no_object in cc

  -- the entries of a value are one or more, so that its path begins a key
  first_key : (key : Path) (pairs : List (Path × V)) (entries : List (Path × Data)) → 0 < length key → 0 < length entries → Match key pairs entries
      → AllByRecursion (IsSound leaf written) pairs → is_key key ≡ true
  first_key key pairs [] some more h sound = absurd (omega arith)
  first_key key [] (e ∷ entries) some more h sound = absurd h
  first_key key (p ∷ pairs) (e ∷ entries) some more h sound = is_key-first key e.0 some (rw h.0 at sound.0.0)

  leaves_some : (d : Data) → 0 < length (leaves d)
  leaves_some null = omega arith
  leaves_some (boolean b) = omega arith
  leaves_some (number n) = omega arith
  leaves_some (string s) = omega arith
  leaves_some (array ds) = omega arith
  leaves_some (object no_members) = omega arith
  leaves_some (object (member name d ms)) = omega (
    arith,
    leaves_some d,
    length-append (map (below name) (leaves d)) (members_leaves ms),
    length-map
        {B = Path × Data} (leaves d) (below name),
  )

  mutual
    back_value : (key : Path) (d : Data) (pairs : List (Path × V)) → Match key pairs (leaves d) → AllByRecursion (IsSound leaf written) pairs
        → value_pairs leaf key d ≡ Ok pairs
    back_value key null pairs h sound = at_leaf key null pairs h sound
    back_value key (boolean b) pairs h sound = at_leaf key (boolean b) pairs h sound
    back_value key (number n) pairs h sound = at_leaf key (number n) pairs h sound
    back_value key (string s) pairs h sound = at_leaf key (string s) pairs h sound
    back_value key (array ds) pairs h sound = at_leaf key (array ds) pairs h sound
    back_value key (object no_members) pairs h sound = absurd (no_empty key pairs h sound)
    back_value key (object (member name d ms)) pairs h sound = back_members key (member name d ms) pairs h sound

    back_members : (path : Path) (ms : Members) (pairs : List (Path × V)) → Match path pairs (members_leaves ms) → AllByRecursion (IsSound leaf written) pairs
        → members_pairs leaf path ms ≡ Ok pairs
    back_members path no_members [] h sound = refl
    back_members path no_members (p ∷ pairs) h sound = absurd h
    back_members path (member name d ms) pairs h sound =
        let here = path ++ name ∷ [] in
        let c = cut path pairs (map (below name) (leaves d)) (members_leaves ms) h sound in
        let matched = Match-below path name c.front (leaves d) c.front_match in
        let valid = first_key here c.front (leaves d) (omega (arith, length-append path (name ∷ []))) (leaves_some d) matched c.front_sound in
        members_pairs-member leaf path here name d ms refl valid
        ∙ ap (λ r. both r (members_pairs leaf path ms)) (back_value here d c.front matched c.front_sound)
        ∙ ap (both (Ok c.front)) (back_members path ms c.back c.back_match c.back_sound) ∙ ap Ok (sym c.are)

  matches : (n : ℕ) (under : Path) (pairs : List (Path × V)) → AllByRecursion (λ key. take n key ≡ under) (keys_of pairs)
      → Match under pairs (nested_entries written n pairs)
  matches n under [] h = tt
  matches n under (p ∷ pairs) h = (sym (take-append-drop n p.0) ∙ ap (λ front. front ++ drop n p.0) h.0, refl, matches n under pairs h.1)

  -- below the first segments of the keys the members flatten to the pairs that are their leaves
  pub members_pairs-back : (n : ℕ) (under : Path) (pairs : List (Path × V)) (ms : Members) → AllByRecursion (λ key. take n key ≡ under) (keys_of pairs)
      → AllByRecursion (IsSound leaf written) pairs
      → members_leaves ms ≡ nested_entries written n pairs → members_pairs leaf under ms ≡ Ok pairs
  members_pairs-back n under pairs ms alike sound are = back_members under ms pairs (subst (λ l. Match under pairs l) (sym are) (matches n under pairs alike))
      sound
