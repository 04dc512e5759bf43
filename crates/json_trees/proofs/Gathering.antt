-- The pairs of an object's members, one member after another.
use Rattle.std.proofs.Common.{◌≡◌, ℕ, List, [], ◌∷◌, ◌++◌, Option, Ok, Err, if◌then◌else◌, true, false, append_assoc, append-nil, sym, ap, ◌∙◌}
use Rattle.key_names.specs.Key.{is_key}
use Rattle.serde_json.specs.Data.{Data, null, boolean, number, string, array, object, Members, member}
use Rattle.json_trees.specs.Collected.{gathered}
use Rattle.json_trees.specs.Tree.{Path, entries, members_entries, entry_pairs, leaf_pairs, members_pairs, value_pairs, Appends}
use Rattle.json_trees.specs.declared.tree_error.TreeError.{TreeError}
use Rattle.json_trees.specs.declared.tree_error.TreeError.TheVariants.{BadKey}
use Rattle.json_trees.proofs.Collecting.{both, both-both, both-none, both-nothing, gathered-append}

-- the pairs of some first members are found and appended, and those of the members left are to come
pub record Gathering {V : Type 0} (leaf : Data → Option V) (path : Path) (whole left : Members) (old new : List (Path × V)) : Type 0 where
  pub found : List (Path × V)
  pub to_come : members_pairs leaf path whole ≡ both (Ok found) (members_pairs leaf path left)
  pub appended : new ≡ old ++ found

-- a key below a path is named by the name's bytes
pub named_by : (key path : Path) (name bytes : List ℕ) → key ≡ path ++ name ∷ [] → name ≡ bytes → key ≡ path ++ bytes ∷ []
named_by key path name bytes h k = h ∙ ap (λ n. path ++ n ∷ []) k

module _ {V : Type 0} (leaf : Data → Option V) where
  below_value : (path : Path) (d : Data) → both (leaf_pairs leaf path d) (gathered (entry_pairs leaf) (entries path d)) ≡ value_pairs leaf path d
  below_value path null = both-nothing _
  below_value path (boolean b) = both-nothing _
  below_value path (number n) = both-nothing _
  below_value path (string s) = both-nothing _
  below_value path (array ds) = both-nothing _
  below_value path (object ms) = sym (both-none _)

  -- where a member's path is a key, its pairs come first, and those of the other members after them
  pub members_pairs-member : (path key : Path) (name : List ℕ) (d : Data) (ms : Members) → key ≡ path ++ name ∷ [] → is_key key ≡ true
      → members_pairs leaf path (member name d ms) ≡ both (value_pairs leaf key d) (members_pairs leaf path ms)
  members_pairs-member path key name d ms named valid =
      let E = gathered (entry_pairs leaf) in
      ap (λ here. both (entry_pairs leaf (here, d)) (E (entries here d ++ members_entries path ms))) (sym named)
      ∙ ap (both (entry_pairs leaf (key, d))) (gathered-append (entry_pairs leaf) (entries key d) (members_entries path ms))
      ∙ both-both (entry_pairs leaf (key, d)) (E (entries key d)) (E (members_entries path ms))
      ∙ ap (λ test. both (both (if test then leaf_pairs leaf key d else Err BadKey) (E (entries key d))) (E (members_entries path ms))) valid
      ∙ ap (λ r. both r (E (members_entries path ms))) (below_value key d)

  -- where it is none, the member is refused
  pub members_pairs-no_key : (path : Path) (name : List ℕ) (d : Data) (ms : Members) → is_key (path ++ name ∷ []) ≡ false
      → members_pairs leaf path (member name d ms) ≡ Err BadKey
  members_pairs-no_key path name d ms no_key =
      let here = path ++ name ∷ [] in
      ap (λ test. both (if test then leaf_pairs leaf here d else Err BadKey) (gathered (entry_pairs leaf) (entries here d ++ members_entries path ms))) no_key

  -- at first nothing is found
  pub gathering_begun : (path : Path) (whole : Members) (old : List (Path × V)) → Gathering leaf path whole whole old old
  gathering_begun path whole old = record { found = []; to_come = both-none _; appended = sym (append-nil old) }

  -- one more member's pairs are found
  pub gathering_grown : (path key : Path) (whole rest : Members) (name : List ℕ) (d : Data) (left : Members) (old new newer : List (Path × V))
      → Gathering leaf path whole rest old new → rest ≡ member name d left → key ≡ path ++ name ∷ [] → is_key key ≡ true
      → Appends (value_pairs leaf key d) new newer
      → Gathering leaf path whole left old newer
  gathering_grown path key whole rest name d left old new newer so_far is named valid more = record {
    found = so_far.found ++ more.found;
    to_come =
        so_far.to_come ∙ ap (λ ms. both (Ok so_far.found) (members_pairs leaf path ms)) is
        ∙ ap (both (Ok so_far.found)) (members_pairs-member path key name d left named valid
        ∙ ap (λ r. both r (members_pairs leaf path left)) more.none_refused)
        ∙ both-both (Ok so_far.found) (Ok more.found) (members_pairs leaf path left);
    appended = more.appended ∙ ap (λ l. l ++ more.found) so_far.appended ∙ append_assoc old so_far.found more.found;
  }

  -- the first bad entry of a member is the first of all
  pub gathering_refused : (path key : Path) (whole rest : Members) (name : List ℕ) (d : Data) (left : Members) (old new : List (Path × V)) (e : TreeError)
      → Gathering leaf path whole rest old new → rest ≡ member name d left → key ≡ path ++ name ∷ [] → is_key key ≡ true → value_pairs leaf key d ≡ Err e
      → members_pairs leaf path whole ≡ Err e
  gathering_refused path key whole rest name d left old new e so_far is named valid refused =
      so_far.to_come ∙ ap (λ ms. both (Ok so_far.found) (members_pairs leaf path ms)) is
      ∙ ap (both (Ok so_far.found)) (members_pairs-member path key name d left named valid ∙ ap (λ r. both r (members_pairs leaf path left)) refused)

  -- a member whose path is no key is the first bad entry
  pub gathering_no_key : (path : Path) (whole rest : Members) (name : List ℕ) (d : Data) (left : Members) (old new : List (Path × V))
      → Gathering leaf path whole rest old new → rest ≡ member name d left → is_key (path ++ name ∷ []) ≡ false → members_pairs leaf path whole ≡ Err BadKey
  gathering_no_key path whole rest name d left old new so_far is no_key =
      so_far.to_come ∙ ap (λ ms. both (Ok so_far.found) (members_pairs leaf path ms)) is
      ∙ ap (both (Ok so_far.found)) (members_pairs-no_key path name d left no_key)
