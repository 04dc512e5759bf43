-- The pairs of the members of a table, one member after another.
use Rattle.std.proofs.Common.{◌≡◌, ℕ, List, [], ◌∷◌, ◌++◌, Ok, String, Global, string_bytes, Less, append_assoc, append-nil, sym, ap, ◌∙◌, subst}
use Rattle.std.specs.List.{AllByRecursion}
use Rattle.std.specs.List.Sorted.{IsStrictlySortedBy}
use Rattle.std.specs.Map.{keys_of}
use Rattle.std.specs.String.{string_cmp}
use Rattle.key_names.specs.Order.{bytes_cmp}
use Rattle.json_trees.proofs.Collecting.{both-none, both-both}
use Rattle.json_trees.specs.declared.scalar.Scalar.{Scalar}
use Rattle.toml.specs.Data.{Data, Members, no_members, member}
use Rattle.toml.specs.View.{members_view}
use Rattle.toml.specs.declared.value.Value.{Value}
use Rattle.toml_values.specs.Document.{named}
use Rattle.user_data.specs.Pairs.{Path, Pairs, joined, entry_pairs, members_pairs}
use Rattle.user_data.specs.Refused.{Appends, Refuses}
use Rattle.user_data.specs.Rising.{NamesRise, ValuesRise, HasRisingNames}
use Rattle.toml_values.specs.declared.located_fault.LocatedFault.{LocatedFault}
use Rattle.toml_values.specs.declared.located_fault.LocatedFault.TheVariants.{Fault, Memory}
use Rattle.user_data.specs.declared.user_data_error.UserDataKind.{UserDataKind}

-- The pairs of some first members are found and appended, and those of the members left are to come.
pub record Gathering (path : Path) (whole left : Members) (old new : List (Path × Scalar)) : Type 0 where
  pub found : List (Path × Scalar)
  pub to_come : members_pairs path whole ≡ joined (Ok found) (members_pairs path left)
  pub appended : new ≡ old ++ found
  pub rise : ValuesRise left → ValuesRise whole

-- At first nothing is found.
pub begun : (path : Path) (whole : Members) (old : List (Path × Scalar)) → Gathering path whole whole old old
begun path whole old = record { found = []; to_come = both-none _; appended = sym (append-nil old); rise = λ h. h }

module _ (path : Path) (whole rest : Members) (bytes name : List ℕ) (d : Data) (left : Members) (old new : List (Path × Scalar))
    (so_far : Gathering path whole rest old new) (is : rest ≡ member name d left) (same : bytes ≡ name) where
  here : entry_pairs (path ++ bytes ∷ []) d ≡ entry_pairs (path ++ name ∷ []) d
  here = ap (λ (n : List ℕ). entry_pairs (path ++ n ∷ []) d) same

  -- One more member's pairs are found.
  pub grown : (newer : List (Path × Scalar)) → Appends (entry_pairs (path ++ bytes ∷ []) d) new newer → HasRisingNames d → Gathering path whole left old newer
  grown newer more rises = record {
    found = so_far.found ++ more.found;
    to_come =
        so_far.to_come ∙ ap (λ (ms : Members). joined (Ok so_far.found) (members_pairs path ms)) is
        ∙ ap (λ (r : Pairs). joined (Ok so_far.found) (joined r (members_pairs path left))) (sym here ∙ more.none_refused)
        ∙ both-both (Ok so_far.found) (Ok more.found) (members_pairs path left);
    appended = more.appended ∙ ap (λ (l : List (Path × Scalar)). l ++ more.found) so_far.appended ∙ append_assoc old so_far.found more.found;
    rise = λ later. so_far.rise (subst ValuesRise (sym is) (rises, later));
  }

  -- The first refusal of a member is the first of all.
  pub stopped : (e : LocatedFault UserDataKind) → Refuses (entry_pairs (path ++ bytes ∷ []) d) e → Refuses (members_pairs path whole) e
  stopped Memory refused = tt
  stopped (Fault kind at) refused =
      so_far.to_come ∙ ap (λ (ms : Members). joined (Ok so_far.found) (members_pairs path ms)) is
      ∙ ap (λ (r : Pairs). joined (Ok so_far.found) (joined r (members_pairs path left))) (sym here ∙ refused)

-- At last all are found.
pub ended : (path : Path) (whole rest : Members) (old new : List (Path × Scalar)) → Gathering path whole rest old new → rest ≡ no_members
    → Appends (members_pairs path whole) old new
ended path whole rest old new so_far is = record {
  found = so_far.found;
  none_refused = so_far.to_come ∙ ap (λ (ms : Members). joined (Ok so_far.found) (members_pairs path ms)) is ∙ ap Ok (append-nil so_far.found);
  appended = so_far.appended;
}

pub all_rise : (path : Path) (whole rest : Members) (old new : List (Path × Scalar)) → Gathering path whole rest old new → rest ≡ no_members → ValuesRise whole
all_rise path whole rest old new so_far is = so_far.rise (subst ValuesRise (sym is) tt)

names_above : (k : String Global) (entries : List (String Global × Value)) → AllByRecursion (λ y. string_cmp k y ≡ Less) (keys_of entries)
    → AllByRecursion (λ entry. bytes_cmp (string_bytes k) entry.0 ≡ Less) (named (members_view entries))
names_above k [] h = tt
names_above k (e ∷ entries) h = (h.0, names_above k entries h.1)

-- The names of a table rise.
pub names_rise : (entries : List (String Global × Value)) → IsStrictlySortedBy string_cmp (keys_of entries) → NamesRise (members_view entries)
unfolding IsStrictlySortedBy
names_rise [] h = tt
names_rise (e ∷ entries) h = (names_above e.0 entries h.0, names_rise entries h.1)
