-- The top-level names of a document, and its table `settings`.
use Rattle.std.proofs.Common.{◌≡◌, ℕ, List, [], Option, Some, None, Err, refl, sym, ap, ◌∙◌}
use Rattle.std.specs.Map.{keys_of}
use Rattle.json_trees.specs.Apart.{AreApart}
use Rattle.json_trees.specs.declared.scalar.Scalar.{Scalar}
use Rattle.json_trees.proofs.Parting.{AreApart-from_Pairwise}
use Rattle.settings_tree.specs.Content.{settings_key}
use Rattle.toml.specs.Data.{Data, string, integer, float, boolean, datetime, array, table, as_table, Members}
use Rattle.user_data.specs.Pairs.{Path, Pairs, settings, settings_pairs, members_pairs, fault_at}
use Rattle.user_data.specs.Refused.{Refuses, RefusesName}
use Rattle.toml_values.specs.Refused.{IsAt}
use Rattle.toml_values.specs.declared.located_fault.LocatedFault.{LocatedFault}
use Rattle.toml_values.specs.declared.located_fault.LocatedFault.TheVariants.{Fault, Memory}
use Rattle.user_data.specs.declared.user_data_error.UserDataKind.{UserDataKind}
use Rattle.user_data.specs.declared.user_data_error.UserDataKind.TheVariants.{NotSettings}

-- The refusal of a name is that of the first other name.
pub refuses_name : (found : Option (List ℕ)) (name : List ℕ) (e : LocatedFault UserDataKind) → found ≡ Some name → IsAt NotSettings name e → RefusesName found e
refuses_name found name Memory is at = tt
refuses_name found name (Fault kind text) is at = (at.0, is ∙ ap Some (sym at.1))

refuses_as : (pairs : Pairs) (e : LocatedFault UserDataKind) → pairs ≡ Err (fault_at NotSettings settings) → IsAt NotSettings settings e → Refuses pairs e
refuses_as pairs Memory is at = tt
refuses_as pairs (Fault k text) is at = is ∙ ap (λ (n : UserDataKind). Err (fault_at n settings)) (sym at.0)
    ∙ ap (λ (l : List ℕ). Err (fault_at k l)) (sym at.1)

-- What is under the name is a table.
pub table_pairs : (o : Option Data) (d : Data) (ms : Members) → o ≡ Some d → as_table d ≡ Some ms → settings_pairs o ≡ members_pairs settings_key ms
table_pairs o d ms there is = ap settings_pairs there ∙ by d is
  where
    by : (d : Data) → as_table d ≡ Some ms → settings_pairs (Some d) ≡ members_pairs settings_key ms
    by (string s) is = absurd (cc is)
    by (integer z) is = absurd (cc is)
    by (float x) is = absurd (cc is)
    by (boolean b) is = absurd (cc is)
    by (datetime t) is = absurd (cc is)
    by (array ds) is = absurd (cc is)
    by (table own) is = let same : own ≡ ms = cc in ap (members_pairs settings_key) same

-- Another value is there.
pub other_refuses : (o : Option Data) (d : Data) (e : LocatedFault UserDataKind) → o ≡ Some d → as_table d ≡ None → IsAt NotSettings settings e
    → Refuses (settings_pairs o) e
other_refuses o d e there is at = refuses_as (settings_pairs o) e (ap settings_pairs there ∙ by d is) at
  where
    by : (d : Data) → as_table d ≡ None → settings_pairs (Some d) ≡ Err (fault_at NotSettings settings)
    by (string s) is = refl
    by (integer z) is = refl
    by (float x) is = refl
    by (boolean b) is = refl
    by (datetime t) is = refl
    by (array ds) is = refl
    by (table own) is = absurd (cc is)

-- No keys are apart.
pub none_apart : (pairs : List (Path × Scalar)) → pairs ≡ [] → AreApart (keys_of pairs)
none_apart pairs none = rw none (AreApart-from_Pairwise [] tt)
