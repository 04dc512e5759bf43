-- The keys of user data and of generators begin with `settings`.
use Rattle.std.proofs.Common.{◌≡◌, inl, inr, ℕ, IsTrue, All, not, List, [], ◌∷◌, ◌++◌, Option, Some, None, Ok, Err, ok_or, option_map, codes, refl, sym, subst}
use Rattle.std.specs.FinMap.{contains_key}
use Rattle.std.proofs.lemmas.List.Elements.{All-nil, All-cons, All-append, All-head, All-tail, All-filter}
use Rattle.std.proofs.lemmas.List.Sorted.{All-permutation}
use Rattle.key_names.specs.Key.{is_prefix}
use Rattle.json_trees.specs.Collected.{result_and_then}
use Rattle.json_trees.specs.declared.scalar.Scalar.{Scalar}
use Rattle.outside.specs.Spawner.{Question}
use Rattle.settings_tree.specs.Content.{Contents, settings_key}
use Rattle.toml.specs.Data.{Data, string, integer, float, boolean, datetime, array, table, Members, no_members, member, get_member}
use Rattle.toml_values.specs.Document.{table_of, other_name}
use Rattle.toml_values.specs.Values.{scalar_of}
use Rattle.typed_settings.specs.declared.row.Row.{Row}
use Rattle.user_data.specs.Pairs.{Path, Pairs, settings, fault_at, printed_path, where_key}
use Rattle.user_data.specs.Pairs.{joined, value_pairs, members_pairs, settings_pairs, where_none, document_pairs, pairs_of}
use Rattle.user_data.specs.declared.user_data_error.UserDataError.{UserDataError}
use Rattle.user_data.specs.declared.user_data_error.UserDataKind.TheVariants.{NotToml, BadValue}
use Rattle.setting_generators.specs.Generators.{Given}
use Rattle.setting_generators.specs.Reading as reading
use Rattle.setting_generators.specs.Reading.{Entry, Reads, Spells, with_first}
use Rattle.setting_generators.specs.Asking.{Generated, wanted, with_pair, AreAsked}
use Rattle.user_data.proofs.Parted.{kept}

abbrev Begins : Path → Type 0
Begins key = IsTrue (is_prefix settings_key key)

abbrev AllBegin : List (Path × Scalar) → Type 0
AllBegin pairs = All (λ pair. IsTrue (is_prefix settings_key pair.0)) pairs

begins_on : (path : Path) (name : List ℕ) → Begins path → Begins (path ++ name ∷ [])
begins_on [] name is = absurd (cc is)
begins_on (first ∷ rest) name is = is

none_begin : (pairs : List (Path × Scalar)) → ◌≡◌ {A = Pairs} (Ok []) (Ok pairs) → AllBegin pairs
none_begin pairs is = let none : [] ≡ pairs = cc is in subst AllBegin none (All-nil (λ pair. Begins pair.0))

-- ---- user data

leaf_begins : (path : Path) (o : Option Scalar) (e : UserDataError) (pairs : List (Path × Scalar)) → Begins path
    → ok_or (option_map (λ v. (path, v) ∷ []) o) e ≡ Ok pairs → AllBegin pairs
leaf_begins path None e pairs begins is = absurd (cc is)
leaf_begins path (Some v) e pairs begins is =
    let one : (path, v) ∷ [] ≡ pairs = cc is in
    subst AllBegin one (All-cons (λ pair. Begins pair.0) (path, v) [] begins (All-nil (λ pair. Begins pair.0)))

joined_begin : (front back : Pairs) (pairs : List (Path × Scalar)) → ((xs : List (Path × Scalar)) → front ≡ Ok xs → AllBegin xs)
    → ((ys : List (Path × Scalar)) → back ≡ Ok ys → AllBegin ys) → joined front back ≡ Ok pairs → AllBegin pairs
joined_begin (Err e) back pairs one two is = absurd (cc is)
joined_begin (Ok xs) (Err e) pairs one two is = absurd (cc is)
joined_begin (Ok xs) (Ok ys) pairs one two is =
    let both : xs ++ ys ≡ pairs = cc is in subst AllBegin both (All-append (λ pair. Begins pair.0) xs ys (one xs refl) (two ys refl))

mutual
  value_begins : (path : Path) → Begins path → (d : Data) (pairs : List (Path × Scalar)) → value_pairs path d ≡ Ok pairs → AllBegin pairs
  value_begins path begins (string s) pairs is = leaf_begins path (scalar_of (string s)) (fault_at BadValue (printed_path path)) pairs begins is
  value_begins path begins (integer z) pairs is = leaf_begins path (scalar_of (integer z)) (fault_at BadValue (printed_path path)) pairs begins is
  value_begins path begins (float x) pairs is = leaf_begins path (scalar_of (float x)) (fault_at BadValue (printed_path path)) pairs begins is
  value_begins path begins (boolean b) pairs is = leaf_begins path (scalar_of (boolean b)) (fault_at BadValue (printed_path path)) pairs begins is
  value_begins path begins (datetime t) pairs is = leaf_begins path (scalar_of (datetime t)) (fault_at BadValue (printed_path path)) pairs begins is
  value_begins path begins (array ds) pairs is = leaf_begins path (scalar_of (array ds)) (fault_at BadValue (printed_path path)) pairs begins is
  value_begins path begins (table ms) pairs is = members_begin path begins ms pairs is

  members_begin : (path : Path) → Begins path → (ms : Members) (pairs : List (Path × Scalar)) → members_pairs path ms ≡ Ok pairs → AllBegin pairs
  members_begin path begins no_members pairs is = none_begin pairs is
  members_begin path begins (member name d ms) pairs is =
      joined_begin (where_key (path ++ name ∷ []) (value_pairs (path ++ name ∷ []) d)) (members_pairs path ms) pairs
      (λ xs here. value_begins (path ++ name ∷ []) (begins_on path name begins) d xs (kept (path ++ name ∷ []) (value_pairs (path ++ name ∷ []) d) xs here))
      (λ ys here. members_begin path begins ms ys here) is

under_settings : (o : Option Data) (pairs : List (Path × Scalar)) → settings_pairs o ≡ Ok pairs → AllBegin pairs
under_settings None pairs is = none_begin pairs is
under_settings (Some (string s)) pairs is = absurd (cc is)
under_settings (Some (integer z)) pairs is = absurd (cc is)
under_settings (Some (float x)) pairs is = absurd (cc is)
under_settings (Some (boolean b)) pairs is = absurd (cc is)
under_settings (Some (datetime t)) pairs is = absurd (cc is)
under_settings (Some (array ds)) pairs is = absurd (cc is)
under_settings (Some (table ms)) pairs is = members_begin settings_key refl ms pairs is

without_others : (o : Option (List ℕ)) (all : Pairs) (pairs : List (Path × Scalar)) → where_none o all ≡ Ok pairs → all ≡ Ok pairs
without_others None all pairs is = is
without_others (Some name) all pairs is = absurd (cc is)

-- The keys of user data do.
pub data_begin : (text : List ℕ) (pairs : List (Path × Scalar)) → pairs_of text ≡ Ok pairs → AllBegin pairs
data_begin text pairs is = by (table_of text) is where
  by : (o : Option Members) → result_and_then document_pairs (ok_or o (fault_at NotToml (codes "-"))) ≡ Ok pairs → AllBegin pairs
  by None is = absurd (cc is)
  by (Some document) is =
      under_settings (get_member settings document) pairs
      (without_others (other_name (settings ∷ []) document) (settings_pairs (get_member settings document)) pairs is)

-- ---- generators

abbrev GivenBegin : List Given → Type 0
GivenBegin given = All (λ g. IsTrue (is_prefix settings_key g.0)) given

listed_rest : (first : Given) (listed : List Given) (rest : reading.Outcome) → Ok listed ≡ with_first first rest
    → (others : List Given) × (rest ≡ Ok others) × (first ∷ others ≡ listed)
listed_rest first listed (Ok others) is = (others, refl, cc (sym is))
listed_rest first listed (Err e) is = absurd (cc is)

listed_begin : (rows : List Row) (keys : List Path) (entries : List Entry) (listed : List Given) → Reads rows keys entries (Ok listed) → GivenBegin listed
listed_begin rows keys [] listed is = let none : [] ≡ listed = cc (sym is) in subst GivenBegin none (All-nil (λ g. Begins g.0))
listed_begin rows keys (entry ∷ entries) listed (inl on) =
    let rest = listed_rest on.generator listed on.rest on.outcome_is in
    subst GivenBegin rest.2
    (All-cons (λ g. Begins g.0) on.generator rest.0 on.is.key.begins
    (listed_begin rows (keys ++ on.generator.0 ∷ []) entries rest.0 (subst (Reads rows (keys ++ on.generator.0 ∷ []) entries) rest.1 on.others)))
listed_begin rows keys (entry ∷ entries) listed (inr stops) = absurd (cc stops.outcome_is)

-- The keys of generators do,
pub spelled_begin : (rows : List Row) (text : List ℕ) (given : List Given) → Spells rows text given → GivenBegin given
spelled_begin rows text given is =
    All-permutation (λ g. Begins g.0) is.listed given is.in_order (listed_begin rows [] _ is.listed is.entries)

answered_rest : (key : Path) (value : Scalar) (pairs : List (Path × Scalar)) (rest : Generated) → Ok pairs ≡ with_pair key value rest
    → (others : List (Path × Scalar)) × (rest ≡ Ok others) × ((key, value) ∷ others ≡ pairs)
answered_rest key value pairs (Ok others) is = (others, refl, cc (sym is))
answered_rest key value pairs (Err e) is = absurd (cc is)

answered_begin : (given : List Given) (questions : List Question) (pairs : List (Path × Scalar)) → GivenBegin given → AreAsked given questions (Ok pairs)
    → AllBegin pairs
answered_begin [] questions pairs begin is = let none : [] ≡ pairs = cc (sym is.1) in subst AllBegin none (All-nil (λ pair. Begins pair.0))
answered_begin (g ∷ given) questions pairs begin (inl on) =
    let rest = answered_rest g.0 on.value pairs on.rest on.generated_is in
    subst AllBegin rest.2
    (All-cons (λ pair. Begins pair.0) (g.0, on.value) rest.0 (All-head (λ g. Begins g.0) g given begin)
    (answered_begin given on.others rest.0 (All-tail (λ g. Begins g.0) g given begin) (subst (AreAsked given on.others) rest.1 on.goes_on)))
answered_begin (g ∷ given) questions pairs begin (inr stops) = absurd (cc stops.generated_is)

-- and those of the pairs that they give.
pub pairs_begin : (live : Contents) (given : List Given) (questions : List Question) (pairs : List (Path × Scalar)) → GivenBegin given
    → AreAsked (wanted live given) questions (Ok pairs) → AllBegin pairs
pairs_begin live given questions pairs begin asked =
    answered_begin (wanted live given) questions pairs (All-filter (λ g. not (contains_key live.values g.0)) (λ g. Begins g.0) given begin) asked
