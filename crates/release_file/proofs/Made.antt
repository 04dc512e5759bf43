-- What a release keeps of its parts follows from the entries that spell them.
use Rattle.std.proofs.Common.{◌≡◌, ℕ, Bool, true, false, ◌&&◌, ◌||◌, List, [], ◌∷◌, map, Option, Some, refl, sym, ◌∙◌, ap}
use Rattle.std.specs.Prelude.{is_some, unwrap_or}
use Rattle.std.specs.List.{AllByRecursion, list_all}
use Rattle.std.specs.List.Sorted.{IsPermutation, IsStrictlySortedBy}
use Rattle.std.specs.declared.cmp.Ordering.{Ordering}
use Rattle.std.specs.declared.cmp.Ordering.TheVariants.{Less, Equal, Greater}
use Rattle.std.specs.Ordering.{is_lt, is_eq, eq_by_cmp, match_ordering}
use Rattle.std.proofs.lemmas.Bool.{false≢true}
use Rattle.std.proofs.lemmas.List.Sorted.{All-permutation}
use Rattle.std.proofs.lemmas.List.Sums.{AllPass-from_list_all, list_all-from_AllPass}
use Rattle.key_names.specs.Order.{bytes_cmp}
use Rattle.toml.specs.Data.{Data, Members, no_members, member, get_member}
use Rattle.toml_values.specs.Document.{named}
use Rattle.release_file.specs.Checks.{is_defined, known_check}
use Rattle.release_file.specs.Fields.{texts_of}
use Rattle.release_file.specs.Reading.{AreNamed, AreTransitions}
use Rattle.release_file.specs.Refused.{Passes, Refuses}
use Rattle.toml_values.specs.Refused.{IsAt}
use Rattle.toml_values.specs.declared.located_fault.LocatedFault.{LocatedFault}
use Rattle.release_file.specs.declared.release_error.ReleaseKind.{ReleaseKind}
use Rattle.release_file.specs.declared.release_error.ReleaseKind.TheVariants.{UnknownMigration}
use Rattle.release_file.proofs.Checking.{refuses_first}
use Rattle.release_file.specs.Release.{leads_on, are_named_rising, is_known, names_known}
use Rattle.release_file.specs.declared.transition.Transition.{Transition}
use Rattle.release_file.specs.declared.work.Named.{Named}

both_true : (a b : Bool) → a ≡ true → b ≡ true → (a && b) ≡ true
both_true true b one two = two
both_true false b one two = one

-- What holds of each in one order holds of each in another.
pub all_moved : (p : Transition → Bool) (listed sorted : List Transition) → IsPermutation listed sorted → list_all p listed ≡ true → list_all p sorted ≡ true
all_moved p listed sorted moved all = list_all-from_AllPass p sorted (All-permutation (λ t. p t ≡ true) listed sorted moved
    (AllPass-from_list_all p listed all))

-- Each transition leads to a later version.
pub all_lead_on : (es : List (List ℕ × Data)) (ts : List Transition) → AreTransitions es ts → list_all leads_on ts ≡ true
all_lead_on [] [] all = refl
all_lead_on [] (t ∷ ts) all = absurd all
all_lead_on (e ∷ es) [] all = absurd all
all_lead_on (e ∷ es) (t ∷ ts) all = both_true (leads_on t) (list_all leads_on ts) all.0.pair.before (all_lead_on es ts all.1)

-- A name among the members is that of a migration.
named_known : (ms : Members) (ns : List Named) (name : List ℕ) → AreNamed (named ms) ns → is_defined ms name ≡ true → is_known ns name ≡ true
named_known no_members ns name all there = absurd (false≢true there)
named_known (member own d ms) [] name all there = absurd all
named_known (member own d ms) (n ∷ ns) name all there =
    let first : eq_by_cmp bytes_cmp name n.name ≡ is_eq (bytes_cmp name own) = ap (eq_by_cmp bytes_cmp name) all.0.name_is in
    ap (λ b. b || is_known ns name) first ∙ by (bytes_cmp name own) (named_known ms ns name all.1) there
  where
    by : (r : Ordering) → (is_defined ms name ≡ true → is_known ns name ≡ true) → is_some (match_ordering r (get_member name ms) (Some d) (get_member name ms))
        ≡ true → (is_eq r || is_known ns name) ≡ true
    by Less later found = later found
    by Equal later found = refl
    by Greater later found = later found

all_known : (ms : Members) (ns : List Named) (names : List (List ℕ)) → AreNamed (named ms) ns → list_all (is_defined ms) names ≡ true
    → list_all (is_known ns) names ≡ true
all_known ms ns [] all there = refl
all_known ms ns (name ∷ names) all there =
    let parts = both_parts (is_defined ms name) (list_all (is_defined ms) names) there in
    both_true (is_known ns name) (list_all (is_known ns) names) (named_known ms ns name all parts.0) (all_known ms ns names all parts.1)
  where
    both_parts : (a b : Bool) → (a && b) ≡ true → (a ≡ true) × (b ≡ true)
    both_parts true b e = (refl, e)
    both_parts false b e = absurd (false≢true e)

-- Where those checks hold, each transition's names are those of migrations.
pub names_are_known : (ms : Members) (ns : List Named) (es : List (List ℕ × Data)) (ts : List Transition) → AreNamed (named ms) ns → AreTransitions es ts
    → Passes (map (known_check ms) es) → list_all (names_known ns) ts ≡ true
names_are_known ms ns [] [] all are hold = refl
names_are_known ms ns [] (t ∷ ts) all are hold = absurd are
names_are_known ms ns (e ∷ es) [] all are hold = absurd are
names_are_known ms ns (e ∷ es) (t ∷ ts) all are hold =
    both_true (names_known ns t) (list_all (names_known ns) ts)
    (all_known ms ns t.names.items all (ap (λ (o : Option (List (List ℕ))). list_all (is_defined ms) (unwrap_or o [])) (sym are.0.names_are) ∙ hold.0))
    (names_are_known ms ns es ts all are.1 hold.1)

-- A name that is that of no migration is refused.
pub known_refused : (ms : Members) (entry : List ℕ × Data) (names : List (List ℕ)) (e : LocatedFault ReleaseKind) → Some names ≡ texts_of entry.1
    → list_all (is_defined ms) names ≡ false → IsAt UnknownMigration entry.0 e → Refuses (known_check ms entry ∷ []) e
known_refused ms entry names e is none at =
    refuses_first (known_check ms entry) [] e (λ holds. false≢true (sym none ∙ ap (λ (o : Option (List (List ℕ))). list_all (is_defined ms) (unwrap_or o [])) is
    ∙ holds)) at

-- Migrations whose names rise.
pub named_rise : (ns : List Named) → IsStrictlySortedBy bytes_cmp (map (λ n. n.name) ns) → are_named_rising ns ≡ true
unfolding IsStrictlySortedBy
named_rise [] rising = refl
named_rise (n ∷ ns) rising = both_true (list_all (λ m. is_lt (bytes_cmp n.name m.name)) ns) (are_named_rising ns) (above ns rising.0) (named_rise ns rising.1)
  where
    above : (ms : List Named) → AllByRecursion (λ name. bytes_cmp n.name name ≡ Less) (map (λ m. m.name) ms)
        → list_all (λ m. is_lt (bytes_cmp n.name m.name)) ms ≡ true
    above [] all = refl
    above (m ∷ ms) all = both_true (is_lt (bytes_cmp n.name m.name)) (list_all (λ m. is_lt (bytes_cmp n.name m.name)) ms) (ap is_lt all.0) (above ms all.1)
