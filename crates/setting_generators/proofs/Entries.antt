-- The entries of a table, read one after another.
use Rattle.std.proofs.Common.{◌≡◌, ◌++◌, ℕ, List, [], ◌∷◌, map, true, Ok, Err, inl, inr, append_assoc, append-nil, refl, sym, ap, ◌∙◌, subst}
use Rattle.std.specs.BTreeSet as tree
use Rattle.std.specs.List.{IsDistinct, list_any}
use Rattle.std.specs.Map.{keys_of}
use Rattle.std.specs.Ordering.{eq_by_cmp}
use Rattle.std.proofs.lemmas.List.{map-append}
use Rattle.std.proofs.lemmas.Map.Keys.{IsDistinct-push}
use Rattle.json_trees.specs.Collected.{result_map}
use Rattle.key_names.specs.Order.{key_cmp, keys_equal}
use Rattle.toml.specs.Data.{Data, Members, no_members, member}
use Rattle.toml_values.specs.Document.{named}
use Rattle.typed_settings.specs.declared.row.Row.{Row}
use Rattle.setting_generators.specs.Generators.{Path, Given, seen}
use Rattle.setting_generators.specs.Reading.{Outcome, IsGenerator, IsBad, Reads, with_first, fault_at}
use Rattle.setting_generators.specs.Refused.{RefusesEntry, RefusesTable}
use Rattle.setting_generators.proofs.SameKeys.{IsSame, same_generator, same_bad, same_more}
use Rattle.setting_generators.specs.declared.generator.Generator.{Generator}
use Rattle.toml_values.specs.declared.located_fault.LocatedFault.{LocatedFault}
use Rattle.toml_values.specs.declared.located_fault.LocatedFault.TheVariants.{Fault, Memory}
use Rattle.setting_generators.specs.declared.generators_error.GeneratorsKind.{GeneratorsKind}

-- An outcome after generators that were found.
abbrev pub behind : List Given → Outcome → Outcome
behind found outcome = result_map (λ generators. found ++ generators) outcome

-- What the entries left are read to, after the generators found, all are read to; the keys found differ, and are those of the set.
pub record Reading (table : List Row) (whole left : Members) (found : List Given) (taken : tree.BTreeSet Path) : Type 0 where
  pub goes_on : (o : Outcome) → Reads table (keys_of found) (named left) o → Reads table [] (named whole) (behind found o)
  pub distinct : IsDistinct (eq_by_cmp key_cmp) (keys_of found)
  pub same : IsSame taken.keys (keys_of found)

behind_none : (o : Outcome) → o ≡ behind [] o
behind_none (Ok gs) = refl
behind_none (Err e) = refl

behind_more : (found : List Given) (g : Given) (o : Outcome) → behind found (with_first g o) ≡ behind (found ++ g ∷ []) o
behind_more found g (Ok gs) = ap Ok (sym (append_assoc found (g ∷ []) gs))
behind_more found g (Err e) = refl

no_keys : IsDistinct (eq_by_cmp key_cmp) []
unfolding IsDistinct
no_keys = tt

pub begun : (table : List Row) (whole : Members) (found : List Generator) (taken : tree.BTreeSet Path) → found ≡ [] → tree.IsEmpty taken
    → Reading table whole whole (map seen found) taken
begun table whole found taken none empty =
    rw none (record {
      goes_on = λ o read. subst (Reads table [] (named whole)) (behind_none o) read;
      distinct = no_keys;
      same =
          λ q. ap (list_any (eq_by_cmp key_cmp q)) empty;
    })

module _ (table : List Row) (whole left rest : Members) (bytes name : List ℕ) (d : Data) (found : List Generator) (taken : tree.BTreeSet Path)
    (so_far : Reading table whole left (map seen found) taken) (is : left ≡ member name d rest) (same : bytes ≡ name) where
  -- One more entry is a generator.
  pub grown : (g : Generator) (more : List Generator) (taken_more : tree.BTreeSet Path) → more ≡ found ++ g ∷ []
      → tree.Updates key_cmp taken taken_more g.key true → IsGenerator table taken.keys (bytes, d) (seen g)
      → Reading table whole rest (map seen more) taken_more
  grown g more taken_more pushed updates own =
      let behind_found = same_generator table taken.keys (keys_of (map seen found)) so_far.same (bytes, d) (seen g) own in
      let here : IsGenerator table (keys_of (map seen found)) (name, d) (seen g) =
      subst (λ (n : List ℕ). IsGenerator table (keys_of (map seen found)) (n, d) (seen g)) same behind_found in
      let all : map seen more ≡ map seen found ++ seen g ∷ [] = ap (map seen) pushed ∙ map-append seen found (g ∷ []) in
      let keys : keys_of (map seen found ++ seen g ∷ []) ≡ keys_of (map seen found) ++ g.key ∷ [] =
      map-append (λ (x : Given). x.0) (map seen found) (seen g ∷ []) in
      rw all (record {
        goes_on = λ o read.
            let others : Reads table (keys_of (map seen found) ++ g.key ∷ []) (named rest) o =
            subst (λ (k : List Path). Reads table k (named rest) o) keys read in
            let both : Reads table (keys_of (map seen found)) (named left) (with_first (seen g) o) =
            subst (λ (ms : Members). Reads table (keys_of (map seen found)) (named ms) (with_first (seen g) o)) (sym is)
            (inl (record { generator = seen g; is = here; rest = o; others = others; outcome_is = refl })) in
            subst (Reads table [] (named whole)) (behind_more (map seen found) (seen g) o) (so_far.goes_on (with_first (seen g) o) both);
        distinct = rw keys (IsDistinct-push keys_equal (keys_of (map seen found)) g.key so_far.distinct here.key.new);
        same = rw keys (same_more taken taken_more (keys_of (map seen found)) g.key so_far.same updates);
      })

  -- The next entry is none.
  pub stopped : (e : LocatedFault GeneratorsKind) → RefusesEntry table taken.keys (bytes, d) e → RefusesTable table whole e
  stopped Memory refused = tt
  stopped (Fault kind at) refused =
      let behind_found = same_bad table taken.keys (keys_of (map seen found)) so_far.same (bytes, d) kind refused.0 in
      let bad : IsBad table (keys_of (map seen found)) (name, d) kind =
      subst (λ (n : List ℕ). IsBad table (keys_of (map seen found)) (n, d) kind) same behind_found in
      let none : Reads table (keys_of (map seen found)) (named left) (Err (fault_at kind name)) =
      subst (λ (ms : Members). Reads table (keys_of (map seen found)) (named ms) (Err (fault_at kind name))) (sym is)
      (inr (record { kind = kind; bad = bad; outcome_is = refl })) in
      subst (λ (n : List ℕ). Reads table [] (named whole) (Err (fault_at kind n))) (sym (refused.1 ∙ same)) (so_far.goes_on (Err (fault_at kind name)) none)

-- No entry is left.
pub ended : (table : List Row) (whole left : Members) (found : List Given) (taken : tree.BTreeSet Path) → Reading table whole left found taken
    → left ≡ no_members → Reads table [] (named whole) (Ok found)
ended table whole left found taken so_far is =
    let none : Reads table (keys_of found) (named left) (Ok []) = subst (λ (ms : Members). Reads table (keys_of found) (named ms) (Ok [])) (sym is) refl in
    subst (λ (gs : List Given). Reads table [] (named whole) (Ok gs)) (append-nil found) (so_far.goes_on (Ok []) none)
