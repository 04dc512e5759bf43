-- Entries put in their places.
use Rattle.std.proofs.Common.{◌≡◌, inl, inr, List, [], ◌∷◌, ◌++◌, length, get_or, take, ℕ, zero, suc, ◌+◌}
use Rattle.std.proofs.Common.{◌<◌, Option, Some, None, Result, Ok, Err, OnOk, refl, sym, ◌∙◌, ap, subst, arith}
use Rattle.std.proofs.lemmas.List.{take_more, map-append}
use Rattle.std.proofs.lemmas.Result.{on_ok_weaker}
use Rattle.outside.specs.Names.{Names}
use Rattle.outside.specs.Told.{Moves}
use Rattle.outside.specs.Tree.{file, Tree, set_node}
use Rattle.outside.specs.History.{Change, replaced, scribbled, synced, History, tree_of}
use Rattle.outside.specs.Since.{GoesOn, IsAt}
use Rattle.outside.specs.DiskCalls.{Writes, Puts}
use Rattle.outside.proofs.Told.{moves_map, moves_stay, moves_then}
use Rattle.commit_journal.specs.Entries.{Entry, IsNamed}
use Rattle.commit_journal.specs.Files.{node_of}
use Rattle.commit_journal.specs.declared.placed_entry.PlacedEntry.{PlacedEntry}
use Rattle.commit_journal.specs.Placed.{places_of}
use Rattle.commit_journal.specs.Install.{installed, InstallsOne, HasInstalled, Installs}
use Rattle.outside.proofs.Goes.{goes_stay, goes_joined, goes_map}
use Rattle.commit_journal.proofs.Steps.{goes_one, goes_none}

-- a write in place
one_written : {E : Type 0} (path : Names) (bytes : List ℕ) (result : Result Unit E) (old new : History) → Writes path bytes result old new
    → InstallsOne path (Some bytes) result old new
one_written path bytes (Ok done) old new is = record {
  goes = goes_one (IsAt (λ at. at ≡ path)) old new (scribbled path (Some (file bytes))) is refl;
  done = ap tree_of is;
}
one_written path bytes (Err e) old new (inl is) = record {
  goes = goes_none (IsAt (λ at. at ≡ path)) old new is;
  done = tt;
}
one_written path bytes (Err e) old new (inr (found, kind, is)) = record {
  goes = goes_one (IsAt (λ at. at ≡ path)) old new (scribbled path found) is refl;
  done = tt;
}

-- a removal
one_removed : {E : Type 0} (path : Names) (result : Result Unit E) (old new : History) → Puts path None result old new → InstallsOne path None result old new
one_removed path (Ok done) old new is = record {
  goes = goes_one (IsAt (λ at. at ≡ path)) old new (replaced path None) is refl;
  done = ap tree_of is;
}
one_removed path (Err e) old new (inl is) = record {
  goes = goes_none (IsAt (λ at. at ≡ path)) old new is;
  done = tt;
}
one_removed path (Err e) old new (inr is) = record {
  goes = goes_one (IsAt (λ at. at ≡ path)) old new (replaced path None) is refl;
  done = tt;
}

-- what a device tells of a write in place
pub writes_one : {E : Type 0} (path : Names) (bytes : List ℕ) (result : Result Unit E) (a b : Option History) → Moves a b (Writes path bytes result)
    → Moves a b (InstallsOne path (Some bytes) result)
writes_one path bytes result a b m = moves_map (one_written path bytes result) m

-- what it tells of a removal
pub removes_one : {E : Type 0} (path : Names) (result : Result Unit E) (a b : Option History) → Moves a b (Puts path None result)
    → Moves a b (InstallsOne path None result)
removes_one path result a b m = moves_map (one_removed path result) m

pub ruleset ones = (writes_one, removes_one)

-- one more entry after the others
installed_more : (first : List Entry) (entry : Entry) (tree : Tree) → installed (first ++ entry ∷ []) tree ≡ set_node (installed first tree) entry.0
    (node_of entry.1)
installed_more [] entry tree = refl
installed_more (one ∷ first) entry tree = installed_more first entry (set_node tree one.0 (node_of one.1))

-- each entry is named
named_at : (entries : List PlacedEntry) (i : ℕ) (entry : PlacedEntry) → i < length entries → entry ≡ get_or entries i entry
    → IsNamed (places_of entries) entry.path
named_at [] i entry below is = absurd (omega arith)
named_at (one ∷ entries) zero entry below is = inl (ap (λ (s : PlacedEntry). s.path) is)
named_at (one ∷ entries) (suc i) entry below is = inr (named_at entries i entry (omega arith) is)

-- the places of one more entry
places_more : (entries : List PlacedEntry) (i : ℕ) (entry : PlacedEntry) → i < length entries → entry ≡ get_or entries i entry
    → places_of (take (i + 1) entries) ≡ places_of (take i entries) ++ (entry.path, entry.bytes) ∷ []
places_more entries i entry below is =
    ap places_of (take_more entries i entry below) ∙ map-append (λ (s : PlacedEntry). (s.path, s.bytes)) (take i entries) (get_or entries i entry ∷ [])
    ∙ ap (λ (s : PlacedEntry). places_of (take i entries) ++ (s.path, s.bytes) ∷ []) (sym is)

-- before the first entry
pub starts : (all : List Entry) (a : Option History) → Moves a a (HasInstalled all [])
starts all a = moves_stay (λ h. record { goes = goes_stay (IsAt (IsNamed all)) h; done = refl })

-- what one more entry changes
further : (entries : List PlacedEntry) (i : ℕ) (entry : PlacedEntry) → i < length entries → entry ≡ get_or entries i entry
    → {E : Type 0} (result : Result Unit E) (old mid new : History)
    → HasInstalled (places_of entries) (places_of (take i entries)) old mid → InstallsOne entry.path entry.bytes result mid new
    → GoesOn (IsAt (IsNamed (places_of entries))) old new × OnOk result (tree_of new ≡ installed (places_of (take (i + 1) entries)) (tree_of old))
further entries i entry below is result old mid new so_far one = (
  goes_joined C old mid new so_far.goes (goes_map (IsAt (λ at. at ≡ entry.path)) C mid new inside one.goes),
  on_ok_weaker result then one.done,
)
  where
    C : Change → Type 0
    C = IsAt (IsNamed (places_of entries))

    inside : (change : Change) → IsAt (λ at. at ≡ entry.path) change → C change
    inside (replaced at now) here = subst (λ p. IsNamed (places_of entries) p) (sym here) (named_at entries i entry below is)
    inside (scribbled at now) here = subst (λ p. IsNamed (places_of entries) p) (sym here) (named_at entries i entry below is)
    inside synced here = absurd here

    then : tree_of new ≡ set_node (tree_of mid) entry.path (node_of entry.bytes) → tree_of new ≡ installed (places_of (take (i + 1) entries)) (tree_of old)
    then e = e ∙ ap (λ (t : Tree). set_node t entry.path (node_of entry.bytes)) so_far.done
        ∙ sym (installed_more (places_of (take i entries)) (entry.path, entry.bytes) (tree_of old))
        ∙ ap (λ (l : List Entry). installed l (tree_of old)) (sym (places_more entries i entry below is))

-- one more entry is in its place
pub one_more : (entries : List PlacedEntry) (i : ℕ) (entry : PlacedEntry) (a b c : Option History) → i < length entries → entry ≡ get_or entries i entry
    → Moves a b (HasInstalled (places_of entries) (places_of (take i entries))) → {E : Type 0} (done : Unit)
    → Moves b c (InstallsOne {E = E} entry.path entry.bytes (Ok done)) → Moves a c (HasInstalled (places_of entries) (places_of (take (i + 1) entries)))
one_more entries i entry a b c below is m {E = E} done n = moves_then (λ old mid new so_far one. let r =
    further entries i entry below is {E = E} (Ok done) old mid new so_far one in record { goes = r.0; done = r.1 }) m n

-- the last of them fails
pub one_fails : (entries : List PlacedEntry) (i : ℕ) (entry : PlacedEntry) (a b c : Option History) → i < length entries → entry ≡ get_or entries i entry
    → Moves a b (HasInstalled (places_of entries) (places_of (take i entries))) → {E : Type 0} (e : E)
    → Moves b c (InstallsOne {E = E} entry.path entry.bytes (Err e)) → Moves a c (Installs {E = E} (places_of entries) (Err e))
one_fails entries i entry a b c below is m {E = E} e n = moves_then (λ old mid new so_far one.
    record { goes = (further entries i entry below is {E = E} (Err e) old mid new so_far one).0; done = tt }) m n

-- all are done
pub all_done : (all first : List Entry) {E : Type 0} (done : Unit) (a b : Option History) → first ≡ all → Moves a b (HasInstalled all first)
    → Moves a b (Installs {E = E} all (Ok done))
all_done all first {E = E} done a b same m = moves_map (λ old new so. record {
  goes = so.goes;
  done = so.done
      ∙ ap (λ (l : List Entry). installed l (tree_of old)) same;
}) m

pub ruleset all = (starts, one_more, one_fails, all_done)
