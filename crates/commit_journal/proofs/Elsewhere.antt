-- What a change below a directory leaves alone.
use Rattle.std.proofs.Common.{◌≡◌, inl, inr, ℕ, List, ◌∷◌, ◌++◌, Option, Result, Ok, Err, refl}
use Rattle.outside.specs.Names.{Names}
use Rattle.outside.specs.Tree.{Node}
use Rattle.outside.specs.History.{replaced, synced, History, next}
use Rattle.outside.specs.Since.{IsAtOrSync, Touches}
use Rattle.outside.proofs.Goes.{goes_joined, tree_untouched, since_untouched_at}
use Rattle.commit_journal.specs.Files.{IsBelow}
use Rattle.commit_journal.specs.Stands.{ChangesOnlyBelow}
use Rattle.commit_journal.specs.Change.{PutsKept}
use Rattle.commit_journal.proofs.Steps.{goes_one, goes_none}

-- changes that touch no other path leave the others as they were
pub only_below : (dir : Names) (old new : History) → Touches (IsBelow dir) old new → ChangesOnlyBelow dir old new
only_below dir old new touches = record {
  touches = touches;
  tree = λ path apart. tree_untouched (IsBelow dir) old new touches path apart;
  crash_states = λ path apart. since_untouched_at (IsBelow dir) path apart old new touches;
}

-- a sync touches no path
pub touches_synced : (dir : Names) (old new : History) → new ≡ next synced old → Touches (IsBelow dir) old new
touches_synced dir old new is = goes_one (IsAtOrSync (IsBelow dir)) old new synced is tt

-- a node that is put below the directory touches no other path
pub touches_puts : (dir : Names) (name : List ℕ) (rest : Names) (now : Option Node) {E : Type 0} (result : Result Unit E) (old new : History)
    → PutsKept (dir ++ name ∷ rest) now result old new → Touches (IsBelow dir) old new
touches_puts dir name rest now (Ok done) old new is =
    let C = IsAtOrSync (IsBelow dir) in
    let put = next (replaced (dir ++ name ∷ rest) now) old in
    goes_joined C old put new (goes_one C old put (replaced (dir ++ name ∷ rest) now) refl (name, rest, refl)) (touches_synced dir put new is)
touches_puts dir name rest now (Err e) old new (inl is) = goes_none (IsAtOrSync (IsBelow dir)) old new is
touches_puts dir name rest now (Err e) old new (inr is) = goes_one (IsAtOrSync (IsBelow dir)) old new (replaced (dir ++ name ∷ rest) now) is (name, rest, refl)
