-- A journal that is on the disk is carried out.
use Rattle.std.proofs.Common.{◌≡◌, inl, inr, ◌⊎◌, false, true, List, [], ◌∷◌, ◌++◌, Some, None, Result, Ok, Err, OnOk, codes, refl, sym, ◌∙◌, ap, subst}
use Rattle.std.proofs.lemmas.Bool.{false≢true}
use Rattle.std.specs.List.{list_all}
use Rattle.outside.specs.Names.{Names}
use Rattle.outside.specs.Tree.{file, node_at, set_node}
use Rattle.outside.specs.History.{Change, replaced, scribbled, synced, History, next, tree_of, MayLeave, EachCrashState, IsSettled}
use Rattle.outside.specs.Since.{EachSince, GoesOn, IsAt, IsAtOrSync, Touches}
use Rattle.outside.proofs.Crash.{tree_is_crash_state, settled_synced, EachCrashState-replaced}
use Rattle.outside.proofs.Since.{since_now, since_next, since_syncs}
use Rattle.outside.proofs.Goes.{goes_joined, goes_map, since_goes, may_leave_at}
use Rattle.commit_journal.specs.Entries.{Entry, is_batch, is_entry, is_entry_path, IsNamed, placed}
use Rattle.commit_journal.specs.Files.{Files, files_below, IsBelow, with_node, laid}
use Rattle.commit_journal.specs.Journal.{journal_text}
use Rattle.commit_journal.specs.Stands.{journal, HasJournal, StandsFor, TreeStandsFor, IsSettledBelow, without_journal}
use Rattle.commit_journal.specs.Change.{PutsKept, InstallsKept, CarriesOut}
use Rattle.commit_journal.proofs.Texts.{all_entries, valid_parts}
use Rattle.commit_journal.proofs.Laid.{with_node_here, laid_equal, laid-with_node, named_placed, named_below, installed_placed, files_below-set_node}
use Rattle.commit_journal.proofs.Elsewhere.{touches_synced, touches_puts}

-- a path that no entry may have is not named
not_named : (path : Names) → is_entry_path path ≡ false → (entries : List Entry) → list_all is_entry entries ≡ true → IsNamed entries path → ⊥
not_named path other [] valid named = named
not_named path other (entry ∷ entries) valid (inl here) = false≢true (sym other ∙ ap is_entry_path here ∙ (valid_parts entry entries valid).1)
not_named path other (entry ∷ entries) valid (inr later) = not_named path other entries (valid_parts entry entries valid).3 later

-- no entry of a batch is the journal
pub journal_not_named : (entries : List Entry) → is_batch entries ≡ true → IsNamed entries journal → ⊥
journal_not_named entries valid named = not_named journal refl entries (all_entries entries valid) named

module _ (dir : Names) (entries : List Entry) (valid : is_batch entries ≡ true) (old : History) where
  -- what is below the directory at first
  abbrev found : Files
  found = files_below dir (tree_of old)

  -- what the directory represents once the journal is there
  abbrev over : Files
  over = laid entries (without_journal found)

  -- with the journal there, and all else as it was but for the entries' files
  stands_with : HasJournal found entries → (files : Files) → ((p : Names) → IsNamed entries p ⊎ (files p ≡ found p)) → StandsFor files over
  stands_with has files same = inr (
    entries,
    record { there = at (same journal); valid = valid },
    laid_equal entries (without_journal found)
        (without_journal files) (λ p. one p (same p)),
  )
    where
      at : IsNamed entries journal ⊎ (files journal ≡ files_below dir (tree_of old) journal) → files journal ≡ Some (file (journal_text entries))
      at (inl named) = absurd (journal_not_named entries valid named)
      at (inr is) = is ∙ has.there

      one : (p : Names) → IsNamed entries p ⊎ (files p ≡ files_below dir (tree_of old) p)
          → IsNamed entries p ⊎ (without_journal (files_below dir (tree_of old)) p ≡ without_journal files p)
      one p (inl named) = inl named
      one p (inr is) = inr (rw is refl)

  -- while the entries are put in their places, a crash leaves the journal and all other files
  during : IsSettledBelow dir old → HasJournal found entries → (h : History) → GoesOn (IsAt (IsNamed (placed dir entries))) old h
      → EachCrashState (TreeStandsFor dir over) h
  during settled has h goes crashed is = stands_with has (files_below dir crashed)
      (λ p. one p (may_leave_at (IsNamed (placed dir entries)) old h goes (dir ++ p) (node_at crashed (dir ++ p)) (is (dir ++ p))))
    where
      one : (p : Names) → MayLeave old (dir ++ p) (node_at crashed (dir ++ p)) ⊎ IsNamed (placed dir entries) (dir ++ p)
          → IsNamed entries p ⊎ (files_below dir crashed p ≡ files_below dir (tree_of old) p)
      one p (inl may) = inr (settled p (node_at crashed (dir ++ p)) may)
      one p (inr named) = inl (named_below dir entries p named)

  -- so it does until they are kept
  since_installs : {E : Type 0} (result : Result Unit E) (new : History) → IsSettledBelow dir old → HasJournal found entries
      → InstallsKept (placed dir entries) result old new → EachSince (TreeStandsFor dir over) old new
  since_installs (Ok done) new settled has (mid, goes, is, kept) =
      since_syncs (TreeStandsFor dir over) old mid new {E = Unit} (Ok tt)
      (since_goes (TreeStandsFor dir over) (IsAt (IsNamed (placed dir entries))) old mid (during settled has) goes) kept
  since_installs (Err e) new settled has goes = since_goes (TreeStandsFor dir over) (IsAt (IsNamed (placed dir entries))) old new (during settled has) goes

  -- the journal is taken away from files that are as its entries say
  without_it : (files : Files) → files ≡ laid entries found → with_node files journal None ≡ over
  without_it files is = ap (λ (f : Files). with_node f journal None) is ∙ sym (laid-with_node entries found journal None (journal_not_named entries valid))

  -- so the tree is left with what it represented
  ended : (h : History) → files_below dir (tree_of h) ≡ laid entries found → files_below dir (set_node (tree_of h) (dir ++ journal) None) ≡ over
  ended h is = files_below-set_node dir (tree_of h) journal None ∙ without_it (files_below dir (tree_of h)) is

  -- and represents it without a journal
  stands_ended : (files : Files) → files ≡ over → StandsFor files over
  stands_ended files is = inl (
    ap (λ (f : Files). f journal) (is ∙ sym (without_it (laid entries found) refl)) ∙ with_node_here (laid entries found) journal None journal refl,
    sym is,
  )

  -- while the journal is taken away, a crash leaves it or takes it away
  state_ends : (h : History) → IsSettled h → files_below dir (tree_of h) ≡ laid entries found → EachSince (TreeStandsFor dir over) old h
      → EachCrashState (TreeStandsFor dir over) (next (replaced (dir ++ journal) None) h)
  state_ends h settled is so_far crashed im = elim (EachCrashState-replaced h (dir ++ journal) None settled crashed im) [
    | inl was ↦ subst (TreeStandsFor dir over) (sym was) (since_now (TreeStandsFor dir over) old h so_far (tree_of h) (tree_is_crash_state h))
    | inr now ↦ stands_ended (files_below dir crashed) (ap (λ t. files_below dir t) now ∙ ended h is)
  ]

  -- so it does until it is kept away
  since_ends : {E : Type 0} (result : Result Unit E) (h new : History) → IsSettled h → files_below dir (tree_of h) ≡ laid entries found
      → EachSince (TreeStandsFor dir over) old h → PutsKept (dir ++ journal) None result h new → EachSince (TreeStandsFor dir over) old new
  since_ends (Ok done) h new settled is so_far kept =
      since_syncs (TreeStandsFor dir over) old (next (replaced (dir ++ journal) None) h) new {E = Unit} (Ok tt)
      (since_next (TreeStandsFor dir over) old h (replaced (dir ++ journal) None) so_far (state_ends h settled is so_far)) kept
  since_ends (Err e) h new settled is so_far (inl same) = subst (λ k. EachSince (TreeStandsFor dir over) old k) (sym same) so_far
  since_ends (Err e) h new settled is so_far (inr put) =
      subst (λ k. EachSince (TreeStandsFor dir over) old k) (sym put) (since_next (TreeStandsFor dir over) old h (replaced (dir ++ journal) None) so_far
      (state_ends h settled is so_far))

  -- entries that are kept are laid over the files
  done_installs : (E : Type 0) (done : Unit) (h : History) → InstallsKept {E = E} (placed dir entries) (Ok done) old h
      → files_below dir (tree_of h) ≡ laid entries found
  done_installs E done h (mid, goes, is, kept) = ap (λ k. files_below dir (tree_of k)) kept ∙ ap (λ t. files_below dir t) is
      ∙ installed_placed dir entries (tree_of old)

  -- a journal that is kept away leaves what it represented
  done_ends : {E : Type 0} (result : Result Unit E) (h new : History) → files_below dir (tree_of h) ≡ laid entries found
      → PutsKept (dir ++ journal) None result h new → OnOk result ((files_below dir (tree_of new) ≡ over) × IsSettled new)
  done_ends (Ok done) h new is kept = (
    ap (λ k. files_below dir (tree_of k)) kept ∙ ended h is,
    subst IsSettled (sym kept) (settled_synced (next (replaced (dir ++ journal) None) h)),
  )
  done_ends (Err e) h new is put = tt

  -- the place of an entry is below the directory
  below : (at : Names) → IsNamed (placed dir entries) at → IsBelow dir at
  below at named = let place = named_placed dir entries at named in go place.0 place.1 place.2
    where
      go : (rest : Names) → at ≡ dir ++ rest → IsNamed entries rest → IsBelow dir at
      go [] is here = absurd (not_named [] refl entries (all_entries entries valid) here)
      go (name ∷ rest) is here = (name, rest, is)

  -- a change at a place is one below the directory
  within : (change : Change) → IsAt (IsNamed (placed dir entries)) change → IsAtOrSync (IsBelow dir) change
  within (replaced at now) here = below at here
  within (scribbled at now) here = below at here
  within synced here = tt

  -- entries that are put in their places touch no path elsewhere
  touches_installs : {E : Type 0} (result : Result Unit E) (new : History) → InstallsKept (placed dir entries) result old new → Touches (IsBelow dir) old new
  touches_installs (Ok done) new (mid, goes, is, kept) =
      goes_joined (IsAtOrSync (IsBelow dir)) old mid new (goes_map (IsAt (IsNamed (placed dir entries))) (IsAtOrSync (IsBelow dir)) old mid within goes)
      (touches_synced dir mid new kept)
  touches_installs (Err e) new goes = goes_map (IsAt (IsNamed (placed dir entries))) (IsAtOrSync (IsBelow dir)) old new within goes

-- ---- both parts

-- the entries are not kept
pub carried_fails : (dir : Names) (entries : List Entry) (E : Type 0) (e : E) (old new : History) → is_batch entries ≡ true
    → InstallsKept {E = E} (placed dir entries) (Err e) old new → CarriesOut {E = E} (record { dir = dir; entries = entries }) (Err e) old new
carried_fails dir entries E e old new valid put = record {
  any_moment = λ settled has. since_installs dir entries valid old {E = E} (Err e) new settled has put;
  done = tt;
  others = touches_installs dir entries valid old {E = E} (Err e) new put;
}

-- the entries are kept, and then the journal is taken away or not
pub carried : (dir : Names) (entries : List Entry) (E : Type 0) (done : Unit) (result : Result Unit E) (old mid new : History) → is_batch entries ≡ true
    → InstallsKept {E = E} (placed dir entries) (Ok done) old mid → PutsKept (dir ++ journal) None result mid new
    → CarriesOut (record { dir = dir; entries = entries }) result old new
carried dir entries E done result old mid new valid put ends =
    let files = done_installs dir entries valid old E done mid put in
    let kept : IsSettled mid = subst IsSettled (sym put.3) (settled_synced put.0) in
    record {
      any_moment = λ settled has. since_ends dir entries valid old result mid new kept files
          (since_installs dir entries valid old {E = E} (Ok done) mid settled has put) ends;
      done = done_ends dir entries valid old result mid new files ends;
      others = goes_joined (IsAtOrSync (IsBelow dir)) old mid new (touches_installs dir entries valid old {E = E} (Ok done) mid put)
          (touches_puts dir (codes "journal") [] None result mid new ends);
    }
