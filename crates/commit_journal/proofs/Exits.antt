-- What the exits of a change leave.
use Rattle.std.proofs.Common.{◌≡◌, inl, true, List, [], ◌++◌, ℕ, codes, Option, Some, None, Result, Ok, Err, OnErr, ◌∙◌, ap, subst}
use Rattle.std.proofs.lemmas.Result.{on_ok_weaker}
use Rattle.outside.specs.Names.{Names}
use Rattle.outside.specs.Tree.{file}
use Rattle.outside.specs.History.{History}
use Rattle.outside.specs.Since.{IsAtOrSync}
use Rattle.outside.specs.Told.{Moves}
use Rattle.outside.proofs.Told.{moves_map, moves_then}
use Rattle.outside.proofs.Goes.{goes_joined}
use Rattle.commit_journal.specs.declared.placed_entry.PlacedEntry.{PlacedEntry}
use Rattle.commit_journal.specs.Entries.{Entry, Changes, is_batch}
use Rattle.commit_journal.specs.Files.{IsBelow}
use Rattle.commit_journal.specs.Journal.{journal_text}
use Rattle.commit_journal.specs.Stands.{journal}
use Rattle.commit_journal.specs.Change.{PutsKept, InstallsKept, CarriesOut, Commits}
use Rattle.commit_journal.specs.Placed.{entries_of, places_of, AreParts}
use Rattle.commit_journal.proofs.Carried.{carried, carried_fails}
use Rattle.commit_journal.proofs.Changed.{since_put, put_failed, since_carried, carry_failed, is_made}
use Rattle.commit_journal.proofs.Elsewhere.{only_below, touches_puts}

-- ---- a journal is carried out

module _ (dir path : Names) (text : List ℕ) (all found : List PlacedEntry) (batch : Changes) (is : record { dir = dir; entries = entries_of all } ≡ batch)
    (parts : AreParts dir path text all) (same : found ≡ all) where
  -- the entries are not kept
  pub carry_fails : (a b : Option History) {E : Type 0} (e : E) → Moves a b (InstallsKept {E = E} (places_of found) (Err e))
      → Moves a b (CarriesOut {E = E} batch (Err e))
  carry_fails a b {E = E} e m =
      subst (λ k. Moves a b (CarriesOut {E = E} k (Err e))) is
      (moves_map (λ old new put. carried_fails dir (entries_of all) E e old new parts.text_is.valid
      (subst (λ (l : List Entry). InstallsKept {E = E} l (Err e) old new) (ap places_of same ∙ parts.places_are) put)) m)

  -- the entries are kept
  pub carry_ends : (a b c : Option History) {E : Type 0} (done : Unit) (result : Result Unit E) → Moves a b (InstallsKept {E = E} (places_of found) (Ok done))
      → Moves b c (PutsKept path None result) → Moves a c (CarriesOut batch result)
  carry_ends a b c {E = E} done result m n =
      subst (λ k. Moves a c (CarriesOut k result)) is
      (moves_then (λ old mid new put ends. carried dir (entries_of all) E done result old mid new parts.text_is.valid
      (subst (λ (l : List Entry). InstallsKept {E = E} l (Ok done) old mid) (ap places_of same ∙ parts.places_are) put)
      (subst (λ p. PutsKept p None result mid new) parts.path_is ends)) m n)

-- ---- a change

-- what holds anyhow holds after an error
any_err : {T E P : Type 0} (r : Result T E) → P → OnErr r P
any_err (Ok v) p = tt
any_err (Err e) p = p

module _ (path : Names) (text : List ℕ) (batch : Changes) (parts : (path ≡ batch.dir ++ journal) × (text ≡ journal_text batch.entries)
    × (is_batch batch.entries ≡ true)) where
  -- what is put is the journal of the batch, at its place
  at_place : {E : Type 0} (result : Result Unit E) (old new : History) → PutsKept path (Some (file text)) result old new
      → PutsKept (batch.dir ++ journal) (Some (file (journal_text batch.entries))) result old new
  at_place result old new put = subst (λ (l : List ℕ). PutsKept (batch.dir ++ journal) (Some (file l)) result old new) parts.1
      (subst (λ (p : Names). PutsKept p (Some (file text)) result old new) parts.0 put)

  -- the journal is not kept
  commit_unkept : {E : Type 0} (e : E) (old new : History) → PutsKept {E = E} path (Some (file text)) (Err e) old new → Commits {E = E} batch (Err e) old new
  commit_unkept {E = E} e old new put = let at = at_place {E = E} (Err e) old new put in record {
    any_moment = λ ready. since_put batch parts.2 old ready {E = E} (Err e) new at;
    done = tt;
    failed = λ ready. put_failed batch parts.2 old ready {E = E} e new at;
    others = only_below batch.dir old new (touches_puts batch.dir (codes "journal") [] (Some (file (journal_text batch.entries))) {E = E} (Err e) old new at);
  }

  -- the journal is kept, and then carried out or not
  commit_kept : {E : Type 0} (done : Unit) (result : Result Unit E) (old mid new : History) → PutsKept {E = E} path (Some (file text)) (Ok done) old mid
      → CarriesOut batch result mid new → Commits batch result old new
  commit_kept {E = E} done result old mid new put carries = let at = at_place {E = E} (Ok done) old mid put in record {
    any_moment = λ ready. since_carried batch parts.2 old ready E done mid new at result carries;
    done = on_ok_weaker result (λ was ready. is_made batch parts.2 old ready E done mid new at was) carries.done;
    failed = any_err result (λ ready. inl (carry_failed batch parts.2 old ready E done mid new at result carries));
    others = only_below batch.dir old new (goes_joined (IsAtOrSync (IsBelow batch.dir)) old mid new
        (touches_puts batch.dir (codes "journal") [] (Some (file (journal_text batch.entries))) {E = E} (Ok done) old mid at) carries.others);
  }

module _ (dir path : Names) (text found : List ℕ) (all : List PlacedEntry) (batch : Changes) (is : record { dir = dir; entries = entries_of all } ≡ batch)
    (parts : AreParts dir path text all) (same : found ≡ text) where
  -- the parts of a batch, as its value tells them
  batch_parts : (path ≡ batch.dir ++ journal) × (found ≡ journal_text batch.entries) × (is_batch batch.entries ≡ true)
  batch_parts = subst (λ (k : Changes). (path ≡ k.dir ++ journal) × (found ≡ journal_text k.entries) × (is_batch k.entries ≡ true)) is
      (parts.path_is, same ∙ parts.text_is.text_is, parts.text_is.valid)

  -- the journal is not kept
  pub commit_fails : (a b : Option History) {E : Type 0} (e : E) → Moves a b (PutsKept {E = E} path (Some (file found)) (Err e))
      → Moves a b (Commits {E = E} batch (Err e))
  commit_fails a b {E = E} e m = moves_map (λ old new put. commit_unkept path found batch batch_parts {E = E} e old new put) m

  -- the journal is kept
  pub commit_ends : (a b c : Option History) {E : Type 0} (done : Unit) (result : Result Unit E)
      → Moves a b (PutsKept {E = E} path (Some (file found)) (Ok done)) → Moves b c (CarriesOut batch result) → Moves a c (Commits batch result)
  commit_ends a b c {E = E} done result m n = moves_then (λ old mid new put carries. commit_kept path found batch batch_parts {E = E} done result old mid new
      put carries) m n
