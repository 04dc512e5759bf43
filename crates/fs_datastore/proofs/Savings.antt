-- Files are saved below a directory, one after another.
use Rattle.std.proofs.Common.{◌≡◌, ℕ, List, ◌∷◌, ◌++◌, codes, Option, Some, None, IsSome, Bool, true}
use Rattle.std.proofs.Common.{false, cond, inl, inr, Result, Ok, Err, OnOk, refl, sym, ap, ◌∙◌, subst}
use Rattle.std.specs.Prelude.{IsTrue, IsErr}
use Rattle.std.proofs.lemmas.Bool.{false≢true}
use Rattle.outside.specs.Names.{Names}
use Rattle.outside.specs.Told.{Moves}
use Rattle.outside.specs.Tree.{Node, file, Tree, set_node}
use Rattle.outside.specs.History.{History, next, scribbled, tree_of}
use Rattle.outside.specs.Since.{IsAtOrSync, Touches}
use Rattle.outside.specs.DiskCalls.{Writes}
use Rattle.outside.proofs.Told.{moves_map, moves_stay, moves_then}
use Rattle.outside.proofs.Trees.{path_cases}
use Rattle.outside.proofs.Goes.{goes_stay, goes_joined}
use Rattle.commit_journal.specs.Files.{Files, files_below, with_node, IsBelow}
use Rattle.commit_journal.proofs.Laid.{files_below-set_node, with_node_here, with_node_other}
use Rattle.commit_journal.proofs.Steps.{goes_one, goes_none}
use Rattle.settings_tree.specs.Change.{Place, is_same}
use Rattle.settings_tree.specs.Change.{Live, Meta, Pend, TheOwed, TheImage, TheWeak}
use Rattle.fs_datastore.specs.Places.{path_of, is_place, format_path}
use Rattle.fs_datastore.specs.Values.{Value, Spells}
use Rattle.fs_datastore.specs.Stands.{IsFileOf, Shows}
use Rattle.fs_datastore.specs.Batches.{with_value}
use Rattle.fs_datastore.proofs.Places.{no_format}
use Rattle.fs_datastore.proofs.Showing.{other_path, shows_with, shows_alike}
use Rattle.fs_datastore.specs.Saving.{Values, or_else, put_over, value_at_place, SavesTo, TellsFormat}

-- ---- values put over others

pub none_else : (v : Option Value) → or_else v None ≡ v
none_else None = refl
none_else (Some v) = refl

pub either_first : (a b c : Option Value) → or_else a (or_else b c) ≡ or_else (or_else a b) c
either_first None b c = refl
either_first (Some v) b c = refl

-- ---- one file

-- a place's path is below the directory
below : (dir : Names) (p : Place) (path : Names) → path ≡ dir ++ path_of p → IsBelow dir path
below dir (Live k) path is = (_, _, is)
below dir (Meta k n) path is = (_, _, is)
below dir (Pend t k) path is = (_, _, is)
below dir TheOwed path is = (_, _, is)
below dir TheImage path is = (_, _, is)
below dir TheWeak path is = (_, _, is)

-- the files after a write below the directory
written : (dir at path : Names) (bytes : List ℕ) (old new : History) → path ≡ dir ++ at → new ≡ next (scribbled path (Some (file bytes))) old
    → with_node (files_below dir (tree_of old)) at (Some (file bytes)) ≡ files_below dir (tree_of new)
written dir at path bytes old new here is = sym (ap (λ (t : Tree). files_below dir t)
    (ap tree_of is ∙ ap (λ (q : Names). set_node (tree_of old) q (Some (file bytes))) here) ∙ files_below-set_node dir (tree_of old) at (Some (file bytes)))

-- a write touches its path alone
touched : {E : Type 0} (dir path : Names) (bytes : List ℕ) (result : Result Unit E) (old new : History) → IsBelow dir path → Writes path bytes result old new
    → Touches (IsBelow dir) old new
touched dir path bytes (Ok done) old new here is = goes_one (IsAtOrSync (IsBelow dir)) old new (scribbled path (Some (file bytes))) is here
touched dir path bytes (Err e) old new here (inl is) = goes_none (IsAtOrSync (IsBelow dir)) old new is
touched dir path bytes (Err e) old new here (inr (found, kind, is)) = goes_one (IsAtOrSync (IsBelow dir)) old new (scribbled path found) is here

with_one : (what : Values) (p : Place) (v : Value) (q : Place) → with_value what p (Some v) q ≡ put_over (value_at_place p v) what q
with_one what p v q = by (is_same q p) where
  by : (b : Bool) → cond b (Some v) (what q) ≡ or_else (cond b (Some v) None) (what q)
  by true = refl
  by false = refl

one_saved : {E : Type 0} (dir : Names) (p : Place) (v : Value) (path : Names) (bytes : List ℕ) (result : Result Unit E) (old new : History)
    → IsTrue (is_place p) → path ≡ dir ++ path_of p → Spells bytes v → Writes path bytes result old new
    → OnOk result ((what : Values) (told : Bool) → Shows (files_below dir (tree_of old)) what told
    → Shows (files_below dir (tree_of new)) (put_over (value_at_place p v) what) told)
one_saved dir p v path bytes (Ok done) old new valid at spelled is = λ what told shows.
    subst (λ (f : Files). Shows f (put_over (value_at_place p v) what) told) (written dir (path_of p) path bytes old new at is)
    (shows_alike (with_node (files_below dir (tree_of old)) (path_of p) (Some (file bytes))) (with_value what p (Some v)) (put_over (value_at_place p v) what)
    told (with_one what p v)
    (shows_with (files_below dir (tree_of old)) p valid (Some (file bytes)) what told (Some v) shows (bytes, refl, spelled)))
one_saved dir p v path bytes (Err e) old new valid at spelled is = tt

-- the file of a value is written at its place
pub file_saved : {E : Type 0} (dir : Names) (p : Place) (v : Value) (path : Names) (bytes : List ℕ) (result : Result Unit E) (a b : Option History)
    → IsTrue (is_place p) → path ≡ dir ++ path_of p → Spells bytes v → Moves a b (Writes path bytes result)
    → Moves a b (SavesTo dir (value_at_place p v) result)
file_saved dir p v path bytes result a b valid at spelled m = moves_map (λ old new is. record {
  touches = touched dir path bytes result old new (below dir p path at) is;
  shows = one_saved dir p v path bytes result old new valid at spelled is;
}) m

-- ---- the file that tells the format

module _ (files : Files) (what : Values) (told : Bool) (shows : Shows files what told) where
  two : Option Node
  two = Some (file (codes "2"))

  apart : (p : Place) → with_node files format_path two (path_of p) ≡ files (path_of p)
  apart p = with_node_other files format_path two (path_of p) (other_path (path_of p) format_path (no_format p))

  format_shows : Shows (with_node files format_path (Some (file (codes "2")))) what true
  unfolding two
  format_shows = record {
    named = λ name rest there. elim (path_cases (name ∷ rest) format_path) [
      | inl here ↦ inl here
      | inr other ↦ shows.named name rest (subst IsSome (with_node_other files format_path two (name ∷ rest) other) there)
    ];
    places = λ p. subst (λ (n : Option Node). IsFileOf (what p) n) (ap (λ (n : Option Node). cond (is_place p) n None) (sym (apart p))) (shows.places p);
    format = with_node_here files format_path two format_path refl;
  }

tells : {E : Type 0} (dir path : Names) (result : Result Unit E) (old new : History) → path ≡ dir ++ format_path → Writes path (codes "2") result old new
    → OnOk result ((what : Values) (told : Bool) → Shows (files_below dir (tree_of old)) what told → Shows (files_below dir (tree_of new)) what true)
tells dir path (Ok done) old new at is = λ what told shows. subst (λ (f : Files). Shows f what true) (written dir format_path path (codes "2") old new at is)
    (format_shows (files_below dir (tree_of old)) what told shows)
tells dir path (Err e) old new at is = tt

-- it is not written
pub format_not : {E : Type 0} (dir : Names) (result : Result Unit E) (a : Option History) → IsErr result → Moves a a (TellsFormat dir result)
format_not dir result a fails = moves_stay (λ h. unwritten result h fails) where
  unwritten : {E : Type 0} (result : Result Unit E) (h : History) → IsErr result → TellsFormat dir result h h
  unwritten (Ok done) h fails = absurd (false≢true fails)
  unwritten (Err e) h fails = record { touches = goes_stay (IsAtOrSync (IsBelow dir)) h; shows = tt }

-- it is written
pub format_saved : {E : Type 0} (dir path : Names) (result : Result Unit E) (a b : Option History) → path ≡ dir ++ format_path
    → Moves a b (Writes path (codes "2") result) → Moves a b (TellsFormat dir result)
format_saved dir path result a b at m = moves_map (λ old new is. record {
  touches = touched dir path (codes "2") result old new (_, _, at) is;
  shows = tells dir path result old new at is;
}) m

pub ruleset telling = (format_not, format_saved)

-- ---- several files

module _ {E : Type 0} (dir : Names) where
  unsaved : (more : Values) (result : Result Unit E) (old new : History) → IsErr result → Touches (IsBelow dir) old new → SavesTo dir more result old new
  unsaved more (Ok done) old new fails touches = absurd (false≢true fails)
  unsaved more (Err e) old new fails touches = record { touches = touches; shows = tt }

  -- no file is saved
  pub saved_not : (more : Values) (result : Result Unit E) (a : Option History) → IsErr result → Moves a a (SavesTo dir more result)
  saved_not more result a fails = moves_stay (λ h. unsaved more result h h fails (goes_stay (IsAtOrSync (IsBelow dir)) h))

  -- no file is saved so far
  pub saved_none : (more : Values) (a : Option History) → ((p : Place) → more p ≡ None) → Moves a a (SavesTo {E = E} dir more (Ok tt))
  saved_none more a none = moves_stay (λ h. record {
    touches = goes_stay (IsAtOrSync (IsBelow dir)) h;
    shows = λ what told shows. shows_alike (files_below dir (tree_of h)) what (put_over more what) told
        (λ p. ap (λ (v : Option Value). or_else v (what p)) (sym (none p))) shows;
  })

  alike : (first all : Values) (result : Result Unit E) (old new : History) → ((p : Place) → first p ≡ all p) → SavesTo dir first result old new
      → SavesTo dir all result old new
  alike first all (Ok done) old new same s = record {
    touches = s.touches;
    shows = λ what told shows. shows_alike (files_below dir (tree_of new)) (put_over first what) (put_over all what) told
        (λ p. ap (λ (v : Option Value). or_else v (what p)) (same p)) (s.shows what told shows);
  }
  alike first all (Err e) old new same s = record { touches = s.touches; shows = tt }

  -- the same values are saved
  pub saved_alike : (first all : Values) (result : Result Unit E) (a b : Option History) → ((p : Place) → first p ≡ all p)
      → Moves a b (SavesTo dir first result) → Moves a b (SavesTo dir all result)
  saved_alike first all result a b same m = moves_map (λ old new s. alike first all result old new same s) m

  both : (first then : Values) (done : Unit) (result : Result Unit E) (old mid new : History) → SavesTo {E = E} dir first (Ok done) old mid
      → SavesTo dir then result mid new → SavesTo dir (put_over then first) result old new
  both first then done (Ok also) old mid new s t = record {
    touches = goes_joined (IsAtOrSync (IsBelow dir)) old mid new s.touches t.touches;
    shows = λ what told shows. shows_alike (files_below dir (tree_of new)) (put_over then (put_over first what)) (put_over (put_over then first) what) told
        (λ p. either_first (then p) (first p) (what p)) (t.shows (put_over first what) told (s.shows what told shows));
  }
  both first then done (Err e) old mid new s t = record { touches = goes_joined (IsAtOrSync (IsBelow dir)) old mid new s.touches t.touches; shows = tt }

  -- values are saved after others
  pub saved_then : (first then : Values) (done : Unit) (result : Result Unit E) (a b c : Option History) → Moves a b (SavesTo {E = E} dir first (Ok done))
      → Moves b c (SavesTo dir then result) → Moves a c (SavesTo dir (put_over then first) result)
  saved_then first then done result a b c m n = moves_then (λ old mid new s t. both first then done result old mid new s t) m n

  -- not all is saved
  pub saved_fails : (first all : Values) (e : E) (result : Result Unit E) (a b : Option History) → IsErr result → Moves a b (SavesTo dir first (Err e))
      → Moves a b (SavesTo dir all result)
  saved_fails first all e result a b fails m = moves_map (λ old new s. unsaved all result old new fails s.touches) m

  -- not all is saved after others
  pub saved_later : (first then all : Values) (done : Unit) (e : E) (result : Result Unit E) (a b c : Option History) → IsErr result
      → Moves a b (SavesTo {E = E} dir first (Ok done)) → Moves b c (SavesTo dir then (Err e)) → Moves a c (SavesTo dir all result)
  saved_later first then all done e result a b c fails m n = saved_fails (put_over then first) all e result a c fails
      (saved_then first then done (Err e) a b c m n)

pub ruleset saving = (saved_not, saved_fails, saved_later)
