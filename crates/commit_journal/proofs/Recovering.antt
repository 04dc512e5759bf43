-- What the exits of a recovery leave.
use Rattle.std.proofs.Common.{◌≡◌, inl, inr, ◌⊎◌, Bool, true, false, List, ◌++◌, ℕ, Option, Some}
use Rattle.std.proofs.Common.{None, Result, Ok, Err, IsErrOf, option_map, is_some, refl, sym, ◌∙◌, ap, subst}
use Rattle.std.specs.Prelude.{Vec}
use Rattle.std.specs.declared.alloc.Global.{Global}
use Rattle.outside.specs.Names.{Names}
use Rattle.outside.specs.Tree.{Node, file, link, node_at, file_in, link_in}
use Rattle.outside.specs.History.{synced, History, next, tree_of}
use Rattle.outside.specs.Since.{EachSince, IsAtOrSync, Touches}
use Rattle.outside.specs.Told.{Moves, WhereTold}
use Rattle.outside.specs.Faults.{HandsOn}
use Rattle.outside.specs.declared.disk_error.DiskErr.{DiskErr}
use Rattle.outside.specs.declared.disk_error.DiskErr.TheVariants as device
use Rattle.outside.proofs.Crash.{tree_is_crash_state, settled_synced, settled_state}
use Rattle.outside.proofs.Goes.{goes_stay, goes_joined}
use Rattle.outside.proofs.Since.{since_start, since_now}
use Rattle.outside.proofs.Told.{moves_stay, moves_map, moves_then, moves_same, moves_where}
use Rattle.commit_journal.specs.declared.journal_error.JournalError.{JournalError}
use Rattle.commit_journal.specs.declared.journal_error.JournalError.TheVariants as told
use Rattle.commit_journal.specs.Entries.{Entry, Changes}
use Rattle.commit_journal.specs.Files.{Files, files_below, IsBelow, laid}
use Rattle.commit_journal.specs.Journal.{journal_text, IsJournal}
use Rattle.commit_journal.specs.Laws.{StandsForOne}
use Rattle.commit_journal.specs.Stands.{journal, HasJournal, StandsFor, TreeStandsFor, without_journal}
use Rattle.commit_journal.specs.Change.{CarriesOut}
use Rattle.commit_journal.specs.Recovery.{journal_in, FromSyncOn, IsRecovered, Recovers}
use Rattle.commit_journal.proofs.Carried.{journal_not_named}
use Rattle.commit_journal.proofs.Elsewhere.{only_below, touches_synced}
use Rattle.commit_journal.proofs.Laid.{with_node_here, laid_other}
use Rattle.commit_journal.proofs.Texts.{one_journal}

-- the error is not that of a bad journal
abbrev pub IsPlain : JournalError → Type 0
IsPlain e = (e ≡ told.Memory) ⊎ (e ≡ told.Failed)

-- such an error names no path
not_bad : (e : JournalError) (path : Names) → IsPlain e → IsErrOf {T = Bool} (Err e) (told.BadJournal path) → ⊥
not_bad e path (inl is) same = cc
not_bad e path (inr is) same = cc

-- nor does Ok
ok_not_bad : (found : Bool) (path : Names) → IsErrOf {T = Bool} {E = JournalError} (Ok found) (told.BadJournal path) → ⊥
ok_not_bad found path same = cc

-- a device's error is handed on as such an error
pub plain_device : (d : DiskErr) (e : JournalError) → HandsOn told.Failed told.Memory d e → IsPlain e
plain_device device.Failed e is = inr is
plain_device device.Memory e is = inl is

-- ---- what a directory represents

-- where neither a file nor a link is, nothing is
no_node : (node : Option Node) → file_in node ≡ None → link_in node ≡ None → node ≡ None
no_node None no_file no_link = refl
no_node (Some (file bytes)) no_file no_link = cc
no_node (Some (link text)) no_file no_link = cc

-- two batches that the journal names are one
same_text : (found : Files) (one other : List Entry) → HasJournal found one → HasJournal found other → one ≡ other
same_text found one other first second = one_journal one other first.valid second.valid (texts (sym first.there ∙ second.there))
  where
    texts : Some (file (journal_text one)) ≡ Some (file (journal_text other)) → journal_text one ≡ journal_text other
    texts e = cc

-- where a journal is there, the directory does not represent itself
not_gone : (found : Files) (entries : List Entry) → HasJournal found entries → found journal ≡ None → ⊥
not_gone found entries has gone = clash (sym gone ∙ has.there)
  where
    clash : None ≡ Some (file (journal_text entries)) → ⊥
    clash e = cc

-- a directory with a journal represents the rest with its entries laid over it
stands_over : (found files : Files) (entries : List Entry) → HasJournal found entries → StandsFor found files → files ≡ laid entries (without_journal found)
stands_over found files entries has (inl (gone, is)) = absurd (not_gone found entries has gone)
stands_over found files entries has (inr (others, there, is)) = is ∙ ap (λ (l : List Entry). laid l (without_journal found))
    (same_text found others entries there has)

-- a directory represents one choice of files
pub stands_one : StandsForOne
stands_one found one other (inl (gone, is)) (inl (none, same)) = is ∙ sym same
stands_one found one other (inl (gone, is)) (inr (entries, has, same)) = absurd (not_gone found entries has gone)
stands_one found one other (inr (entries, has, is)) second = is ∙ sym (stands_over found other entries has second)

module _ (dir : Names) where
  -- what began with a sync touches no path elsewhere
  touches : (old new : History) → FromSyncOn (Touches (IsBelow dir)) old new → Touches (IsBelow dir) old new
  touches old new (inl is) = subst (λ h. Touches (IsBelow dir) old h) (sym is) (goes_stay (IsAtOrSync (IsBelow dir)) old)
  touches old new (inr more) = goes_joined (IsAtOrSync (IsBelow dir)) old (next synced old) new (touches_synced dir old (next synced old) refl) more

  -- and its tree represents the same files
  still_stands : (files : Files) (old new : History) → TreeStandsFor dir files (tree_of old) → FromSyncOn (EachSince (TreeStandsFor dir files)) old new
      → TreeStandsFor dir files (tree_of new)
  still_stands files old new stands (inl is) = subst (λ h. TreeStandsFor dir files (tree_of h)) (sym is) stands
  still_stands files old new stands (inr since) = since_now (TreeStandsFor dir files) (next synced old) new since (tree_of new) (tree_is_crash_state new)

  -- once what is there is on the disk, a crash leaves it
  since_synced : (files : Files) (old : History) → TreeStandsFor dir files (tree_of old) → EachSince (TreeStandsFor dir files) (next synced old)
      (next synced old)
  since_synced files old stands = (since_start (TreeStandsFor dir files) (next synced old)
      (λ crashed im. subst (TreeStandsFor dir files) (sym (settled_state (next synced old) (settled_synced old) crashed im)) stands))

  keeps_synced : (files : Files) (old : History) → TreeStandsFor dir files (tree_of old) → FromSyncOn (EachSince (TreeStandsFor dir files)) old
      (next synced old)
  keeps_synced files old stands = inr (since_synced files old stands)

  -- ---- the exits, by what was done

  -- another error than that of a bad journal
  refused : (e : JournalError) → IsPlain e → (old new : History) → FromSyncOn (Touches (IsBelow dir)) old new
      → ((files : Files) → TreeStandsFor dir files (tree_of old) → FromSyncOn (EachSince (TreeStandsFor dir files)) old new) → Recovers dir (Err e) old new
  refused e plain old new goes keeps = record {
    sync_first = goes;
    keeps = keeps;
    stands = λ files stands. still_stands files old new stands (keeps files stands);
    settled = tt;
    done = tt;
    found = tt;
    none = tt;
    first_synced = tt;
    each_since = tt;
    stood = tt;
    good = tt;
    bad = λ path same. absurd (not_bad e path plain same);
    others = only_below dir old new (touches old new goes);
  }

  -- nothing was done
  stayed : (e : JournalError) → IsPlain e → (h : History) → Recovers dir (Err e) h h
  stayed e plain h = refused e plain h h (inl refl) (λ files stands. inl refl)

  -- only the sync was made
  only_synced : (e : JournalError) → IsPlain e → (old : History) → Recovers dir (Err e) old (next synced old)
  only_synced e plain old = refused e plain old (next synced old) (inr (goes_stay (IsAtOrSync (IsBelow dir)) (next synced old)))
      (λ files. keeps_synced files old)

  -- no journal was there
  none_there : (old : History) → journal_in dir (tree_of old) ≡ None → Recovers dir (Ok false) old (next synced old)
  none_there old none = record {
    sync_first = inr (goes_stay (IsAtOrSync (IsBelow dir)) (next synced old));
    keeps = λ files. keeps_synced files old;
    stands = λ files stands. stands;
    settled = settled_synced old;
    done = λ files stands. is_there files stands;
    found = sym (ap (λ (o : Option (List ℕ)). is_some o) none);
    none = λ was. refl;
    first_synced = goes_stay (IsAtOrSync (IsBelow dir)) (next synced old);
    each_since = λ files. since_synced files old;
    stood = λ no_link. (files_below dir (tree_of old), inl (no_node (files_below dir (tree_of old) journal) none no_link, refl));
    good = λ bad. let text = bad.0 in let is = bad.1 in cc;
    bad = λ path same. absurd (ok_not_bad false path same);
    others = only_below dir old (next synced old) (touches_synced dir old (next synced old) refl);
  }
    where
      is_there : (files : Files) → TreeStandsFor dir files (tree_of old) → IsRecovered dir files (next synced old)
      is_there files (inl (gone, is)) = record {
        files_are = sym is;
        ready = record { no_journal = gone; settled = λ p. settled_synced old (dir ++ p) };
      }
      is_there files (inr (entries, has, is)) = absurd (clash (ap file_in has.there))
        where
          clash : journal_in dir (tree_of old) ≡ Some (journal_text entries) → ⊥
          clash some = cc

  -- what was there is no journal
  bad_there : (old : History) (path : Names) (text : List ℕ) → path ≡ dir ++ journal → journal_in dir (tree_of old) ≡ Some text
      → ((entries : List Entry) → IsJournal entries text → ⊥) → Recovers dir (Err (told.BadJournal path)) old (next synced old)
  bad_there old path text at is other = record {
    sync_first = inr (goes_stay (IsAtOrSync (IsBelow dir)) (next synced old));
    keeps = λ files. keeps_synced files old;
    stands = λ files stands. stands;
    settled = tt;
    done = tt;
    found = tt;
    none = tt;
    first_synced = tt;
    each_since = tt;
    stood = tt;
    good = tt;
    bad = λ found same. (same_path found same ∙ at, (text, is, other), refl);
    others = only_below dir old (next synced old) (touches_synced dir old (next synced old) refl);
  }
    where
      same_path : (found : Names) → IsErrOf {T = Bool} (Err (told.BadJournal path)) (told.BadJournal found) → found ≡ path
      same_path found same = cc

  module _ (old : History) (batch : Changes) (text : List ℕ) (at : batch.dir ≡ dir) (is : journal_in dir (tree_of old) ≡ Some text)
      (spelled : IsJournal batch.entries text) where
    -- the rest with the journal's entries laid over it
    abbrev over : Files
    over = laid batch.entries (without_journal (files_below dir (tree_of old)))

    -- the batch's journal was there
    has_journal : HasJournal (files_below dir (tree_of old)) batch.entries
    has_journal = record { there = file_there (files_below dir (tree_of old) journal) is; valid = spelled.valid }
      where
        file_there : (node : Option Node) → file_in node ≡ Some text → node ≡ Some (file (journal_text batch.entries))
        file_there None e = cc
        file_there (Some (file bytes)) e = ap (λ (l : List ℕ). Some (file l)) (some_same bytes text e ∙ spelled.text_is)
          where
            some_same : (x y : List ℕ) → Path (Option (List ℕ)) (Some x) (Some y) → x ≡ y
            some_same x y e = cc
        file_there (Some (link bytes)) e = cc

    -- the directory represents what the journal makes of it
    stands_so : (files : Files) → TreeStandsFor dir files (tree_of old) → files ≡ over
    stands_so files stands = stands_over (files_below dir (tree_of old)) files batch.entries has_journal stands

    -- while it is carried out, a crash leaves what represents that
    carried_since : {F : Type 0} (result : Result Unit F) (new : History) → CarriesOut batch result (next synced old) new → (files : Files)
        → TreeStandsFor dir files (tree_of old) → EachSince (TreeStandsFor dir files) (next synced old) new
    carried_since result new carries files stands =
        (subst (λ (f : Files). EachSince (TreeStandsFor dir f) (next synced old) new) (sym (stands_so files stands))
        (at_dir (λ d. HasJournal (files_below d (tree_of old)) batch.entries
        → EachSince (TreeStandsFor d (laid batch.entries (without_journal (files_below d (tree_of old))))) (next synced old) new)
        (λ has. carries.any_moment (λ p. settled_synced old (batch.dir ++ p)) has) has_journal))
      where
        at_dir : (Q : Names → Type 0) → Q batch.dir → Q dir
        at_dir Q = subst Q at

    carried_on : {F : Type 0} (result : Result Unit F) (new : History) → CarriesOut batch result (next synced old) new → (files : Files)
        → TreeStandsFor dir files (tree_of old) → FromSyncOn (EachSince (TreeStandsFor dir files)) old new
    carried_on result new carries files stands = inr (carried_since result new carries files stands)

    -- and no path elsewhere is touched
    within_since : (new : History) → Touches (IsBelow batch.dir) (next synced old) new → Touches (IsBelow dir) (next synced old) new
    within_since new goes = subst (λ (d : Names). Touches (IsBelow d) (next synced old) new) at goes

    within : (new : History) → Touches (IsBelow batch.dir) (next synced old) new → FromSyncOn (Touches (IsBelow dir)) old new
    within new goes = inr (within_since new goes)

    -- it was not carried out to the end
    carry_failed : (e : JournalError) → IsPlain e → {F : Type 0} (f : F) (new : History) → CarriesOut {E = F} batch (Err f) (next synced old) new
        → Recovers dir (Err e) old new
    carry_failed e plain {F = F} f new carries = refused e plain old new (within new carries.others) (carried_on {F = F} (Err f) new carries)

    -- it was carried out
    carry_ended : {F : Type 0} (done : Unit) (new : History) → CarriesOut {E = F} batch (Ok done) (next synced old) new → Recovers dir (Ok true) old new
    carry_ended {F = F} done new carries = record {
      sync_first = within new carries.others;
      keeps = carried_on {F = F} (Ok done) new carries;
      stands = λ files stands. still_stands files old new stands (carried_on {F = F} (Ok done) new carries files stands);
      settled = carries.done.1;
      done = λ files stands. record {
        files_are = files_over ∙ sym (stands_so files stands);
        ready = record {
          no_journal = ap (λ (f : Files). f journal) files_over ∙ laid_other batch.entries (without_journal (files_below dir (tree_of old))) journal
              (journal_not_named batch.entries spelled.valid) ∙ with_node_here (files_below dir (tree_of old)) journal None journal refl;
          settled = λ p. carries.done.1 (dir ++ p);
        };
      };
      found = sym (ap (λ (o : Option (List ℕ)). is_some o) is);
      none = λ was. absurd (not_false was);
      first_synced = within_since new carries.others;
      each_since = carried_since {F = F} (Ok done) new carries;
      stood = λ no_link. (over, inr (batch.entries, has_journal, refl));
      good = λ bad. let one = bad.1 in let e : bad.0 ≡ text = cc in bad.2 batch.entries (subst (λ (l : List ℕ). IsJournal batch.entries l) (sym e) spelled);
      bad = λ path same. absurd (ok_not_bad true path same);
      others = only_below dir old new (touches old new (within new carries.others));
    }
      where
        not_false : true ≡ false → ⊥
        not_false e = cc

        files_over : files_below dir (tree_of new) ≡ over
        files_over = subst (λ (d : Names). files_below d (tree_of new) ≡ laid batch.entries (without_journal (files_below d (tree_of old)))) at carries.done.0

-- ---- the exits, by what the disk told

-- only a sync was made
abbrev IsSynced : History → History → Type 0
IsSynced old new = new ≡ next synced old

-- what a read found
abbrev Finds : Option (Vec ℕ Global) → Names → History → Type 0
Finds found path h = option_map (λ v. v.items) found ≡ file_in (node_at (tree_of h) path)

-- what was found after the sync was there before it
found_before : (dir path : Names) (found : Option (Vec ℕ Global)) (old mid : History) → path ≡ dir ++ journal → IsSynced old mid → Finds found path mid
    → journal_in dir (tree_of old) ≡ option_map (λ v. v.items) found
found_before dir path found old mid at so finds = sym (finds ∙ ap (λ (p : Names). file_in (node_at (tree_of mid) p)) at
    ∙ ap (λ k. journal_in dir (tree_of k)) so)

module _ (dir path : Names) (at : path ≡ dir ++ journal) where
  module _ (result : Result Bool JournalError) (e : JournalError) (is : result ≡ Err e) (plain : IsPlain e) where
    -- before the sync
    pub exit_unstarted : (a : Option History) → Moves a a (Recovers dir result)
    exit_unstarted a = subst (λ (r : Result Bool JournalError). Moves a a (Recovers dir r)) (sym is) (moves_stay (stayed dir e plain))

    -- at the sync
    pub exit_unsynced : (a b : Option History) → Moves a b (λ old new. new ≡ old) → Moves a b (Recovers dir result)
    exit_unsynced a b m = subst (λ (r : Result Bool JournalError). Moves a b (Recovers dir r)) (sym is)
        (moves_map (λ old new same. subst (λ k. Recovers dir (Err e) old k) (sym same) (stayed dir e plain old)) m)

    -- after the sync, before anything is written
    pub exit_synced : (a b c : Option History) → Moves a b IsSynced → c ≡ b → Moves a c (Recovers dir result)
    exit_synced a b c m same = subst (λ (r : Result Bool JournalError). Moves a c (Recovers dir r)) (sym is)
        (subst (λ x. Moves a x (Recovers dir (Err e))) (sym same) (moves_map
        (λ old new so. subst (λ k. Recovers dir (Err e) old k) (sym so) (only_synced dir e plain old)) m))

  module _ (a b c : Option History) (m : Moves a b IsSynced) (same : c ≡ b) (found : Option (Vec ℕ Global)) (w : WhereTold b (Finds found path)) where
    -- the sync was made, and this is what was there
    abbrev HasFound : History → History → Type 0
    HasFound old mid = IsSynced old mid × (journal_in dir (tree_of old) ≡ option_map (λ v. v.items) found)

    -- the disk told it
    has_found : Moves a c HasFound
    has_found = moves_then (λ old mid new so now. let e : new ≡ next synced old = now.1 ∙ so in (e, found_before dir path found old mid at so now.0)) m
        (moves_where w (moves_same {R = λ s t. t ≡ s} same (λ s. refl)))

    -- nothing was found
    pub exit_none : found ≡ None → Moves a c (Recovers dir (Ok false))
    exit_none none = moves_map (λ old new has. subst (λ k. Recovers dir (Ok false) old k) (sym has.0)
        (none_there dir old (has.1 ∙ ap (λ (o : Option (Vec ℕ Global)). option_map (λ v. v.items) o) none))) has_found

    module _ (text : Vec ℕ Global) (some : found ≡ Some text) where
      -- its text was there
      some_text : (old : History) → journal_in dir (tree_of old) ≡ option_map (λ v. v.items) found → journal_in dir (tree_of old) ≡ Some text.items
      some_text old is = is ∙ ap (λ (o : Option (Vec ℕ Global)). option_map (λ v. v.items) o) some

      -- what was found is no journal
      pub exit_bad : ((entries : List Entry) → IsJournal entries text.items → ⊥) → Moves a c (Recovers dir (Err (told.BadJournal path)))
      exit_bad other = moves_map (λ old new has. subst (λ k. Recovers dir (Err (told.BadJournal path)) old k) (sym has.0)
          (bad_there dir old path text.items at (some_text old has.1) other)) has_found

      module _ (batch : Changes) (d : Option History) (here : batch.dir ≡ dir) (spelled : IsJournal batch.entries text.items) where
        -- what was found was not carried out to the end
        pub exit_failed : (result : Result Bool JournalError) (e : JournalError) → result ≡ Err e → IsPlain e → {F : Type 0} (f : F)
            → Moves c d (CarriesOut {E = F} batch (Err f)) → Moves a d (Recovers dir result)
        exit_failed result e is plain {F = F} f n = subst (λ (r : Result Bool JournalError). Moves a d (Recovers dir r)) (sym is)
            (moves_then (λ old mid new has carries. carry_failed dir old batch text.items here (some_text old has.1) spelled e plain {F = F} f new
            (subst (λ k. CarriesOut {E = F} batch (Err f) k new) has.0 carries)) has_found n)

        -- what was found was carried out
        pub exit_carried : {F : Type 0} (done : Unit) → Moves c d (CarriesOut {E = F} batch (Ok done)) → Moves a d (Recovers dir (Ok true))
        exit_carried {F = F} done n =
            moves_then (λ old mid new has carries. carry_ended dir old batch text.items here (some_text old has.1) spelled {F = F} done new
            (subst (λ k. CarriesOut {E = F} batch (Ok done) k new) has.0 carries)) has_found n
