-- A change as a whole.
use Rattle.std.proofs.Common.{◌≡◌, inl, inr, ◌⊎◌, true, false, ◌++◌, Option, Some, Result, Ok, Err, refl, sym, ◌∙◌, ap, subst}
use Rattle.std.proofs.lemmas.Bool.{false≢true}
use Rattle.std.proofs.lemmas.List.{append_cancel_left}
use mathlib.Core.Path.{fun_ext}
use Rattle.std.specs.Ordering.{eq_by_cmp}
use Rattle.outside.specs.Names.{Names, path_cmp}
use Rattle.outside.specs.Tree.{Node, file, Tree, node_at}
use Rattle.outside.specs.History.{Change, replaced, History, next, tree_of, MayLeave, EachCrashState, IsSettled}
use Rattle.outside.specs.Since.{EachSince}
use Rattle.outside.proofs.Trees.{path_cases, path_itself}
use Rattle.outside.proofs.Crash.{settled_synced, tree_is_crash_state}
use Rattle.outside.proofs.Since.{since_start, since_next, since_now, since_joined, since_map, since_syncs}
use Rattle.commit_journal.specs.Entries.{Changes, is_batch}
use Rattle.commit_journal.specs.Files.{Files, files_below, with_node, laid}
use Rattle.commit_journal.specs.Journal.{journal_text}
use Rattle.commit_journal.specs.Stands.{journal, HasJournal, TreeStandsFor, IsSettledBelow, IsReady, without_journal}
use Rattle.commit_journal.specs.Change.{PutsKept, CarriesOut, carried_over, files_before, files_after, StandsForEither, IsMade, IsNotBegun}
use Rattle.commit_journal.proofs.Laid.{with_node_here, with_node_other, with_node_taken, laid_other, files_below-set_node}
use Rattle.commit_journal.proofs.Carried.{journal_not_named}

module _ (batch : Changes) (valid : is_batch batch.entries ≡ true) (old : History) (ready : IsReady batch.dir old) where
  -- the files before the change
  abbrev before : Files
  before = files_below batch.dir (tree_of old)

  -- the journal's node
  abbrev written : Option Node
  written = Some (file (journal_text batch.entries))

  -- the change of the journal's path
  abbrev put : Change
  put = replaced (batch.dir ++ journal) written

  -- what is as it was represents the files before
  stands_untouched : (tree : Tree) → files_below batch.dir tree ≡ before → TreeStandsFor batch.dir (files_before batch old) tree
  stands_untouched tree is = inl (ap (λ (f : Files). f journal) is ∙ ready.no_journal, sym is)

  -- with the journal it represents the files after
  stands_written : (tree : Tree) → files_below batch.dir tree ≡ with_node before journal written → TreeStandsFor batch.dir (files_after batch old) tree
  stands_written tree is = inr (
    batch.entries,
    record {
      there = ap (λ (f : Files). f journal) is ∙ with_node_here before journal written journal refl;
      valid = valid;
    },
    ap (λ (f : Files). laid batch.entries f) (sym (ap without_journal is ∙ with_node_taken before journal written ready.no_journal)),
  )

  -- before the journal is there, a crash leaves what is there
  state_untouched : EachCrashState (TreeStandsFor batch.dir (files_before batch old)) old
  state_untouched crashed is = stands_untouched crashed (fun_ext (λ p. ready.settled p (node_at crashed (batch.dir ++ p)) (is (batch.dir ++ p))))

  -- while it is put, a crash leaves what was there, or it too
  state_put : EachCrashState (StandsForEither batch old) (next put old)
  state_put crashed is = go (is (batch.dir ++ journal))
    where
      was_at : (p : Names) → node_at crashed (batch.dir ++ journal) ≡ node_at (tree_of old) (batch.dir ++ journal)
          → MayLeave (next put old) (batch.dir ++ p) (node_at crashed (batch.dir ++ p))
          → files_below batch.dir crashed p ≡ files_below batch.dir (tree_of old) p
      was_at p was (inl may) = ready.settled p (node_at crashed (batch.dir ++ p)) may
      was_at p was (inr (here, is)) = ap (λ (q : Names). node_at crashed q) here ∙ was ∙ ap (λ (q : Names). node_at (tree_of old) q) (sym here)

      now_at : (p : Names) → node_at crashed (batch.dir ++ journal) ≡ written → (p ≡ journal) ⊎ (eq_by_cmp path_cmp p journal ≡ false)
          → MayLeave (next put old) (batch.dir ++ p) (node_at crashed (batch.dir ++ p)) → files_below batch.dir crashed p ≡ with_node before journal written p
      now_at p is_now (inl here) may = ap (λ (q : Names). node_at crashed (batch.dir ++ q)) here ∙ is_now ∙ sym (with_node_here before journal written p here)
      now_at p is_now (inr other) (inl may) = ready.settled p (node_at crashed (batch.dir ++ p)) may ∙ sym (with_node_other before journal written p other)
      now_at p is_now (inr other) (inr (here, is)) = absurd (false≢true
          (sym other ∙ ap (λ (q : Names). eq_by_cmp path_cmp q journal) (append_cancel_left batch.dir p journal here) ∙ path_itself journal))

      go : MayLeave (next put old) (batch.dir ++ journal) (node_at crashed (batch.dir ++ journal)) → StandsForEither batch old crashed
      go (inl may) = inl (stands_untouched crashed (fun_ext (λ p. was_at p (ready.settled journal (node_at crashed (batch.dir ++ journal)) may)
          (is (batch.dir ++ p)))))
      go (inr (here, is_now)) = inr (stands_written crashed (fun_ext (λ p. now_at p is_now (path_cases p journal) (is (batch.dir ++ p)))))

  -- up to then each crash leaves the files before or after
  since_next_put : EachSince (StandsForEither batch old) old (next put old)
  since_next_put = since_next (StandsForEither batch old) old old put (since_start (StandsForEither batch old) old
      (λ crashed is. inl (state_untouched crashed is)))
      state_put

  -- also until the journal is kept
  pub since_put : {E : Type 0} (result : Result Unit E) (new : History) → PutsKept (batch.dir ++ journal) written result old new
      → EachSince (StandsForEither batch old) old new
  since_put (Ok done) new kept = since_syncs (StandsForEither batch old) old (next put old) new {E = Unit} (Ok tt) since_next_put kept
  since_put (Err e) new (inl same) = subst (λ k. EachSince (StandsForEither batch old) old k) (sym same)
      (since_start (StandsForEither batch old) old (λ crashed is. inl (state_untouched crashed is)))
  since_put (Err e) new (inr is) = subst (λ k. EachSince (StandsForEither batch old) old k) (sym is) since_next_put

  -- a journal that is not kept is there nevertheless, or nothing was begun
  pub put_failed : {E : Type 0} (e : E) (new : History) → PutsKept {E = E} (batch.dir ++ journal) written (Err e) old new
      → TreeStandsFor batch.dir (files_after batch old) (tree_of new) ⊎ IsNotBegun batch old new
  put_failed e new (inl same) = inr (subst (λ k. IsNotBegun batch old k) (sym same) (record {
    tree = stands_untouched (tree_of old) refl;
    crash_states = since_start (TreeStandsFor batch.dir (files_before batch old)) old state_untouched;
  }))
  put_failed e new (inr is) = inl (stands_written (tree_of new) (ap (λ k. files_below batch.dir (tree_of k)) is
      ∙ files_below-set_node batch.dir (tree_of old) journal written))

  module _ (E : Type 0) (done : Unit) (mid new : History) (kept : PutsKept {E = E} (batch.dir ++ journal) written (Ok done) old mid) where
    -- the journal is there
    files_put : files_below batch.dir (tree_of mid) ≡ with_node before journal written
    files_put = ap (λ k. files_below batch.dir (tree_of k)) kept ∙ files_below-set_node batch.dir (tree_of old) journal written

    -- without it the files are as before
    files_without : without_journal (files_below batch.dir (tree_of mid)) ≡ before
    files_without = ap without_journal files_put ∙ with_node_taken before journal written ready.no_journal

    -- so carrying it out leads to the files after
    over_is : carried_over batch mid ≡ files_after batch old
    over_is = ap (λ (f : Files). laid batch.entries f) files_without

    -- it is on the disk
    settled_put : IsSettledBelow batch.dir mid
    settled_put p = subst IsSettled (sym kept) (settled_synced (next put old)) (batch.dir ++ p)

    -- and it is the batch's
    has_put : HasJournal (files_below batch.dir (tree_of mid)) batch.entries
    has_put = record {
      there = ap (λ (f : Files). f journal) files_put ∙ with_node_here before journal written journal refl;
      valid = valid;
    }

    -- while it is carried out, a crash leaves the files after
    since_after : {F : Type 0} (result : Result Unit F) → CarriesOut batch result mid new → EachSince (TreeStandsFor batch.dir (files_after batch old)) mid new
    since_after result carries = subst (λ (f : Files). EachSince (TreeStandsFor batch.dir f) mid new) over_is (carries.any_moment settled_put has_put)

    -- so up to then it leaves the files before or after
    pub since_carried : {F : Type 0} (result : Result Unit F) → CarriesOut batch result mid new → EachSince (StandsForEither batch old) old new
    since_carried result carries =
        since_joined (StandsForEither batch old) old mid new (since_put {E = E} (Ok done) mid kept)
        (since_map (TreeStandsFor batch.dir (files_after batch old)) (StandsForEither batch old) mid new (λ crashed stands. inr stands)
        (since_after result carries))

    -- so does the tree, where it is not carried out to the end
    pub carry_failed : {F : Type 0} (result : Result Unit F) → CarriesOut batch result mid new → TreeStandsFor batch.dir (files_after batch old) (tree_of new)
    carry_failed result carries = since_now (TreeStandsFor batch.dir (files_after batch old)) mid new (since_after result carries) (tree_of new)
        (tree_is_crash_state new)

    -- once it is carried out, the change is made
    pub is_made : (files_below batch.dir (tree_of new) ≡ carried_over batch mid) × IsSettled new → IsMade batch old new
    is_made (files, settled) = record {
      files = files ∙ over_is;
      settled = settled;
      ready = record {
        no_journal = ap (λ (f : Files). f journal) (files ∙ over_is) ∙ laid_other batch.entries before journal (journal_not_named batch.entries valid)
            ∙ ready.no_journal;
        settled = λ p. settled (batch.dir ++ p);
      };
    }
