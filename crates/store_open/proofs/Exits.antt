-- The exits of an opening.
use Rattle.std.proofs.Common.{◌≡◌, inl, inr, ℕ, List, Bool, Option, Result, Ok, Err, refl, sym, subst}
use Rattle.std.specs.Prelude.{IsErrOf}
use Rattle.outside.specs.Names.{Names}
use Rattle.outside.specs.Tree.{Tree}
use Rattle.outside.specs.History.{History, next, synced, tree_of}
use Rattle.outside.specs.Since.{EachSince}
use Rattle.outside.specs.Told.{Moves, WhereTold}
use Rattle.outside.proofs.Told.{moves_map, moves_same, moves_where}
use Rattle.outside.proofs.Since.{since_map}
use Rattle.commit_journal.specs.Recovery.{Recovers, FromSyncOn}
use Rattle.commit_journal.specs.Stands.{ChangesOnlyBelow}
use Rattle.commit_journal.specs.declared.journal_error.JournalError.{JournalError}
use Rattle.commit_journal.specs.declared.journal_error.JournalError.TheVariants as journal
use Rattle.version_links.specs.Names.{store, name_of, numbers}
use Rattle.version_links.specs.Chain.{found, bad, Resolves}
use Rattle.version_links.specs.declared.version.Version.{Version}
use Rattle.store_open.specs.World.{World, HasWorld}
use Rattle.store_open.specs.Reading.{IsOfStore, Refuses}
use Rattle.store_open.specs.Opening.{HasEither, IsOnlyRecovered, Means, Tells, Opens}
use Rattle.store_open.specs.Handing.{HandsJournal, HandsLink}
use Rattle.version_links.specs.declared.link_error.LinkError.{LinkError}
use Rattle.version_links.specs.declared.link_error.LinkError.TheVariants as link
use Rattle.store_open.specs.Phases.{AtFault}
use Rattle.store_open.specs.declared.open_error.OpenError.{OpenError}
use Rattle.store_open.specs.declared.open_error.OpenError.TheVariants as refused
use Rattle.store_open.proofs.Recovered.{one_place, untouched, elsewhere, kept}

-- a refusal that leaves the world as it was is one of an opening
pub opens_not : (boot : Bool) (e : OpenError) (old new : History) → Refuses e old new → Opens boot (Err e) old new
opens_not boot e old new refuses = record {
  any_moment = λ before has. moment before (refuses.stays before has).crash_states;
  there = tt;
  done = tt;
  taken = tt;
  refused = λ before has. inl (refuses.stays before has);
  others = refuses.others;
  told = refuses.told;
}
  where
    moment : (before : World) → FromSyncOn (EachSince (HasWorld before)) old new → FromSyncOn (EachSince (HasEither boot (tree_of old) before)) old new
    moment before (inl same) = inl same
    moment before (inr since) = inr (since_map (HasWorld before) (HasEither boot (tree_of old) before) (next synced old) new (λ tree is. inl is) since)

-- nothing happened
pub nothing_done : (e : OpenError) (old new : History) → new ≡ old → Tells e old new → Refuses e old new
nothing_done e old new same tells = record {
  stays = λ before has. untouched before old new same has;
  others = λ version directory links. inl same;
  told = tells;
}

-- a data directory to which links lead is a path of the store
pub in_store : (tree : Tree) (version : Version) (directory : Names) → Resolves tree (found version directory) → (name : List ℕ) × (directory ≡ store name)
in_store tree version directory links = (name_of (numbers (record { version = version; id = links.0 })), links.2)

-- only the journal was carried out, or not even that
pub only_recovered : (e : OpenError) (directory : Names) (version : Version) (result : Result Bool JournalError) (old new : History)
    → Recovers directory result old new → Resolves (tree_of old) (found version directory) → Tells e old new → Refuses e old new
only_recovered e directory version result old new r links tells =
    let at = in_store (tree_of old) version directory links in
    let here : Resolves (tree_of old) (found version (store at.0)) = subst (λ (d : Names). Resolves (tree_of old) (found version d)) at.1 links in
    let again : Recovers (store at.0) result old new = subst (λ (d : Names). Recovers d result old new) at.1 r in
    record {
      stays = kept at.0 result old new again version here;
      others = λ v d led. subst (λ (d : Names). FromSyncOn (ChangesOnlyBelow d) old new) (sym (one_place (tree_of old) v version d (store at.0) led here).1)
          (elsewhere at.0 result old new again);
      told = tells;
    }

-- the journal was not carried out
pub exit_journal : (directory : Names) (version : Version) (e : JournalError) (f : OpenError) (old new : History) → HandsJournal e f
    → Recovers directory (Err e) old new → Resolves (tree_of old) (found version directory) → Refuses f old new
exit_journal directory version journal.Failed f old new hands r links =
    subst (λ (x : OpenError). Refuses x old new) (sym hands) (only_recovered refused.Failed directory version (Err journal.Failed) old new r links
    tt)
exit_journal directory version journal.Memory f old new hands r links =
    subst (λ (x : OpenError). Refuses x old new) (sym hands) (only_recovered refused.Memory directory version (Err journal.Memory) old new r links
    tt)
exit_journal directory version (journal.BadJournal path) f old new hands r links =
    let is = r.bad path refl in
    subst (λ (x : OpenError). Refuses x old new) (sym hands)
    (only_recovered (refused.BadJournal path) directory version (Err (journal.BadJournal path)) old new r links
    (directory, record { version = version; links = links }, is.0, is.1, is.2))

-- what the data directory and the image tell once the journal was carried out
pub exit_read : (directory : Names) (version : Version) (was : Bool) (e : OpenError) (old new : History) → AtFault directory e new
    → Recovers directory (Ok was) old new → Resolves (tree_of old) (found version directory) → Refuses e old new
exit_read directory version was e old new fault r links = only_recovered e directory version (Ok was) old new r links (tells e fault) where
  only : IsOnlyRecovered directory old new
  only = record { leads = record { version = version; links = links }; journal = was; recovers = r }

  tells : (e : OpenError) → AtFault directory e new → Tells e old new
  tells refused.NoStore fault = absurd fault
  tells (refused.BadLink path) fault = absurd fault
  tells (refused.BadJournal path) fault = absurd fault
  tells (refused.Damaged path) fault = (directory, only, fault)
  tells (refused.OldFormat path) fault = (
    subst (λ (d : Names). IsOnlyRecovered d old new) (sym fault.0) only,
    subst (λ (d : Names). Means d 1 (tree_of new))
        (sym fault.0) fault.1,
  )
  tells (refused.BadImage file kind at) fault = (directory, only, fault.0, fault.1)
  tells (refused.IllTyped key) fault = (directory, only, fault)
  tells refused.Failed fault = tt
  tells refused.Memory fault = tt

-- the links lead nowhere good
pub exit_links : {T : Type 0} (a b : Option History) (e : LinkError) (f : OpenError) → b ≡ a → HandsLink e f
    → ((path : Names) → IsErrOf {T = T} (Err e) (link.BadLink path) → WhereTold a (λ h. Resolves (tree_of h) (bad path))) → Moves a b (Refuses f)
exit_links a b link.Failed f same hands bad_is = subst (λ (x : OpenError). Moves a b (Refuses x)) (sym hands)
    (moves_same same (λ h. nothing_done refused.Failed h h refl tt))
exit_links a b (link.BadLink p) f same hands bad_is = subst (λ (x : OpenError). Moves a b (Refuses x)) (sym hands)
    (moves_map (λ old new both. nothing_done (refused.BadLink p) old new both.1 (both.0, both.1))
    (moves_where (bad_is p refl) (moves_same same (λ h. refl))))
exit_links a b link.Memory f same hands bad_is = subst (λ (x : OpenError). Moves a b (Refuses x)) (sym hands)
    (moves_same same (λ h. nothing_done refused.Memory h h refl tt))

-- an error of the links is not one of an image
pub links_of_store : (e : LinkError) (f : OpenError) → HandsLink e f → IsOfStore f
links_of_store link.Failed f hands = subst IsOfStore (sym hands) tt
links_of_store (link.BadLink path) f hands = subst IsOfStore (sym hands) tt
links_of_store link.Memory f hands = subst IsOfStore (sym hands) tt
