-- A store is found, and its journal carried out.
use Rattle.std.proofs.Common.{◌≡◌, inl, inr, ℕ, Bool, true, false, is_some, Option, Some, None, Result, Ok, Err, refl, sym, ◌∙◌, ap, subst}
use Rattle.std.specs.Prelude.{IsErrAnd}
use Rattle.std.proofs.lemmas.Result.{err_from_is_err_and}
use Rattle.outside.specs.Names.{Names}
use Rattle.outside.specs.Tree.{Tree, Node, file, link, node_at, file_in, link_in}
use Rattle.outside.specs.History.{History, next, synced, tree_of}
use Rattle.outside.specs.Since.{EachSince, Touches}
use Rattle.outside.specs.Told.{Moves, WhereTold}
use Rattle.outside.proofs.Crash.{settled_synced}
use Rattle.outside.proofs.Since.{since_map, since_both}
use Rattle.outside.proofs.Told.{moves_map, moves_where, moves_same, moves_after, moves_then, where_all, where_map}
use Rattle.commit_journal.specs.Files.{Files, files_below, IsBelow}
use Rattle.commit_journal.specs.Stands.{journal, TreeStandsFor}
use Rattle.commit_journal.specs.Recovery.{FromSyncOn, Recovers}
use Rattle.commit_journal.specs.declared.journal_error.JournalError.{JournalError}
use Rattle.commit_journal.specs.declared.journal_error.JournalError.TheVariants as broken
use Rattle.settings_tree.specs.declared.held.Held.{Held}
use Rattle.fs_datastore.specs.Stands.{Stands}
use Rattle.fs_datastore.specs.Damage.{IsFaultBelow}
use Rattle.fs_datastore.proofs.Alike.{stands_without_journal}
use Rattle.fs_datastore.proofs.Meaning.{one_meaning}
use Rattle.fs_datastore.specs.declared.load_error.LoadError.{LoadError}
use Rattle.fs_datastore.specs.declared.load_error.LoadError.TheVariants as files
use Rattle.version_links.specs.declared.version.Version.{Version}
use Rattle.version_links.specs.declared.chain.Place.{Place}
use Rattle.version_links.specs.declared.link_error.LinkError.{LinkError}
use Rattle.version_links.specs.declared.link_error.LinkError.TheVariants as links
use Rattle.version_links.specs.Names.{is_in_store}
use Rattle.version_links.specs.Steps.{outcome_of}
use Rattle.version_links.specs.Chain.{nowhere, found, bad, Resolves}
use Rattle.version_links.proofs.Chains.{resolves_one}
use Rattle.version_links.proofs.Turns.{same_outcome}
use Rattle.migrate_chain.specs.Store.{at_place, HasStore}
use Rattle.migrate_chain.specs.Starting.{Starts, HasBadJournal, IsDamagedAt}
use Rattle.migrate_chain.specs.Errors.{of_link, of_journal, of_load}
use Rattle.migrate_chain.specs.Moving.{IsRefusal}
use Rattle.migrate_chain.specs.declared.start.Start.{Start}
use Rattle.migrate_chain.specs.declared.move_error.MoveError.{MoveError}
use Rattle.migrate_chain.specs.declared.move_error.MoveError.TheVariants.{NoStore, BadLink, BadJournal, Damaged, Missing, Failed, Memory}
use Rattle.migrate_chain.proofs.Stays.{paths_kept, below_no_link}

same_error : (x y : MoveError) → ◌≡◌ {A = Result Start MoveError} (Err x) (Err y) → x ≡ y
same_error x y e = cc

-- ---- nothing is changed

stays_put : (x : MoveError) (h : History) → (x ≡ NoStore → Resolves (tree_of h) nowhere) → ((path : Names) → x ≡ BadLink path → Resolves (tree_of h) (bad path))
    → ((path : Names) → x ≡ BadJournal path → HasBadJournal path h) → ((path : Names) → x ≡ Damaged path → IsDamagedAt path h h)
    → ((at target : Version) → x ≡ Missing at target → ⊥) → Starts (Err x) h h
stays_put x h none links journal damage no_plan = record {
  keeps = λ place held format store. inl refl;
  sync_first = λ place led. inl refl;
  ready = tt;
  found = tt;
  no_store = λ is. (none (same_error x NoStore is), refl);
  bad_link = λ path is. (links path (same_error x (BadLink path) is), refl);
  bad_journal = λ path is. journal path (same_error x (BadJournal path) is);
  damaged = λ path is. damage path (same_error x (Damaged path) is);
  no_plan = λ at target is. no_plan at target (same_error x (Missing at target) is);
}

pub start_no_links : (e : LinkError) (a b : Option History) → ((path : Names) → e ≡ links.BadLink path → WhereTold a (λ h. Resolves (tree_of h) (bad path)))
    → b ≡ a → Moves a b (Starts (Err (of_link e)))
start_no_links links.Failed a b told same = moves_same same (λ h. stays_put Failed h (λ e. cc) (λ path e. cc) (λ path e. cc) (λ path e. cc) (λ at target e. cc))
start_no_links links.Memory a b told same = moves_same same (λ h. stays_put Memory h (λ e. cc) (λ path e. cc) (λ path e. cc) (λ path e. cc) (λ at target e. cc))
start_no_links (links.BadLink at) a b told same = moves_map (λ old new both. subst (λ h. Starts (Err (BadLink at)) old h) (sym both.1)
    (stays_put (BadLink at) old (λ e. cc) (λ path e. subst (λ p. Resolves (tree_of old) (bad p)) (one_path at path e) both.0) (λ path e. cc) (λ path e. cc)
    (λ v w e. cc))) (moves_where (told at refl) (moves_same {R = λ s t. t ≡ s} same (λ s. refl)))
  where
    one_path : (p q : Names) → BadLink p ≡ BadLink q → p ≡ q
    one_path p q e = cc

-- ---- the journal

versions_one : (v w : Version) (p q : Names) → found v p ≡ found w q → (v ≡ w) × (p ≡ q)
versions_one v w p q e = (cc, cc)

-- The links lead to one place.
pub one_place : (tree : Tree) (place other : Place) → Resolves tree (at_place place) → Resolves tree (at_place other) → place ≡ other
one_place tree place other led also =
    let both = versions_one place.version other.version place.directory other.directory (resolves_one tree (at_place place) (at_place other) led also) in
    ap (λ (v : Version). record { version = v; directory = place.directory }) both.0 ∙ ap (λ (d : Names). record { version = other.version; directory = d })
    both.1

module _ (place : Place) where
  link_apart : (tree : Tree) → Resolves tree (at_place place) → (p : Names) → is_in_store p ≡ true → IsBelow place.directory p → ⊥
  link_apart tree (id, led, at) p in_links below = below_no_link (record { version = place.version; id = id }) p (subst (λ d. IsBelow d p) at below) in_links

  -- A recovery keeps the store.
  keeps_store : (result : Result Bool JournalError) (old new : History) → Resolves (tree_of old) (at_place place) → Recovers place.directory result old new
      → (held : Held) (format : ℕ) → HasStore place held format (tree_of old) → FromSyncOn (EachSince (HasStore place held format)) old new
  keeps_store result old new led recovers held format store = both (recovers.sync_first) (recovers.keeps store.stands.files store.stands.found)
    where
      mid : History
      mid = next synced old

      both : FromSyncOn (Touches (IsBelow place.directory)) old new → FromSyncOn (EachSince (TreeStandsFor place.directory store.stands.files)) old new
          → FromSyncOn (EachSince (HasStore place held format)) old new
      both (inl is) any = inl is
      both (inr touches) (inl is) = inl is
      both (inr touches) (inr since) = inr (since_map (λ crashed. ((p : Names) → is_in_store p ≡ true → node_at crashed p ≡ node_at (tree_of mid) p)
          × TreeStandsFor place.directory store.stands.files crashed) (HasStore place held format) mid new
          (λ crashed facts. record {
            led = same_outcome crashed (tree_of old) (record { same = facts.0 }) (at_place place) led;
            stands = record { files = store.stands.files; found = facts.1; stands = store.stands.stands };
          })
          (since_both (λ crashed. (p : Names) → is_in_store p ≡ true → node_at crashed p ≡ node_at (tree_of mid) p)
          (TreeStandsFor place.directory store.stands.files) mid new
          (paths_kept (IsBelow place.directory) (λ p. is_in_store p ≡ true) (λ p in_links below. link_apart (tree_of old) led p in_links below) mid new touches
          (λ p in_links. settled_synced old p)) since))

  led_after : (old new : History) → Resolves (tree_of old) (at_place place)
      → ((p : Names) → (IsBelow place.directory p → ⊥) → node_at (tree_of new) p ≡ node_at (tree_of old) p) → Resolves (tree_of new) (at_place place)
  led_after old new led same = same_outcome (tree_of new) (tree_of old) (record { same = λ p pass. same p (link_apart (tree_of old) led p pass) })
      (at_place place) led

  -- The same for any store that was there.
  any_store : (result : Result Bool JournalError) (old new : History) → Resolves (tree_of old) (at_place place) → Recovers place.directory result old new
      → (other : Place) (held : Held) (format : ℕ) → HasStore other held format (tree_of old) → FromSyncOn (EachSince (HasStore other held format)) old new
  any_store result old new led recovers other held format store =
      let same = one_place (tree_of old) place other led store.led in
      subst (λ (q : Place). FromSyncOn (EachSince (HasStore q held format)) old new) same
      (keeps_store result old new led recovers held format (subst (λ (q : Place). HasStore q held format (tree_of old)) (sym same) store))

  any_touch : (result : Result Bool JournalError) (old new : History) → Resolves (tree_of old) (at_place place) → Recovers place.directory result old new
      → (other : Place) → Resolves (tree_of old) (at_place other) → FromSyncOn (Touches (IsBelow other.directory)) old new
  any_touch result old new led recovers other also = subst (λ (q : Place). FromSyncOn (Touches (IsBelow q.directory)) old new)
      (one_place (tree_of old) place other led also) recovers.sync_first

  -- The journal is not carried out.
  unrecovered : (e : JournalError) (old new : History) → Resolves (tree_of old) (at_place place) → Recovers place.directory (Err e) old new
      → Starts (Err (of_journal e)) old new
  unrecovered e old new led recovers = record {
    keeps = any_store (Err e) old new led recovers;
    sync_first = any_touch (Err e) old new led recovers;
    ready = tt;
    found = tt;
    no_store = λ is. absurd (not_none e (same_error (of_journal e) NoStore is));
    bad_link = λ path is. absurd (not_link e path (same_error (of_journal e) (BadLink path) is));
    bad_journal = λ path is. let told = recovers.bad path (ap (λ x. Err x) (only e path (same_error (of_journal e) (BadJournal path) is))) in
        record { place = place; led = led; path_is = told.0; bad_there = told.1 };
    damaged = λ path is. absurd (not_damage e path (same_error (of_journal e) (Damaged path) is));
    no_plan = λ at target is. not_plan e at target (same_error (of_journal e) (Missing at target) is);
  }
    where
      not_none : (e : JournalError) → of_journal e ≡ NoStore → ⊥
      not_none broken.Failed is = cc
      not_none (broken.BadJournal p) is = cc
      not_none broken.Memory is = cc

      not_link : (e : JournalError) (path : Names) → of_journal e ≡ BadLink path → ⊥
      not_link broken.Failed path is = cc
      not_link (broken.BadJournal p) path is = cc
      not_link broken.Memory path is = cc

      not_damage : (e : JournalError) (path : Names) → of_journal e ≡ Damaged path → ⊥
      not_damage broken.Failed path is = cc
      not_damage (broken.BadJournal p) path is = cc
      not_damage broken.Memory path is = cc

      not_plan : (e : JournalError) (at target : Version) → of_journal e ≡ Missing at target → ⊥
      not_plan broken.Failed at target is = cc
      not_plan (broken.BadJournal p) at target is = cc
      not_plan broken.Memory at target is = cc

      only : (e : JournalError) (path : Names) → of_journal e ≡ BadJournal path → e ≡ broken.BadJournal path
      only broken.Failed path is = cc
      only (broken.BadJournal p) path is = let same : p ≡ path = cc in ap (λ q. broken.BadJournal q) same
      only broken.Memory path is = cc

  -- The files are not read.
  unread : (was : Bool) (e : LoadError) (old new : History) → Resolves (tree_of old) (at_place place) → Recovers place.directory (Ok was) old new
      → ((path : Names) → e ≡ files.Damaged path → IsFaultBelow place.directory (tree_of new) path) → Starts (Err (of_load e)) old new
  unread was e old new led recovers damage = record {
    keeps = any_store (Ok was) old new led recovers;
    sync_first = any_touch (Ok was) old new led recovers;
    ready = tt;
    found = tt;
    no_store = λ is. absurd (not_none e (same_error (of_load e) NoStore is));
    bad_link = λ path is. absurd (not_link e path (same_error (of_load e) (BadLink path) is));
    bad_journal = λ path is. absurd (not_journal e path (same_error (of_load e) (BadJournal path) is));
    damaged = λ path is. record { place = place; led = led; fault = damage path (only e path (same_error (of_load e) (Damaged path) is)) };
    no_plan = λ at target is. not_plan e at target (same_error (of_load e) (Missing at target) is);
  }
    where
      not_none : (e : LoadError) → of_load e ≡ NoStore → ⊥
      not_none files.Failed is = cc
      not_none (files.Damaged p) is = cc
      not_none files.Memory is = cc

      not_link : (e : LoadError) (path : Names) → of_load e ≡ BadLink path → ⊥
      not_link files.Failed path is = cc
      not_link (files.Damaged p) path is = cc
      not_link files.Memory path is = cc

      not_journal : (e : LoadError) (path : Names) → of_load e ≡ BadJournal path → ⊥
      not_journal files.Failed path is = cc
      not_journal (files.Damaged p) path is = cc
      not_journal files.Memory path is = cc

      not_plan : (e : LoadError) (at target : Version) → of_load e ≡ Missing at target → ⊥
      not_plan files.Failed at target is = cc
      not_plan (files.Damaged p) at target is = cc
      not_plan files.Memory at target is = cc

      only : (e : LoadError) (path : Names) → of_load e ≡ Damaged path → e ≡ files.Damaged path
      only files.Failed path is = cc
      only (files.Damaged p) path is = let same : p ≡ path = cc in ap (λ q. files.Damaged q) same
      only files.Memory path is = cc

  -- What is read is what the directory represented.
  was_there : (was : Bool) (held : Held) (format : ℕ) (old new : History) → Resolves (tree_of old) (at_place place) → Recovers place.directory (Ok was) old new
      → Stands (files_below place.directory (tree_of new)) held format → HasStore place held format (tree_of old)
  was_there was held format old new led recovers stands =
      let stood = recovers.stood (no_link (files_below place.directory (tree_of old) journal) refl) in
      record {
        led = led;
        stands = record {
          files = stood.0;
          found = stood.1;
          stands =
              subst (λ (l : Files). Stands l held format) (recovers.done stood.0 stood.1).files_are stands;
        };
      }
    where
      no_link : (o : Option Node) → files_below place.directory (tree_of old) journal ≡ o → link_in o ≡ None
      no_link None is = refl
      no_link (Some (file bytes)) is = refl
      no_link (Some (link text)) is =
          let none : was ≡ false = recovers.found ∙ ap (λ (o : Option Node). is_some (file_in o)) is in
          let after : files_below place.directory (tree_of new) journal ≡ files_below place.directory (tree_of old) journal =
          ap (λ (h : History). files_below place.directory (tree_of h) journal) (recovers.none none) in
          let both : None ≡ Some (link text) = sym (stands_without_journal (files_below place.directory (tree_of new)) held format stands) ∙ after ∙ is in
          absurd (cc)

  -- All is read.
  read : (was : Bool) (held : Held) (format : ℕ) (old new : History) → Resolves (tree_of old) (at_place place) → Recovers place.directory (Ok was) old new
      → Stands (files_below place.directory (tree_of new)) held format → Starts (Ok (record { place = place; held = held; format = format })) old new
  read was held format old new led recovers stands = record {
    keeps = any_store (Ok was) old new led recovers;
    sync_first = any_touch (Ok was) old new led recovers;
    ready = record {
      was = was_there was held format old new led recovers stands;
      led = led_after old new led recovers.others.tree;
      stands = stands;
      settled =
          recovers.settled;
    };
    found = λ other h f store.
        let same = one_place (tree_of old) place other led store.led in
        let there : TreeStandsFor place.directory store.stands.files (tree_of old) =
        subst (λ (q : Place). TreeStandsFor q.directory store.stands.files (tree_of old)) (sym same) store.stands.found in
        let after = recovers.done store.stands.files there in
        let meaning = one_meaning (files_below place.directory (tree_of new)) held h format f stands
        (subst (λ (l : Files). Stands l h f) (sym after.files_are) store.stands.stands) in
        record { place_is = same; held_is = meaning.0; format_is = meaning.1 };
    no_store = λ is. absurd (no is);
    bad_link = λ path is. absurd (no is);
    bad_journal = λ path is. absurd (no is);
    damaged = λ path is. absurd (no is);
    no_plan = λ at target is. no is;
  }
    where
      no : {s : Start} {x : MoveError} → ◌≡◌ {A = Result Start MoveError} (Ok s) (Err x) → ⊥
      no e = cc

-- ---- what a device tells

pub start_unrecovered : (place : Place) (e : JournalError) (a b c : Option History) → WhereTold a (λ h. Resolves (tree_of h) (at_place place)) → b ≡ a
    → Moves b c (Recovers place.directory (Err e)) → Moves a c (Starts (Err (of_journal e)))
start_unrecovered place e a b c led same m = moves_map (λ old new both. unrecovered place e old new both.0 both.1) (moves_where led (moves_after same m))

each_damage : (place : Place) (e : LoadError) (c : Option History) → ((path : Names) → e ≡ files.Damaged path
    → WhereTold c (λ h. IsFaultBelow place.directory (tree_of h) path))
    → WhereTold c (λ h. (path : Names) → e ≡ files.Damaged path → IsFaultBelow place.directory (tree_of h) path)
each_damage place files.Failed c told = where_all (λ h path is. cc)
each_damage place files.Memory c told = where_all (λ h path is. cc)
each_damage place (files.Damaged p) c told = where_map (λ h fault path is. subst (λ q. IsFaultBelow place.directory (tree_of h) q) (one_path p path is) fault)
    (told p refl)
  where
    one_path : (p q : Names) → files.Damaged p ≡ files.Damaged q → p ≡ q
    one_path p q e = cc

-- Where the links lead, as it is answered.
pub led_from : (a : Option History) (answer : Option Place) (place : Place) → answer ≡ Some place → WhereTold a (λ h. Resolves (tree_of h) (outcome_of answer))
    → WhereTold a (λ h. Resolves (tree_of h) (at_place place))
led_from a answer place is led = subst (λ (o : Option Place). WhereTold a (λ h. Resolves (tree_of h) (outcome_of o))) is led

pub start_unread : (place : Place) (was : Bool) (e : LoadError) (a b c d : Option History) → WhereTold a (λ h. Resolves (tree_of h) (at_place place)) → b ≡ a
    → Moves b c (Recovers place.directory (Ok was)) → ((path : Names) → e ≡ files.Damaged path
    → WhereTold c (λ h. IsFaultBelow place.directory (tree_of h) path)) → d ≡ c → Moves a d (Starts (Err (of_load e)))
start_unread place was e a b c d led same m damage kept =
    moves_then (λ old mid new first then. subst (λ h. Starts (Err (of_load e)) old h) (sym then.1) (unread place was e old mid first.0 first.1 then.0))
    (moves_where led (moves_after same m)) (moves_where (each_damage place e c damage) (moves_same {R = λ s t. t ≡ s} kept (λ s. refl)))

pub start_read : (place : Place) (was : Bool) (held : Held) (format : ℕ) (a b c d : Option History) → WhereTold a (λ h. Resolves (tree_of h) (at_place place))
    → b ≡ a → Moves b c (Recovers place.directory (Ok was)) → WhereTold c (λ h. Stands (files_below place.directory (tree_of h)) held format) → d ≡ c
    → Moves a d (Starts (Ok (record { place = place; held = held; format = format })))
start_read place was held format a b c d led same m stands kept =
    moves_then (λ old mid new first then. subst (λ h. Starts (Ok (record { place = place; held = held; format = format })) old h) (sym then.1)
    (read place was held format old mid first.0 first.1 then.0))
    (moves_where led (moves_after same m)) (moves_where stands (moves_same {R = λ s t. t ≡ s} kept (λ s. refl)))

-- The error of a `?`.
pub error_is : {T E : Type 0} (r : Result T E) (e : E) → IsErrAnd r (λ x. x ≡ e) → r ≡ Err e
error_is r e is = let p = err_from_is_err_and r is in p.1 ∙ ap Err p.2

-- ---- no error is a refusal of a migration

pub link_quiet : (e : LinkError) → IsRefusal (of_link e) → ⊥
link_quiet links.Failed refusal = refusal
link_quiet (links.BadLink p) refusal = refusal
link_quiet links.Memory refusal = refusal

pub journal_quiet : (e : JournalError) → IsRefusal (of_journal e) → ⊥
journal_quiet broken.Failed refusal = refusal
journal_quiet (broken.BadJournal p) refusal = refusal
journal_quiet broken.Memory refusal = refusal

pub load_quiet : (e : LoadError) → IsRefusal (of_load e) → ⊥
load_quiet files.Failed refusal = refusal
load_quiet (files.Damaged p) refusal = refusal
load_quiet files.Memory refusal = refusal
