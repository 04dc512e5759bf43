-- What a copy of a directory holds once its journal was carried out, said of the directory.
use Rattle.std.proofs.Common.{◌≡◌, ◌⊎◌, inl, inr, ℕ, Option, Some, None, IsSome, Result, Ok, Err, Bool, refl, sym, ap, ◌∙◌, subst}
use Rattle.std.specs.Prelude.{is_some, IfOk, IfErr, IsErrOf}
use Rattle.outside.specs.Names.{Names}
use Rattle.outside.specs.Tree.{Node, file, Tree, file_in, link_in}
use Rattle.outside.specs.Tree as outside
use Rattle.outside.specs.History.{History, tree_of}
use Rattle.outside.specs.Told.{WhereTold}
use Rattle.outside.proofs.Told.{where_map, where_both, where_all}
use Rattle.commit_journal.specs.Files.{Files, files_below}
use Rattle.commit_journal.specs.Recovery.{Recovers, IsBad}
use Rattle.commit_journal.specs.Stands.{journal, StandsFor, TreeStandsFor}
use Rattle.settings_tree.specs.declared.held.Held.{Held}
use Rattle.fs_datastore.proofs.Alike.{stands_without_journal}
use Rattle.fs_datastore.specs.Stands.{Stands}
use Rattle.machine_disk.specs.Store.{HoldsIn}
use Rattle.version_links.specs.Chain.{found, bad, Resolves}
use Rattle.version_links.specs.declared.link_error.LinkError.{LinkError}
use Rattle.version_links.specs.declared.link_error.LinkError.TheVariants as link
use Rattle.version_links.specs.declared.version.Version.{Version}
use Rattle.store_open.specs.Handing.{HandsLink}
use Rattle.store_open.specs.Opening.{LeadTo}
use Rattle.store_open.specs.Peeking.{WouldFind, TellsIn, TellsOf}
use Rattle.store_open.specs.Reading.{IsOfStore}
use Rattle.store_open.specs.Phases.{AtFault}
use Rattle.store_open.specs.declared.open_error.OpenError.{OpenError}
use Rattle.store_open.specs.declared.open_error.OpenError.TheVariants as refused

module _ (dir : Names) (was : Bool) (old new : History) (r : Recovers dir (Ok was) old new) where
  abbrev there : Files
  there = files_below dir (tree_of old)

  abbrev after : Files
  after = files_below dir (tree_of new)

  -- the files after the recovery are those that an opening finds
  finds : WouldFind dir after (tree_of old)
  finds = by (there journal) refl where
    carried : link_in (there journal) ≡ None → WouldFind dir after (tree_of old)
    carried none = let stood = r.stood none in
        inl (subst (λ (f : Files). TreeStandsFor dir f (tree_of old)) (sym (r.done stood.0 stood.1).files_are) stood.1)

    by : (o : Option Node) → there journal ≡ o → WouldFind dir after (tree_of old)
    by None is = carried (ap link_in is)
    by (Some (file bytes)) is = carried (ap link_in is)
    by (Some (outside.link text)) is = inr (
      subst IsSome (sym (ap link_in is)) refl,
      ap (λ (h : History). files_below dir (tree_of h)) (r.none (r.found ∙ ap (λ (o : Option Node). is_some (file_in o)) is)),
    )

  -- what they hold the directory holds
  pub holds : (held : Held) (format : ℕ) → Stands after held format → HoldsIn dir held format (tree_of old)
  holds held format stands = elim finds [
    | inl stands_for ↦ record { files = after; stands_for = stands_for; stands = stands }
    | inr linked ↦ absurd (no_link (there journal) (ap (λ (f : Files). f journal) (sym linked.1) ∙ stands_without_journal after held format stands) linked.0)
  ]
    where
      no_link : (o : Option Node) → o ≡ None → IsSome (link_in o) → ⊥
      no_link o none some = cc (sym some ∙ ap (λ (x : Option Node). is_some (link_in x)) none)

  -- a refusal of them is one of the directory
  pub tells : (e : OpenError) → AtFault dir e new → IsOfStore e → TellsIn dir e (tree_of old)
  tells refused.NoStore fault of = absurd fault
  tells (refused.BadLink path) fault of = absurd fault
  tells (refused.BadJournal path) fault of = absurd fault
  tells (refused.Damaged path) fault of = record { files = after; finds = finds; below = fault.below; path_is = fault.path_is; fault = fault.fault }
  tells (refused.OldFormat path) fault of = (fault.0, fault.1.held, holds fault.1.held 1 fault.1.means)
  tells (refused.BadImage name kind at) fault of = absurd of
  tells (refused.IllTyped key) fault of = absurd of
  tells refused.Failed fault of = tt
  tells refused.Memory fault of = tt

  pub held_in : (r : Result Held OpenError) → IfOk r (λ held. WhereTold (Some new) (λ h. Stands (files_below dir (tree_of h)) held 2))
      → IfOk r (λ held. HoldsIn dir held 2 (tree_of old))
  held_in (Ok held) stands = holds held 2 stands.is
  held_in (Err e) stands = tt

  pub told_in : (r : Result Held OpenError) → IfErr r (λ e. WhereTold (Some new) (AtFault dir e)) → IfErr r IsOfStore
      → IfErr r (λ e. TellsIn dir e (tree_of old))
  told_in (Ok held) fault of = tt
  told_in (Err e) fault of = tells e fault.is of

-- ---- the same files in two trees

module _ (dir : Names) (one other : Tree) (same : files_below dir one ≡ files_below dir other) where
  stands_for_same : (files : Files) → TreeStandsFor dir files one → TreeStandsFor dir files other
  stands_for_same files stands = subst (λ (f : Files). StandsFor f files) same stands

  pub holds_same : (held : Held) (format : ℕ) → HoldsIn dir held format one → HoldsIn dir held format other
  holds_same held format holds = record { files = holds.files; stands_for = stands_for_same holds.files holds.stands_for; stands = holds.stands }

  find_same : (files : Files) → WouldFind dir files one → WouldFind dir files other
  find_same files finds = subst (λ (f : Files). StandsFor f files ⊎ (IsSome (link_in (f journal)) × (files ≡ f))) same finds

  bad_same : IsBad dir one → IsBad dir other
  bad_same wrong = (wrong.0, sym (ap (λ (f : Files). file_in (f journal)) same) ∙ wrong.1, wrong.2)

  pub tells_same : (e : OpenError) → TellsIn dir e one → TellsIn dir e other
  tells_same refused.NoStore told = absurd told
  tells_same (refused.BadLink path) told = absurd told
  tells_same (refused.BadJournal path) told = (told.0, bad_same told.1)
  tells_same (refused.Damaged path) told = record {
    files = told.files;
    finds = find_same told.files told.finds;
    below = told.below;
    path_is = told.path_is;
    fault = told.fault;
  }
  tells_same (refused.OldFormat path) told = (told.0, told.1, holds_same told.1 1 told.2)
  tells_same (refused.BadImage name kind at) told = absurd told
  tells_same (refused.IllTyped key) told = absurd told
  tells_same refused.Failed told = tt
  tells_same refused.Memory told = tt

-- what was found in the copy is there
module _ (dir : Names) (copy : Tree) (a : Option History) (same : WhereTold a (λ h. files_below dir copy ≡ files_below dir (tree_of h))) where
  pub held_there : (r : Result Held OpenError) → IfOk r (λ held. HoldsIn dir held 2 copy)
      → IfOk r (λ held. WhereTold a (λ h. HoldsIn dir held 2 (tree_of h)))
  held_there (Ok held) holds = where_map (λ h is. holds_same dir copy (tree_of h) is held 2 holds) same
  held_there (Err e) holds = tt

  pub told_there : (r : Result Held OpenError) → IfErr r (λ e. TellsIn dir e copy) → IfErr r (λ e. WhereTold a (λ h. TellsIn dir e (tree_of h)))
  told_there (Ok held) told = tt
  told_there (Err e) told = where_map (λ h is. tells_same dir copy (tree_of h) is e told) same

-- ---- the links

of_links : (dir : Names) (version : Version) (tree : Tree) (e : OpenError) → Resolves tree (found version dir) → TellsIn dir e tree → TellsOf e tree
of_links dir version tree refused.NoStore links told = absurd told
of_links dir version tree (refused.BadLink path) links told = absurd told
of_links dir version tree (refused.BadJournal path) links told = (dir, record { version = version; links = links }, told)
of_links dir version tree (refused.Damaged path) links told = (dir, record { version = version; links = links }, told)
of_links dir version tree (refused.OldFormat path) links told = subst (λ (d : Names). LeadTo d tree × ((held : Held) × HoldsIn d held 1 tree)) (sym told.0)
    (record { version = version; links = links }, (told.1, told.2))
of_links dir version tree (refused.BadImage name kind at) links told = absurd told
of_links dir version tree (refused.IllTyped key) links told = absurd told
of_links dir version tree refused.Failed links told = tt
of_links dir version tree refused.Memory links told = tt

-- a refusal of the directory to which the links lead
pub told_of : (dir : Names) (version : Version) (a : Option History) (e : OpenError) → WhereTold a (λ h. Resolves (tree_of h) (found version dir))
    → WhereTold a (λ h. TellsIn dir e (tree_of h)) → WhereTold a (λ h. TellsOf e (tree_of h))
told_of dir version a e links told = where_map (λ h both. of_links dir version (tree_of h) e both.0 both.1) (where_both links told)

-- a refusal of the links
pub told_links : {T : Type 0} (a : Option History) (e : LinkError) (f : OpenError) → HandsLink e f
    → ((path : Names) → IsErrOf {T = T} (Err e) (link.BadLink path) → WhereTold a (λ h. Resolves (tree_of h) (bad path)))
    → WhereTold a (λ h. TellsOf f (tree_of h))
told_links a link.Failed f hands bad_is = subst (λ (x : OpenError). WhereTold a (λ h. TellsOf x (tree_of h))) (sym hands) (where_all (λ h. tt))
told_links a (link.BadLink path) f hands bad_is = subst (λ (x : OpenError). WhereTold a (λ h. TellsOf x (tree_of h))) (sym hands) (bad_is path refl)
told_links a link.Memory f hands bad_is = subst (λ (x : OpenError). WhereTold a (λ h. TellsOf x (tree_of h))) (sym hands) (where_all (λ h. tt))
