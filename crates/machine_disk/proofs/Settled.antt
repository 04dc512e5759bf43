-- A store whose paths a crash leaves as they are is the same store in each crash state.
use Rattle.std.proofs.Common.{arith, ◌≡◌, ℕ, true, List, [], ◌∷◌, ◌++◌, refl, sym, ◌∙◌, ap, subst}
use Rattle.std.proofs.lemmas.Bool.{and_from, lt-ltb}
use Rattle.outside.specs.Names.{Names}
use Rattle.outside.specs.Tree.{Tree, node_at, link_in, AgreeOn}
use Rattle.outside.specs.History.{History, tree_of, EachCrashState, IsSettledOn}
use Rattle.outside.proofs.Parts.{state_on}
use Rattle.commit_journal.specs.Files.{Files, files_below}
use Rattle.commit_journal.specs.Stands.{StandsFor, journal}
use Rattle.fs_datastore.specs.Stands.{Stands}
use Rattle.version_links.specs.Chain.{HasStep, Leads, Resolves, found}
use Rattle.version_links.specs.Names.{name_of, numbers, store}
use Rattle.version_links.specs.declared.version.Version.{Version}
use Rattle.settings_tree.specs.declared.held.Held.{Held}
use Rattle.settings_machine.specs.World.{World}
use Rattle.version_links.specs.declared.chain.Place.{Place}
use Rattle.machine_disk.specs.Store.{is_store, HoldsIn, HasStore, IsReadyAt}

-- What is in the folder of the store.
pub in_store : (name : List ℕ) (path : Names) → is_store (store name ++ path) ≡ true
in_store name path = and_from _ _ (lt-ltb 1 _ (omega arith)) refl

-- The trees have the same nodes at the paths of links.
pub record SameLinks (c tree : Tree) : Type 0 where
  pub same : (name : List ℕ) → node_at c (store name) ≡ node_at tree (store name)

module _ (c tree : Tree) (links : SameLinks c tree) where
  step_same : (from : List ℕ) (n : ℕ) → HasStep tree from n → HasStep c from n
  step_same from n step = record { text = ap link_in (links.same (name_of from)) ∙ step.text; fits = step.fits }

  leads_same : (from ns : List ℕ) → Leads tree from ns → Leads c from ns
  leads_same from [] leads = tt
  leads_same from (n ∷ ns) leads = (step_same from n leads.0, leads_same (from ++ n ∷ []) ns leads.1)

  pub resolves_same : (version : Version) (dir : Names) → Resolves tree (found version dir) → Resolves c (found version dir)
  resolves_same version dir r = (r.0, leads_same [] (numbers (record { version = version; id = r.0 })) r.1, r.2)

-- A data directory is a name in the folder of the store.
pub dir_named : (tree : Tree) (version : Version) (dir : Names) → Resolves tree (found version dir) → (name : List ℕ) × (dir ≡ store name)
dir_named tree version dir r = (name_of (numbers (record { version = version; id = r.0 })), r.2)

holds_same : (c tree : Tree) (dir : Names) (held : Held) (format : ℕ) → files_below dir c ≡ files_below dir tree → HoldsIn dir held format tree
    → HoldsIn dir held format c
holds_same c tree dir held format same holds = record {
  files = holds.files;
  stands_for = subst (λ (now : Files). StandsFor now holds.files)
      (sym same) holds.stands_for;
  stands = holds.stands;
}

-- Trees that agree on the folder of the store have the same store.
pub store_same : (W : World) (c tree : Tree) → AgreeOn is_store c tree → HasStore W tree → HasStore W c
store_same W c tree agree has = record {
  directory = has.directory;
  resolves = resolves_same c tree links W.version has.directory has.resolves;
  holds = holds_same c tree has.directory W.held W.format files has.holds;
} where
  links : SameLinks c tree
  links = record { same = λ name. agree.same (store name) (in_store name []) }

  at : (path : Names) → node_at c (has.directory ++ path) ≡ node_at tree (has.directory ++ path)
  at path =
      let d = dir_named tree W.version has.directory has.resolves in
      agree.same (has.directory ++ path) (ap (λ (dir : Names). is_store (dir ++ path)) d.1 ∙ in_store d.0 path)

  files : files_below has.directory c ≡ files_below has.directory tree
  files = λ i path. at path i

-- Where the store's paths are settled, each crash state has the store of the tree.
pub settled_store : (W : World) (h : History) → IsSettledOn is_store h → HasStore W (tree_of h) → EachCrashState (HasStore W) h
settled_store W h settled has c left = store_same W c (tree_of h) (state_on is_store h settled c left) has

-- A change elsewhere leaves the store ready.
pub ready_elsewhere : (place : Place) (held : Held) (old new : History) → AgreeOn is_store (tree_of new) (tree_of old) → IsSettledOn is_store new
    → IsReadyAt place held old → IsReadyAt place held new
ready_elsewhere place held old new agree settled r = record {
  settled = settled;
  resolves = resolves_same (tree_of new) (tree_of old) (record { same = λ name. agree.same (store name) (in_store name []) }) place.version place.directory
      r.resolves;
  ready = record { no_journal = at journal ∙ r.ready.no_journal; settled = λ path. settled.at (place.directory ++ path) (in_dir path) };
  stands = subst (λ (f : Files). Stands f held 2) (sym files) r.stands;
} where
  in_dir : (path : Names) → is_store (place.directory ++ path) ≡ true
  in_dir path =
      let d = dir_named (tree_of old) place.version place.directory r.resolves in
      ap (λ (dir : Names). is_store (dir ++ path)) d.1 ∙ in_store d.0 path

  at : (path : Names) → node_at (tree_of new) (place.directory ++ path) ≡ node_at (tree_of old) (place.directory ++ path)
  at path = agree.same (place.directory ++ path) (in_dir path)

  files : files_below place.directory (tree_of new) ≡ files_below place.directory (tree_of old)
  files = λ i path. at path i
